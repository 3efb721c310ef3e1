-- The scenario of `soak`.
use Rattle.std.specs.Prelude.{ℕ, ◌+◌, ◌*◌, List, ◌++◌, codes, decimal}
use Rattle.std.specs.List.{flat_map, range_with_len}

-- the common program, round by round: r8 goes up by 1 and is stored, is sent to the port in slot 1, the talk ends, and r9 counts down to 0
abbrev pub counting : List ℕ
counting = codes "next: addi r8, r8, 1\nset r7, 64\nstore r8, r7, 0\n"

abbrev pub sending : List ℕ
sending = codes "set r0, 33\nset r1, 1\nset r2, 64\nset r3, 1\ncall\nset r0, 39\ncall\n"

abbrev pub repeating : List ℕ
repeating = codes "addi r9, r9, -1\njnz r9, next\nhalt\n"

unfoldable pub program : List ℕ
program = codes "\n[programs]\nsoak = \"\"\"\n" ++ (counting ++ (sending ++ (repeating ++ codes "\"\"\"\n")))

-- how long it runs at most and by how many workers, the program, and the root, which is a nester
unfoldable pub opening : List ℕ
opening = codes "budget = 1000000\nworkers = 4\n" ++ (program ++ codes "\n[[space]]\npath = \"/\"\nnester = true\n")

-- the space in a slot of the root, with page 1 and the common program
unfoldable pub space_text : ℕ → List ℕ
space_text slot = codes "\n[[space]]\npath = \"/" ++ (decimal slot ++ codes "\"\nprogram = \"soak\"\npages = [1]\n")

-- its thread in slot 0, with what r8 counts on from, and 10 in r9
unfoldable pub thread_text : ℕ → ℕ → List ℕ
thread_text slot first = codes "\n[[object]]\nat = \"/"
    ++ (decimal slot ++ (codes "/0\"\nkind = \"thread\"\nregs = [0, 0, 0, 0, 0, 0, 0, 0, " ++ (decimal first ++ codes ", 10]\n")))

-- its reference in slot 1 to a port of the root
unfoldable pub reference_text : ℕ → ℕ → List ℕ
reference_text slot port =
    codes "\n[[object]]\nat = \"/" ++ (decimal slot ++ (codes "/1\"\nkind = \"reference\"\nto = \"/" ++ (decimal port ++ codes "\"\n")))

-- a port of the root, and a console that serves it
unfoldable pub port_text : ℕ → List ℕ
port_text port = codes "\n[[object]]\nat = \"/" ++ (decimal port ++ codes "\"\nkind = \"port\"\n")

unfoldable pub server_text : ℕ → List ℕ → List ℕ
server_text port alias =
    codes "\n[[server]]\nport = \"/" ++ (decimal port ++ (codes "\"\nrule = \"console\"\nalias = \"" ++ (alias ++ codes "\"\n")))

unfoldable pub console_text : ℕ → List ℕ → List ℕ
console_text port alias = port_text port ++ server_text port alias

-- the process k counts on from 1000 k, and prints on the console `pk` at the port 100 + k
unfoldable pub process_text : ℕ → List ℕ
process_text k =
    space_text k ++ (thread_text k (1000 * k) ++ (reference_text k (100 + k) ++ console_text (100 + k) (codes "p" ++ decimal k)))

-- so many processes from one on
unfoldable pub processes_from : ℕ → ℕ → List ℕ
processes_from first count = flat_map process_text (range_with_len first count)

-- the process in slot 0 is saved after 50 events, and made again in slot 200, where it prints at the port 201 in place of the port 100
abbrev pub checkpoint : List ℕ
checkpoint = codes "\n[[job]]\nkind = \"checkpoint\"\nat = 50\nnester = \"/\"\nslot = 0\nimage = \"soak\"\n"

abbrev pub restore : List ℕ
restore = codes "\n[[job]]\nkind = \"restore\"\nnester = \"/\"\nslot = 200\nimage = \"soak\"\nbind = [[100, 201]]\n"

-- the copy's console, and the jobs
unfoldable pub foot : List ℕ
foot = console_text 201 (codes "copy") ++ (checkpoint ++ restore)

-- the scenario with n processes
abbrev pub scenario : ℕ → List ℕ
scenario n = opening ++ (processes_from 0 n ++ foot)
