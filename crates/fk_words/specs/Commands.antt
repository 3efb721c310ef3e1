-- Commands: what the words of the command line ask for.
use Rattle.std.specs.Prelude.{ℕ, ◌≤◌, ⊤, Bool, true, false, ◌&&◌, ◌==◌, List, [], ◌∷◌, Option, Some, None, option_map, nat_eq, nat_le, if◌then◌else◌, codes}
use Rattle.std.specs.Cmp.Lexicographic.{pointwise}
use Rattle.fk_model.specs.Names.{is_name}
use Rattle.fk_model.specs.Numbers.{plain_number_up_to}
use Rattle.fk_responders.specs.declared.note.Watch.{Watch}
use Rattle.fk_responders.specs.declared.note.Watch.TheVariants as sights
use Rattle.fk_words.specs.declared.command.Command as code
use Rattle.fk_words.specs.declared.command.Command.TheVariants as variants

pub data Command : Type 0 where
  -- the source's text is assembled and run as one thread
  Exec : Command
  -- the source's scenario is read, and its counts are told
  Check : Command
  -- the source's scenario runs by itself, and its trace is put under a name where one is given
  Run : (trace : Option (List ℕ)) → Command
  -- the source's scenario is run by the moves of the trace with this name
  Play : (name : List ℕ) → Command
  -- the counts of the image with this name are shown
  Show : (name : List ℕ) → Command
  -- the scenario with so many processes runs by itself, and its line is told
  Soak : (count : ℕ) → Command
  -- the source's scenario runs by itself, and its trace and the record of what an observer sees are put under a name
  Record : (name : List ℕ) (watch : Watch) → Command
  -- the source's scenario is run by the moves of the trace with this name, and its servers reply what the record with this name says
  Replay : (name : List ℕ) → Command
  -- the source's scenario runs with a pager of the subtree in this slot of the root, of which so many pages are home at a time
  Page : (slot room : ℕ) → Command

-- the same as the code has it
abbrev pub seen : code.Command → Command
seen variants.Exec = Exec
seen variants.Check = Check
seen (variants.Run trace) = Run (option_map (λ name. name.now) trace)
seen (variants.Play name) = Play name.now
seen (variants.Show name) = Show name.now
seen (variants.Soak count) = Soak count
seen (variants.Record name watch) = Record name.now watch
seen (variants.Replay name) = Replay name.now
seen (variants.Page slot room) = Page slot room

-- a command with a name
abbrev pub named : (List ℕ → Command) → List ℕ → Option Command
named command name = if is_name name then Some (command name) else None

-- the number of processes that a word says: 1 to 100, without leading zeros
abbrev pub some_count : Option ℕ → Option ℕ
some_count None = None
some_count (Some count) = if count == 0 then None else Some count

abbrev pub count_of : List ℕ → Option ℕ
count_of word = some_count (plain_number_up_to 100 word)

-- the command of a word alone
abbrev pub command_alone : List ℕ → Option Command
command_alone word =
    if pointwise nat_eq word (codes "exec") then Some Exec
    else if pointwise nat_eq word (codes "check") then Some Check
    else if pointwise nat_eq word (codes "run") then Some (Run None)
    else None

-- of a word and what it is given
abbrev pub command_with : List ℕ → List ℕ → Option Command
command_with word given =
    if pointwise nat_eq word (codes "soak") then option_map Soak (count_of given)
    else if pointwise nat_eq word (codes "play") then named Play given
    else if pointwise nat_eq word (codes "show") then named Show given
    else if pointwise nat_eq word (codes "replay") then named Replay given
    else None

-- of a word with an option and a name
abbrev pub command_traced : List ℕ → List ℕ → List ℕ → Option Command
command_traced word option name =
    if pointwise nat_eq word (codes "run") && pointwise nat_eq option (codes "--trace") then named (λ trace. Run (Some trace)) name else None

-- the observer that a word names
abbrev pub watch_of : List ℕ → Option Watch
watch_of word =
    if pointwise nat_eq word (codes "all") then Some sights.All
    else if pointwise nat_eq word (codes "replies") then Some sights.Replies
    else if pointwise nat_eq word (codes "said") then Some sights.Said
    else None

abbrev pub record_with : List ℕ → Option Watch → Option Command
record_with name None = None
record_with name (Some watch) = named (λ name. Record name watch) name

-- the slot of a subtree that a word says: 0 to 239, without leading zeros
abbrev pub slot_of : List ℕ → Option ℕ
slot_of word = plain_number_up_to 239 word

-- how many pages may be home that a word says: 2 to 256, without leading zeros
abbrev pub some_room : Option ℕ → Option ℕ
some_room None = None
some_room (Some room) = if nat_le 2 room then Some room else None

abbrev pub room_of : List ℕ → Option ℕ
room_of word = some_room (plain_number_up_to 256 word)

abbrev pub page_with : Option ℕ → Option ℕ → Option Command
page_with None room = None
page_with (Some slot) None = None
page_with (Some slot) (Some room) = Some (Page slot room)

-- of three words
unfoldable pub command_of_three : List ℕ → List ℕ → List ℕ → Option Command
command_of_three word second third =
    if pointwise nat_eq word (codes "record") then record_with second (watch_of third)
    else if pointwise nat_eq word (codes "page") then page_with (slot_of second) (room_of third)
    else command_traced word second third

-- the command that the words are; none where they are no command
abbrev pub command_of : List (List ℕ) → Option Command
command_of [] = None
command_of (word ∷ []) = command_alone word
command_of (word ∷ given ∷ []) = command_with word given
command_of (word ∷ second ∷ third ∷ []) = command_of_three word second third
command_of (word ∷ second ∷ third ∷ more ∷ words) = None

-- ---- what a command does with the outside: one row a word

-- what a command leaves on the shelf
pub data Files : Type 0 where
  NoFiles : Files
  -- the images that its run's jobs have made, and its trace under a name where one is given
  RunFiles : (trace : Option (List ℕ)) → Files
  -- the images, and under a name its trace and its record
  RecordFiles : (name : List ℕ) → Files

pub record Row : Type 0 where
  -- whether it reads the source
  pub source : Bool
  -- whether it uses the shelf
  pub shelf : Bool
  -- whether workers share it
  pub shared : Bool
  -- what a command leaves on the shelf
  pub leaves : Files

abbrev pub row : Bool → Bool → Bool → Files → Row
row source shelf shared leaves = record { source = source; shelf = shelf; shared = shared; leaves = leaves }

abbrev pub row_of : Option Command → Row
row_of None = row false false false NoFiles
row_of (Some Exec) = row true false false NoFiles
row_of (Some Check) = row true false false NoFiles
row_of (Some (Run trace)) = row true true true (RunFiles trace)
row_of (Some (Play name)) = row true true false NoFiles
row_of (Some (Show name)) = row false true false NoFiles
row_of (Some (Soak count)) = row false false true NoFiles
row_of (Some (Record name watch)) = row true true false (RecordFiles name)
row_of (Some (Replay name)) = row true true false NoFiles
row_of (Some (Page slot room)) = row true false false NoFiles

abbrev pub reads_source : Option Command → Bool
reads_source command = (row_of command).source

-- a command uses the shelf
abbrev pub uses_shelf : Option Command → Bool
uses_shelf command = (row_of command).shelf

-- workers share what it does
abbrev pub is_shared : Option Command → Bool
is_shared command = (row_of command).shared

-- which files a command leaves
abbrev pub leaves : Option Command → Files
leaves command = (row_of command).leaves

-- `soak` is given a number of processes that it can have, and `page` a user's slot and a number of pages that suffices for each instruction
abbrev pub HasCount : Command → Type 0
HasCount (Soak count) = (1 ≤ count) × (count ≤ 100)
HasCount (Page slot room) = (slot ≤ 239) × (2 ≤ room) × (room ≤ 256)
HasCount other = ⊤
