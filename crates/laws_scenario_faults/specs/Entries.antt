-- What the entries of programs, spaces, servers and jobs are asked, by rule and in order, and what they say.
use Rattle.std.specs.Prelude.{ℕ, ℤ, pos, Bool, true, false, not, ◌&&◌, ◌||◌, nat_lt, List, [], ◌∷◌, ◌++◌, length, map, Option, Some, None, is_some}
use Rattle.std.specs.Prelude.{option_and_then, unwrap_or, codes, if◌then◌else◌}
use Rattle.std.specs.List.{list_all}
use Rattle.std.specs.Str.{bytes_eq}
use Rattle.std.specs.Result.{result_ok}
use Rattle.toml.specs.Data.{Data, no_items, Members, as_str, as_array}
use Rattle.fk_model.specs.Names.{is_name}
use Rattle.fk_model.specs.declared.moves.Rule.{Rule}
use Rattle.fk_model.specs.declared.moves.Rule.TheVariants.{Echo}
use Rattle.fk_asm.specs.Assembler.{assembled}
use Rattle.fk_scenario.specs.declared.entries.types.Program.{Program}
use Rattle.fk_scenario.specs.declared.entries.types.SpaceEntry.{SpaceEntry}
use Rattle.fk_scenario.specs.declared.entries.types.ServerEntry.{ServerEntry}
use Rattle.fk_scenario.specs.declared.entries.types.ServiceSpec.{ServiceSpec}
use Rattle.fk_scenario.specs.declared.entries.types.ServiceSpec.TheVariants.{Console, Listed}
use Rattle.fk_scenario.specs.declared.entries.jobs.JobEntry.{JobEntry}
use Rattle.fk_scenario.specs.declared.entries.jobs.JobKind.{JobKind}
use Rattle.fk_scenario.specs.declared.entries.jobs.JobKind.TheVariants.{Checkpoint, Restore}
use Rattle.fk_scenario.specs.Entries.Servers.{rule_from}
use Rattle.fk_scenario.specs.Entries.Jobs.{is_restore, is_bound}
use Rattle.fk_scenario.specs.Sections.Programs.{position_of}
use Rattle.fk_scenario.specs.Sections.Spaces.{is_no_name, may_stand, has_room_for_space}
use Rattle.laws_scenario_faults.specs.Asked.{Section}
use Rattle.laws_scenario_faults.specs.Tables.{table_of, has_only, has, may_have, is_text, is_flag, is_integer, is_table, is_array, is_array_of, text, flag}
use Rattle.laws_scenario_faults.specs.Tables.{integer, text_at, integers_at, is_in, is_in_if, number, number_or, is_path, path, entries, integers}

-- ---- the top keys

abbrev pub top_keys : List (List ℕ)
top_keys = codes "budget" ∷ codes "workers" ∷ codes "programs" ∷ codes "space" ∷ codes "object" ∷ codes "server" ∷ codes "job" ∷ []

abbrev pub budget : Members → ℤ
budget ms = unwrap_or (integer (codes "budget") ms) (pos 0)

abbrev pub workers : Members → ℤ
workers ms = unwrap_or (integer (codes "workers") ms) (pos 1)

unfoldable pub top_asks : Members → List (ℕ × Bool)
top_asks ms =
    (2, has_only top_keys ms) ∷ (2, has is_integer (codes "budget") ms) ∷ (2, may_have is_integer (codes "workers") ms)
    ∷ (2, may_have is_table (codes "programs") ms) ∷ (2, may_have is_array (codes "space") ms) ∷ (2, may_have is_array (codes "object") ms)
    ∷ (2, may_have is_array (codes "server") ms) ∷ (2, may_have is_array (codes "job") ms)
    ∷ (3, is_in 1 1000000 (budget ms)) ∷ (3, is_in 1 8 (workers ms)) ∷ []

-- ---- programs: a name and a text

unfoldable pub program_asks : List Program → List ℕ × Data → List (ℕ × Bool)
program_asks done entry =
    (2, is_text entry.1) ∷ (4, is_name entry.0) ∷ (8, is_some (result_ok (assembled (unwrap_or (as_str entry.1) [])))) ∷ []

unfoldable pub program_says : List Program → List ℕ × Data → Program
program_says done entry = record { name = entry.0; words = unwrap_or (result_ok (assembled (unwrap_or (as_str entry.1) []))) [] }

abbrev pub programs : Section (List ℕ × Data) Program
programs = record { asks = program_asks; says = program_says }

-- ---- spaces

-- the program that is named is there
abbrev pub is_program_if : List Program → Option (List ℕ) → Bool
is_program_if programs None = true
is_program_if programs (Some name) = is_some (position_of programs name)

abbrev pub space_keys : List (List ℕ)
space_keys = codes "path" ∷ codes "program" ∷ codes "pages" ∷ codes "nester" ∷ []

abbrev pub keys_of_space_ask : List Program → List SpaceEntry → Members → List (ℕ × Bool)
keys_of_space_ask programs done ms =
    (2, has_only space_keys ms) ∷ (2, has is_text (codes "path") ms) ∷ (2, may_have is_text (codes "program") ms)
    ∷ (2, may_have (is_array_of is_integer) (codes "pages") ms) ∷ (2, may_have is_flag (codes "nester") ms)
    ∷ (3, list_all (is_in 0 255) (integers_at (codes "pages") ms)) ∷ (3, has_room_for_space done (text_at (codes "path") ms))
    ∷ (4, is_path (text_at (codes "path") ms)) ∷ (4, not (is_no_name (text (codes "program") ms)))
    ∷ (5, may_stand done (path (text_at (codes "path") ms))) ∷ (8, is_program_if programs (text (codes "program") ms)) ∷ []

unfoldable pub space_asks : List Program → List SpaceEntry → Data → List (ℕ × Bool)
space_asks programs done value = (2, is_table value) ∷ keys_of_space_ask programs done (table_of value)

abbrev pub space_of : List Program → Members → SpaceEntry
space_of programs ms = record {
  path = path (text_at (codes "path") ms);
  program = option_and_then (position_of programs) (text (codes "program") ms);
  pages = map number (integers_at (codes "pages") ms);
  nester = unwrap_or (flag (codes "nester") ms) false;
}

unfoldable pub space_says : List Program → List SpaceEntry → Data → SpaceEntry
space_says programs done value = space_of programs (table_of value)

abbrev pub spaces : List Program → Section Data SpaceEntry
spaces programs = record { asks = space_asks programs; says = space_says programs }

-- ---- servers

-- a console has an alias and no configuration
abbrev pub console_asks : Members → List (ℕ × Bool)
console_asks ms =
    (2, has_only (codes "port" ∷ codes "rule" ∷ codes "alias" ∷ []) ms) ∷ (2, has is_text (codes "alias") ms)
    ∷ (4, is_name (text_at (codes "alias") ms)) ∷ []

-- any other has a configuration and no alias, and a rule that there is
abbrev pub listed_asks : List (List ℕ × Rule) → Members → List (ℕ × Bool)
listed_asks rules ms =
    (2, has_only (codes "port" ∷ codes "rule" ∷ codes "config" ∷ []) ms) ∷ (2, may_have (is_array_of is_integer) (codes "config") ms)
    ∷ (3, list_all (is_in 0 9223372036854775807) (integers_at (codes "config") ms))
    ∷ (4, is_some (rule_from 0 rules (text_at (codes "rule") ms))) ∷ []

abbrev pub is_console : Members → Bool
is_console ms = bytes_eq (text_at (codes "rule") ms) (codes "console")

abbrev pub service_asks : List (List ℕ × Rule) → Members → List (ℕ × Bool)
service_asks rules ms = if is_console ms then console_asks ms else listed_asks rules ms

abbrev pub listed : List ℤ → ℕ × Rule → ServiceSpec
listed config found = Listed found.0 found.1 (map number config)

abbrev pub service_of : List (List ℕ × Rule) → Members → ServiceSpec
service_of rules ms =
    if is_console ms then Console (text_at (codes "alias") ms)
    else listed (integers_at (codes "config") ms) (unwrap_or (rule_from 0 rules (text_at (codes "rule") ms)) (0, Echo))

abbrev pub keys_of_server_ask : List (List ℕ × Rule) → Members → List (ℕ × Bool)
keys_of_server_ask rules ms =
    (2, has is_text (codes "port") ms) ∷ (2, has is_text (codes "rule") ms)
    ∷ (service_asks rules ms ++ (4, is_path (text_at (codes "port") ms)) ∷ [])

unfoldable pub server_asks : List (List ℕ × Rule) → List ServerEntry → Data → List (ℕ × Bool)
server_asks rules done value = (2, is_table value) ∷ keys_of_server_ask rules (table_of value)

abbrev pub server_of : List (List ℕ × Rule) → Members → ServerEntry
server_of rules ms = record { port = path (text_at (codes "port") ms); service = service_of rules ms }

unfoldable pub server_says : List (List ℕ × Rule) → List ServerEntry → Data → ServerEntry
server_says rules done value = server_of rules (table_of value)

abbrev pub servers : List (List ℕ × Rule) → Section Data ServerEntry
servers rules = record { asks = server_asks rules; says = server_says rules }

-- ---- jobs

abbrev pub restore_keys : List (List ℕ)
restore_keys = codes "kind" ∷ codes "at" ∷ codes "nester" ∷ codes "slot" ∷ codes "image" ∷ codes "bind" ∷ []

abbrev pub checkpoint_keys : List (List ℕ)
checkpoint_keys = codes "kind" ∷ codes "at" ∷ codes "nester" ∷ codes "slot" ∷ codes "image" ∷ []

abbrev pub kind : Members → List ℕ
kind ms = text_at (codes "kind") ms

-- the lists of integers that a restore binds; it alone may have some
abbrev pub list_of : Data → List ℤ
list_of value = integers (unwrap_or (as_array value) no_items)

abbrev pub bound : Members → List (List ℤ)
bound ms = if is_restore (kind ms) then map list_of (entries (codes "bind") ms) else []

abbrev pub bind_asks : Members → List (ℕ × Bool)
bind_asks ms =
    if is_restore (kind ms) then (2, has_only restore_keys ms) ∷ (2, may_have (is_array_of (is_array_of is_integer)) (codes "bind") ms) ∷ []
    else (2, has_only checkpoint_keys ms) ∷ []

-- two slots
abbrev pub is_pair : List ℤ → Bool
is_pair (a ∷ b ∷ []) = is_in 0 239 a && is_in 0 239 b
is_pair _ = false

abbrev pub pair : List ℤ → ℕ × ℕ
pair (a ∷ b ∷ []) = (number a, number b)
pair _ = (0, 0)

abbrev pub pairs : Members → List (ℕ × ℕ)
pairs ms = map pair (bound ms)

-- no first slot of the pairs is that of an earlier one
abbrev pub are_distinct : List (ℕ × ℕ) → List (ℕ × ℕ) → Bool
are_distinct done [] = true
are_distinct done (p ∷ ps) = not (is_bound done p.0) && are_distinct (done ++ p ∷ []) ps

abbrev pub is_kind : List ℕ → Bool
is_kind kind = is_restore kind || bytes_eq kind (codes "checkpoint")

-- a checkpoint binds nothing
abbrev pub binds_well : Members → Bool
binds_well ms = if is_restore (kind ms) then are_distinct [] (pairs ms) else true

abbrev pub slot_at : Members → ℤ
slot_at ms = unwrap_or (integer (codes "slot") ms) (pos 0)

abbrev pub other_keys_ask : ℕ → Members → List (ℕ × Bool)
other_keys_ask before ms =
    (2, may_have is_integer (codes "at") ms) ∷ (2, has is_text (codes "nester") ms) ∷ (2, has is_integer (codes "slot") ms)
    ∷ (2, has is_text (codes "image") ms) ∷ (3, is_in_if 0 1000000 (integer (codes "at") ms)) ∷ (3, is_in 0 239 (slot_at ms))
    ∷ (3, list_all is_pair (bound ms)) ∷ (3, nat_lt before 16) ∷ (4, is_path (text_at (codes "nester") ms))
    ∷ (4, is_name (text_at (codes "image") ms)) ∷ (4, is_kind (kind ms)) ∷ (6, binds_well ms) ∷ []

-- at most 16 jobs
unfoldable pub job_asks : List JobEntry → Data → List (ℕ × Bool)
job_asks done value = (2, is_table value) ∷ (2, has is_text (codes "kind") (table_of value))
    ∷ (bind_asks (table_of value) ++ other_keys_ask (length done) (table_of value))

abbrev pub kind_of : Members → JobKind
kind_of ms = if is_restore (kind ms) then Restore (pairs ms) else Checkpoint

abbrev pub job_of : Members → JobEntry
job_of ms = record {
  moment = number_or 0 (integer (codes "at") ms);
  nester = path (text_at (codes "nester") ms);
  slot = number (slot_at ms);
  image = text_at (codes "image") ms;
  kind = kind_of ms;
}

unfoldable pub job_says : List JobEntry → Data → JobEntry
job_says done value = job_of (table_of value)

abbrev pub jobs : Section Data JobEntry
jobs = record { asks = job_asks; says = job_says }
