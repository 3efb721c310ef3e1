-- What objects are asked, by rule and in order, and what they say: each kind has keys of its own.
use Rattle.std.specs.Prelude.{ℕ, ◌+◌, Bool, true, false, not, ◌&&◌, nat_le, nat_lt, List, [], ◌∷◌, ◌++◌, length, map, option_map, unwrap_or, codes}
use Rattle.std.specs.Prelude.{if◌then◌else◌}
use Rattle.std.specs.List.{list_all}
use Rattle.std.specs.Str.{bytes_eq}
use Rattle.toml.specs.Data.{Data, Members}
use Rattle.fk_scenario.specs.Fields.Paths.{enclosing}
use Rattle.fk_scenario.specs.declared.entries.types.SpaceEntry.{SpaceEntry}
use Rattle.fk_scenario.specs.declared.entries.types.ObjectEntry.{ObjectEntry}
use Rattle.fk_scenario.specs.declared.entries.types.Spec.{Spec}
use Rattle.fk_scenario.specs.declared.entries.types.Spec.TheVariants.{Thread, Mutex, Cond, Portset, Mapping, Region, Port, Reference}
use Rattle.fk_scenario.specs.Sections.Spaces.{has_space, has_space_or_root}
use Rattle.fk_scenario.specs.Sections.Objects.{has_object}
use Rattle.laws_scenario_faults.specs.Asked.{Section}
use Rattle.laws_scenario_faults.specs.Tables.{table_of, has_only, has, may_have, is_text, is_flag, is_integer, is_table, is_array_of, text, flag, integer}
use Rattle.laws_scenario_faults.specs.Tables.{text_at, integers_at, is_in, is_in_if, number, number_or, is_path, path, is_path_if, path_if}

-- ---- threads

abbrev pub thread_asks : Members → List (ℕ × Bool)
thread_asks ms =
    (2, has_only (codes "at" ∷ codes "kind" ∷ codes "entry" ∷ codes "regs" ∷ codes "stops" ∷ []) ms)
    ∷ (2, may_have is_integer (codes "entry") ms) ∷ (2, may_have (is_array_of is_integer) (codes "regs") ms)
    ∷ (2, may_have is_integer (codes "stops") ms) ∷ (3, is_in_if 0 16383 (integer (codes "entry") ms))
    ∷ (3, list_all (is_in 0 9223372036854775807) (integers_at (codes "regs") ms)) ∷ (3, nat_le (length (map number (integers_at (codes "regs") ms))) 16)
    ∷ (3, is_in_if 0 65535 (integer (codes "stops") ms)) ∷ []

abbrev pub thread : Members → Spec
thread ms = Thread (number_or 0 (integer (codes "entry") ms)) (map number (integers_at (codes "regs") ms)) (number_or 0 (integer (codes "stops") ms))

-- ---- mutexes

abbrev pub mutex_asks : Members → List (ℕ × Bool)
mutex_asks ms = (2, has_only (codes "at" ∷ codes "kind" ∷ codes "locked" ∷ []) ms) ∷ (2, may_have is_flag (codes "locked") ms) ∷ []

abbrev pub mutex : Members → Spec
mutex ms = Mutex (unwrap_or (flag (codes "locked") ms) false)

-- ---- mappings and regions

abbrev pub first : Members → ℕ
first ms = number_or 0 (integer (codes "first") ms)

abbrev pub count : Members → ℕ
count ms = number_or 1 (integer (codes "count") ms)

-- one page or more of the 256
abbrev pub window_asks : Members → List (ℕ × Bool)
window_asks ms =
    (3, is_in_if 0 255 (integer (codes "first") ms)) ∷ (3, is_in_if 1 256 (integer (codes "count") ms)) ∷ (3, nat_le (first ms + count ms) 256) ∷ []

abbrev pub mapping_asks : Members → List (ℕ × Bool)
mapping_asks ms =
    (2, has_only (codes "at" ∷ codes "kind" ∷ codes "region" ∷ codes "first" ∷ codes "count" ∷ codes "offset" ∷ codes "write" ∷ []) ms)
    ∷ (2, may_have is_text (codes "region") ms) ∷ (2, may_have is_integer (codes "first") ms) ∷ (2, may_have is_integer (codes "count") ms)
    ∷ (2, may_have is_integer (codes "offset") ms) ∷ (2, may_have is_flag (codes "write") ms)
    ∷ (window_asks ms ++ (3, is_in_if 0 255 (integer (codes "offset") ms)) ∷ (4, is_path_if (text (codes "region") ms)) ∷ [])

abbrev pub mapping : Members → Spec
mapping ms = Mapping (path_if (text (codes "region") ms)) (first ms) (count ms) (number_or 0 (integer (codes "offset") ms))
    (unwrap_or (flag (codes "write") ms) false)

abbrev pub region_asks : Members → List (ℕ × Bool)
region_asks ms =
    (2, has_only (codes "at" ∷ codes "kind" ∷ codes "first" ∷ codes "count" ∷ codes "write" ∷ codes "keeper" ∷ []) ms)
    ∷ (2, may_have is_integer (codes "first") ms) ∷ (2, may_have is_integer (codes "count") ms)
    ∷ (2, may_have is_flag (codes "write") ms) ∷ (2, may_have is_text (codes "keeper") ms)
    ∷ (window_asks ms ++ (4, is_path_if (text (codes "keeper") ms)) ∷ [])

abbrev pub region : Members → Spec
region ms = Region (first ms) (count ms) (unwrap_or (flag (codes "write") ms) false) (path_if (text (codes "keeper") ms))

-- ---- ports and references

abbrev pub port_asks : Members → List (ℕ × Bool)
port_asks ms =
    (2, has_only (codes "at" ∷ codes "kind" ∷ codes "set" ∷ []) ms) ∷ (2, may_have is_integer (codes "set") ms)
    ∷ (3, is_in_if 0 239 (integer (codes "set") ms)) ∷ []

abbrev pub port : Members → Spec
port ms = Port (option_map number (integer (codes "set") ms))

abbrev pub reference_asks : Members → List (ℕ × Bool)
reference_asks ms =
    (2, has_only (codes "at" ∷ codes "kind" ∷ codes "to" ∷ []) ms) ∷ (2, may_have is_text (codes "to") ms)
    ∷ (4, is_path_if (text (codes "to") ms)) ∷ []

abbrev pub reference : Members → Spec
reference ms = Reference (path_if (text (codes "to") ms))

-- ---- the others, and unknown kinds, which are rule 4

abbrev pub plain_asks : Bool → Members → List (ℕ × Bool)
plain_asks is_known ms = (2, has_only (codes "at" ∷ codes "kind" ∷ []) ms) ∷ (4, is_known) ∷ []

-- ---- by kind

abbrev pub is_kind : Members → List ℕ → Bool
is_kind ms name = bytes_eq (text_at (codes "kind") ms) name

abbrev pub body_asks : Members → List (ℕ × Bool)
body_asks ms =
    if is_kind ms (codes "thread") then thread_asks ms
    else if is_kind ms (codes "mutex") then mutex_asks ms
    else if is_kind ms (codes "cond") then plain_asks true ms
    else if is_kind ms (codes "mapping") then mapping_asks ms
    else if is_kind ms (codes "region") then region_asks ms
    else if is_kind ms (codes "port") then port_asks ms
    else if is_kind ms (codes "portset") then plain_asks true ms
    else if is_kind ms (codes "reference") then reference_asks ms
    else plain_asks false ms

abbrev pub body : Members → Spec
body ms =
    if is_kind ms (codes "thread") then thread ms
    else if is_kind ms (codes "mutex") then mutex ms
    else if is_kind ms (codes "cond") then Cond
    else if is_kind ms (codes "mapping") then mapping ms
    else if is_kind ms (codes "region") then region ms
    else if is_kind ms (codes "port") then port ms
    else if is_kind ms (codes "portset") then Portset
    else if is_kind ms (codes "reference") then reference ms
    else Cond

-- ---- objects

abbrev pub place : Members → List ℕ
place ms = path (text_at (codes "at") ms)

-- a place but the root's, in a space that is there, in a slot in which nothing else is
abbrev pub place_asks : List SpaceEntry → List ObjectEntry → Members → List (ℕ × Bool)
place_asks spaces done ms =
    (4, is_path (text_at (codes "at") ms)) ∷ (4, nat_lt 0 (length (place ms))) ∷ (5, has_space_or_root spaces (enclosing (place ms)))
    ∷ (6, not (has_space spaces (place ms)) && not (has_object done (place ms))) ∷ []

unfoldable pub object_asks : List SpaceEntry → List ObjectEntry → Data → List (ℕ × Bool)
object_asks spaces done value = (2, is_table value) ∷ (2, has is_text (codes "at") (table_of value)) ∷ (2, has is_text (codes "kind") (table_of value))
    ∷ (body_asks (table_of value) ++ place_asks spaces done (table_of value))

abbrev pub object_of : Members → ObjectEntry
object_of ms = record { path = place ms; spec = body ms }

unfoldable pub object_says : List ObjectEntry → Data → ObjectEntry
object_says done value = object_of (table_of value)

abbrev pub objects : List SpaceEntry → Section Data ObjectEntry
objects spaces = record { asks = object_asks spaces; says = object_says }
