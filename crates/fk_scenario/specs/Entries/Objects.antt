-- Objects, each by itself. Each kind has a reader of its own, with its keys, types, ranges and forms.
use Rattle.std.specs.Prelude.{ℕ, ◌+◌, ℤ, Bool, false, nat_le, nat_lt, List, [], ◌∷◌, length, Option, Some, None, option_map, Result, Ok, if◌then◌else◌, codes, unwrap_or}
use Rattle.std.specs.Str.{bytes_eq}
use Rattle.toml.specs.Data.{Data, Members, as_table}
use Rattle.fk_scenario.specs.Fields.Gives.{◌>>=◌, or_rule, unless}
use Rattle.fk_scenario.specs.Fields.Fields.{known, text_in, flag_in, integer_in, needed_text, integers_in, ranged, ranged_or, words_from}
use Rattle.fk_scenario.specs.Fields.Paths.{parse_path, optional_path}
use Rattle.fk_scenario.specs.declared.entries.objects.MappingKeys as code
use Rattle.fk_scenario.specs.declared.entries.types.ObjectEntry.{ObjectEntry}
use Rattle.fk_scenario.specs.declared.entries.types.Spec.{Spec}
use Rattle.fk_scenario.specs.declared.entries.types.Spec.TheVariants.{Thread, Mutex, Cond, Portset, Mapping, Region, Port, Reference}

-- a thread: all that isn't written is 0
unfoldable pub thread_spec : Members → Result Spec ℕ
thread_spec ms = do
  _ ← known (codes "at" ∷ codes "kind" ∷ codes "entry" ∷ codes "regs" ∷ codes "stops" ∷ []) ms
  entry ← integer_in (codes "entry") ms
  regs ← integers_in (codes "regs") ms
  stops ← integer_in (codes "stops") ms
  entry ← ranged_or 0 0 16383 entry
  regs ← words_from [] regs
  _ ← unless 3 (nat_le (length regs) 16)
  stops ← ranged_or 0 0 65535 stops
  Ok (Thread entry regs stops)

-- a mutex, which is free where nothing is written
unfoldable pub mutex_spec : Members → Result Spec ℕ
mutex_spec ms = do
  _ ← known (codes "at" ∷ codes "kind" ∷ codes "locked" ∷ []) ms
  locked ← flag_in (codes "locked") ms
  Ok (Mutex (unwrap_or locked false))

-- the first page and the number of pages, as they are written
unfoldable pub extent_in : Members → Result (Option ℤ × Option ℤ) ℕ
extent_in ms = do
  first ← integer_in (codes "first") ms
  count ← integer_in (codes "count") ms
  Ok (first, count)

-- one page or more of the 256; where nothing is written, page 0
unfoldable pub window_of : Option ℤ × Option ℤ → Result (ℕ × ℕ) ℕ
window_of extent = do
  first ← ranged_or 0 0 255 extent.0
  count ← ranged_or 1 1 256 extent.1
  _ ← unless 3 (nat_le (first + count) 256)
  Ok (first, count)

-- what a mapping's keys have, as it is written
pub record MappingKeys : Type 0 where
  pub region : Option (List ℕ)
  pub extent : Option ℤ × Option ℤ
  pub offset : Option ℤ
  pub write : Bool

-- the same as the code has it
abbrev pub mapping_keys_view : code.MappingKeys → MappingKeys
mapping_keys_view keys = record { region = option_map (λ text. text.now) keys.region; extent = keys.extent; offset = keys.offset; write = keys.write }

-- its keys and their types
unfoldable pub mapping_keys : Members → Result MappingKeys ℕ
mapping_keys ms = do
  _ ← known (codes "at" ∷ codes "kind" ∷ codes "region" ∷ codes "first" ∷ codes "count" ∷ codes "offset" ∷ codes "write" ∷ []) ms
  region ← text_in (codes "region") ms
  extent ← extent_in ms
  offset ← integer_in (codes "offset") ms
  write ← flag_in (codes "write") ms
  Ok (record { region = region; extent = extent; offset = offset; write = unwrap_or write false })

-- a mapping: of no region and without the right to write, where nothing is written
unfoldable pub mapping_spec : Members → Result Spec ℕ
mapping_spec ms = do
  keys ← mapping_keys ms
  window ← window_of keys.extent
  offset ← ranged_or 0 0 255 keys.offset
  region ← optional_path keys.region
  Ok (Mapping region window.0 window.1 offset keys.write)

-- a region: without the right to write and without a keeper, where nothing is written
unfoldable pub region_spec : Members → Result Spec ℕ
region_spec ms = do
  _ ← known (codes "at" ∷ codes "kind" ∷ codes "first" ∷ codes "count" ∷ codes "write" ∷ codes "keeper" ∷ []) ms
  extent ← extent_in ms
  write ← flag_in (codes "write") ms
  keeper ← text_in (codes "keeper") ms
  window ← window_of extent
  keeper ← optional_path keeper
  Ok (Region window.0 window.1 (unwrap_or write false) keeper)

-- the slot of a set, if one is written
abbrev pub set_of : Option ℤ → Result (Option ℕ) ℕ
set_of None = Ok None
set_of (Some z) = ranged 0 239 z >>= λ slot. Ok (Some slot)

-- a port
unfoldable pub port_spec : Members → Result Spec ℕ
port_spec ms = do
  _ ← known (codes "at" ∷ codes "kind" ∷ codes "set" ∷ []) ms
  slot ← integer_in (codes "set") ms
  slot ← set_of slot
  Ok (Port slot)

-- a reference
unfoldable pub reference_spec : Members → Result Spec ℕ
reference_spec ms = do
  _ ← known (codes "at" ∷ codes "kind" ∷ codes "to" ∷ []) ms
  to ← text_in (codes "to") ms
  to ← optional_path to
  Ok (Reference to)

-- a kind with no keys of its own; an unknown kind has none either, and is rule 4
unfoldable pub plain_spec : Option Spec → Members → Result Spec ℕ
plain_spec spec ms = do
  _ ← known (codes "at" ∷ codes "kind" ∷ []) ms
  or_rule 4 spec

-- what an object of a kind is
unfoldable pub spec_of : List ℕ → Members → Result Spec ℕ
spec_of kind ms =
    if bytes_eq kind (codes "thread") then thread_spec ms
    else if bytes_eq kind (codes "mutex") then mutex_spec ms
    else if bytes_eq kind (codes "cond") then plain_spec (Some Cond) ms
    else if bytes_eq kind (codes "mapping") then mapping_spec ms
    else if bytes_eq kind (codes "region") then region_spec ms
    else if bytes_eq kind (codes "port") then port_spec ms
    else if bytes_eq kind (codes "portset") then plain_spec (Some Portset) ms
    else if bytes_eq kind (codes "reference") then reference_spec ms
    else plain_spec None ms

-- an object and its path, which isn't the root's
unfoldable pub object_of : Members → Result ObjectEntry ℕ
object_of ms = do
  text ← needed_text (codes "at") ms
  kind ← needed_text (codes "kind") ms
  spec ← spec_of kind ms
  path ← parse_path text
  _ ← unless 4 (nat_lt 0 (length path))
  Ok (record { path = path; spec = spec })

-- the object of an entry; one that is no table is rule 2
unfoldable pub object_entry : Data → Result ObjectEntry ℕ
object_entry value = or_rule 2 (as_table value) >>= object_of
