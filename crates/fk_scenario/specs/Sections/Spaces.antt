-- The spaces of a document.
use Rattle.std.specs.Prelude.{ℕ, ℤ, Bool, false, not, ◌&&◌, ◌||◌, ◌==◌, nat_lt, List, [], ◌∷◌, ◌++◌, length, count_by, Option, Some, None, option_map, unwrap_or, Result, Ok, if◌then◌else◌, codes}
use Rattle.std.specs.List.{list_any}
use Rattle.std.specs.Str.{bytes_eq}
use Rattle.toml.specs.Data.{Data, Items, no_items, item, Members, as_table}
use Rattle.fk_model.specs.Names.{is_name}
use Rattle.fk_scenario.specs.declared.fields.fail.ScenarioError.{ScenarioError}
use Rattle.fk_scenario.specs.Fields.Gives.{◌>>=◌, or_rule, unless, placed}
use Rattle.fk_scenario.specs.Fields.Fields.{known, text_in, flag_in, needed_text, integers_in, bytes_from}
use Rattle.fk_scenario.specs.Fields.Paths.{parse_path, enclosing}
use Rattle.fk_scenario.specs.declared.entries.types.Program.{Program}
use Rattle.fk_scenario.specs.declared.entries.types.SpaceEntry.{SpaceEntry}
use Rattle.fk_scenario.specs.declared.sections.spaces.SpaceFields as code
use Rattle.fk_scenario.specs.Sections.Programs.{index_of}

-- a program is named by what is no name
abbrev pub is_no_name : Option (List ℕ) → Bool
is_no_name None = false
is_no_name (Some name) = not (is_name name)

-- a space has this path
abbrev pub has_space : List SpaceEntry → List ℕ → Bool
has_space spaces path = list_any (λ s. bytes_eq s.path path) spaces

-- the root is there without an entry, and any other space with one
abbrev pub has_space_or_root : List SpaceEntry → List ℕ → Bool
has_space_or_root spaces path = length path == 0 || has_space spaces path

-- a space's path is new, and its parent is there; the root's entry comes first
abbrev pub may_stand : List SpaceEntry → List ℕ → Bool
may_stand done path = if length path == 0 then length done == 0 else has_space_or_root done (enclosing path) && not (has_space done path)

-- how many spaces besides the root there are
abbrev pub count_beneath : List SpaceEntry → ℕ
count_beneath spaces = count_by (λ s. not (length s.path == 0)) spaces

-- there is room for a space: 256 are the most, with the root, and the text of the root's path adds none
abbrev pub has_room_for_space : List SpaceEntry → List ℕ → Bool
has_room_for_space done text = bytes_eq text (codes "/") || nat_lt (count_beneath done) 255

-- what a space's keys have, as it is written
pub record SpaceFields : Type 0 where
  pub path : List ℕ
  pub program : Option (List ℕ)
  pub pages : List ℤ
  pub nester : Bool

-- the same as the code has it
abbrev pub space_fields_view : code.SpaceFields → SpaceFields
space_fields_view fields = record {
  path = fields.path.now;
  program = option_map (λ name. name.now) fields.program;
  pages = fields.pages;
  nester = fields.nester;
}

-- its keys and their types (2)
unfoldable pub space_fields : Members → Result SpaceFields ℕ
space_fields ms = do
  _ ← known (codes "path" ∷ codes "program" ∷ codes "pages" ∷ codes "nester" ∷ []) ms
  path ← needed_text (codes "path") ms
  program ← text_in (codes "program") ms
  pages ← integers_in (codes "pages") ms
  nester ← flag_in (codes "nester") ms
  Ok (record { path = path; program = program; pages = pages; nester = unwrap_or nester false })

-- a space after those before it: its keys and types (2), ranges and number (3), forms (4), place (5) and program (8)
unfoldable pub space_after : List Program → List SpaceEntry → Members → Result SpaceEntry ℕ
space_after programs done ms = do
  fields ← space_fields ms
  pages ← bytes_from [] fields.pages
  _ ← unless 3 (has_room_for_space done fields.path)
  path ← parse_path fields.path
  _ ← unless 4 (not (is_no_name fields.program))
  _ ← unless 5 (may_stand done path)
  program ← index_of programs fields.program
  Ok (record { path = path; program = program; pages = pages; nester = fields.nester })

-- the space of an entry; one that is no table is rule 2
unfoldable pub space_in : List Program → List SpaceEntry → Data → Result SpaceEntry ℕ
space_in programs done value = or_rule 2 (as_table value) >>= space_after programs done

-- the spaces after those so far
unfoldable pub spaces_from : List Program → List SpaceEntry → Items → Result (List SpaceEntry) ScenarioError
spaces_from programs done no_items = Ok done
spaces_from programs done (item value rest) = placed 3 (length done) (space_in programs done value) >>= λ space. spaces_from programs (done ++ space ∷ []) rest
