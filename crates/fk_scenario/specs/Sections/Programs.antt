-- The programs of a document.
use Rattle.std.specs.Prelude.{ℕ, List, [], ◌∷◌, ◌++◌, length, Option, Some, None, Result, Ok}
use Rattle.std.specs.List.{position_from}
use Rattle.std.specs.Str.{bytes_eq}
use Rattle.toml.specs.Data.{Members, no_members, member}
use Rattle.fk_scenario.specs.declared.fields.fail.ScenarioError.{ScenarioError}
use Rattle.fk_scenario.specs.Fields.Gives.{◌>>=◌, or_rule, placed}
use Rattle.fk_scenario.specs.declared.entries.types.Program.{Program}
use Rattle.fk_scenario.specs.Entries.Programs.{program_of}

-- the programs after those so far, in the order of their names
unfoldable pub programs_from : List Program → Members → Result (List Program) ScenarioError
programs_from done no_members = Ok done
programs_from done (member name value rest) = placed 2 (length done) (program_of name value) >>= λ program. programs_from (done ++ program ∷ []) rest

-- which program has this name
abbrev pub position_of : List Program → List ℕ → Option ℕ
position_of programs name = position_from (λ p. bytes_eq p.name name) 0 programs

-- the index of the program that a space names; one that isn't there is rule 8
unfoldable pub index_of : List Program → Option (List ℕ) → Result (Option ℕ) ℕ
index_of programs None = Ok None
index_of programs (Some name) = or_rule 8 (position_of programs name) >>= λ index. Ok (Some index)
