-- The servers of a document.
use Rattle.std.specs.Prelude.{ℕ, List, [], ◌∷◌, ◌++◌, length, Result, Ok}
use Rattle.toml.specs.Data.{Items, no_items, item}
use Rattle.fk_model.specs.declared.moves.Rule.{Rule}
use Rattle.fk_scenario.specs.declared.fields.fail.ScenarioError.{ScenarioError}
use Rattle.fk_scenario.specs.Fields.Gives.{◌>>=◌, placed}
use Rattle.fk_scenario.specs.declared.entries.types.ServerEntry.{ServerEntry}
use Rattle.fk_scenario.specs.Entries.Servers.{server_in}

-- the servers after those so far, each by itself
unfoldable pub servers_from : List (List ℕ × Rule) → List ServerEntry → Items → Result (List ServerEntry) ScenarioError
servers_from rules done no_items = Ok done
servers_from rules done (item value rest) = placed 5 (length done) (server_in rules value) >>= λ server. servers_from rules (done ++ server ∷ []) rest
