-- The jobs of a document, each by itself.
use Rattle.std.specs.Prelude.{ℕ, List, [], ◌∷◌, ◌++◌, length, Result, Ok}
use Rattle.toml.specs.Data.{Items, no_items, item}
use Rattle.fk_scenario.specs.declared.fields.fail.ScenarioError.{ScenarioError}
use Rattle.fk_scenario.specs.Fields.Gives.{◌>>=◌, placed}
use Rattle.fk_scenario.specs.declared.entries.jobs.JobEntry.{JobEntry}
use Rattle.fk_scenario.specs.Entries.Jobs.{job_in}

-- the jobs after those so far, each by itself
unfoldable pub entries_from : List JobEntry → Items → Result (List JobEntry) ScenarioError
entries_from done no_items = Ok done
entries_from done (item value rest) = placed 6 (length done) (job_in (length done) value) >>= λ job. entries_from (done ++ job ∷ []) rest
