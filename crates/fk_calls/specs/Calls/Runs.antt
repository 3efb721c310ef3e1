-- Runs: what came of a thread's instruction.
use Rattle.std.specs.Prelude.{◌&&◌, ◌==◌, Bool, true, false, None, is_none}
use Rattle.fk_model.specs.declared.names.Who.{Who}
use Rattle.fk_model.specs.Objects.{Thread, holds}
use Rattle.fk_model.specs.Searches.{thread_at}
use Rattle.fk_plans.specs.declared.plans.plan.Effect.{Effect}
use Rattle.fk_plans.specs.declared.plans.plan.Effect.TheVariants as effects
use Rattle.fk_plans.specs.Plans.Effects.{is_running_mode}
use Rattle.fk_store.specs.Store.Contents.{Contents}
use Rattle.fk_store.specs.Store.Paths.{path, place}
use Rattle.fk_store.specs.Store.World.{world}
use Rattle.fk_plans.specs.declared.wakes.touching.Touched.{Touched}
use Rattle.fk_plans.specs.declared.wakes.touching.Touched.TheVariants.{Few}
use Rattle.fk_calls.specs.declared.calls.moves.Ran.{Ran}
use Rattle.fk_calls.specs.declared.calls.moves.Ran.TheVariants as rans

-- it was made
abbrev pub has_run : Ran → Bool
has_run rans.On = true
has_run rans.Off = true
has_run rans.Raised = true
has_run rans.Not = false

-- and the thread runs on
abbrev pub has_run_on : Ran → Bool
has_run_on rans.On = true
has_run_on rans.Off = false
has_run_on rans.Raised = false
has_run_on rans.Not = false

-- what it touched besides who moved: nothing, or what a fault did
abbrev pub touched_by : Ran → Touched → Touched
touched_by rans.On touched = Few None None None
touched_by rans.Off touched = Few None None None
touched_by rans.Raised touched = touched
touched_by rans.Not touched = Few None None None

-- it neither halts the thread nor enters a call
abbrev pub leaves_running : Effect → Bool
leaves_running (effects.Puts register value) = true
leaves_running (effects.Jumps to) = true
leaves_running (effects.Halts code) = false
leaves_running effects.Enters = false
leaves_running (effects.Stores space page at value) = true

-- a thread runs, isn't stopped and has no fault
abbrev pub is_under_way : Thread → Bool
is_under_way t = is_running_mode t.mode && (t.stops == 0 && is_none t.fault)

-- the thread in a slot runs, is not stopped and has no fault
abbrev pub is_under_way_at : Contents → Who → Bool
is_under_way_at m who = holds is_under_way (thread_at (world m) (place (path m) who))
