-- Endings: which port's native server loses its client by a verdict.
use Rattle.std.specs.Prelude.{◌≡◌, ℕ, ⊤, is_some, Option, Some, None, if◌then◌else◌}
use Rattle.fk_model.specs.declared.thread.Peer.{Peer}
use Rattle.fk_model.specs.declared.thread.Peer.TheVariants as peers
use Rattle.fk_model.specs.ObjectRows.{told_with}
use Rattle.fk_model.specs.Places.{Path}
use Rattle.fk_model.specs.Searches.{client_at}
use Rattle.fk_model.specs.World.{World}
use Rattle.fk_store.specs.Store.Bodies.{talk_by}
use Rattle.fk_store.specs.Store.Contents.{Contents}
use Rattle.fk_store.specs.Store.Paths.{place}
use Rattle.fk_store.specs.Store.World.{IsLive}
use Rattle.fk_changes.specs.Deaths.Told.{told_at}
use Rattle.fk_plans.specs.Plans.Plans.{moves_talk}
use Rattle.fk_plans.specs.declared.plans.plan.Deed.{Deed}
use Rattle.fk_plans.specs.declared.plans.plan.Deed.TheVariants as deeds
use Rattle.fk_plans.specs.declared.plans.plan.Plan.{Plan}
use Rattle.fk_plans.specs.declared.plans.plan.Plan.TheVariants as plans
use Rattle.fk_plans.specs.declared.plans.plan.Verdict.{Verdict}
use Rattle.fk_plans.specs.declared.plans.plan.Verdict.TheVariants as verdicts
use Rattle.fk_plans.specs.Endings.Clients.{lost, native_at, native_port}

-- of a client that gets another peer
abbrev pub lost_to : Option Path → Peer → Option Path
lost_to port (peers.Thread server) = port
lost_to port peers.Service = None
lost_to port peers.Parked = port

-- by a deed
abbrev pub left_by : World → (ℕ → Path) → Deed → Option Path
left_by w p (deeds.Unlinks client) = native_at w (place p client)
left_by w p (deeds.Links client talk) = lost (native_at w (place p client)) (native_port (talk_by p talk))
left_by w p (deeds.Serves client peer) = lost_to (native_at w (place p client)) peer
left_by w p other = None

-- by a plan
abbrev pub left_by_plan : World → (ℕ → Path) → Plan → Option Path
left_by_plan w p (plans.One a) = left_by w p a
left_by_plan w p (plans.Two a b) = if moves_talk a then left_by w p a else left_by w p b
left_by_plan w p other = None

-- by another name of the port
abbrev pub left_at : World → Path → Option Path
left_at w x = if is_some (client_at w x) then Some x else None

-- by a verdict. A death tells it
abbrev pub IsLeft : World → (ℕ → Path) → Verdict → Option Path → Type 0
IsLeft w p (verdicts.Done plan answers) port = port ≡ left_by_plan w p plan
IsLeft w p (verdicts.Ends plan answers) port = port ≡ left_by_plan w p plan
IsLeft w p (verdicts.Shows plan space page) port = port ≡ left_by_plan w p plan
IsLeft w p (verdicts.Goes plan) port = port ≡ left_by_plan w p plan
IsLeft w p (verdicts.Tells plan news last) port = port ≡ left_by_plan w p plan
IsLeft w p (verdicts.Renames object slot) port = port ≡ left_at w (place p object)
IsLeft w p (verdicts.Destroys object last) port = told_with w (place p object) (w.body (place p object)) ≡ told_at port
IsLeft w p other port = port ≡ None

-- what is renamed is there
abbrev pub IsRenamed : Contents → Verdict → Type 0
IsRenamed m (verdicts.Renames object slot) = IsLive m object
IsRenamed m other = ⊤
