-- Pointing: a pointer that is set where nothing is frozen for who sets it.
use Rattle.std.proofs.Common.{◌≡◌, ℕ, Bool, true, false, ◌||◌, ◌↔◌, IsTrue, is_none, List, [], ◌∷◌, Option, Some, None, refl, sym, subst}
use Rattle.std.specs.List.{list_any}
use Rattle.fk_model.specs.declared.names.Who.{Who}
use Rattle.fk_model.specs.declared.names.Ptr as names
use Rattle.fk_model.specs.Freezing.{body_pointers, AreAllowed}
use Rattle.fk_model.specs.Holds.{is_frozen_for, leads_to_frozen}
use Rattle.fk_model.specs.Moves.{GoesAllowed}
use Rattle.fk_model.specs.Places.{Path, Ptr}
use Rattle.fk_model.specs.Places.Ptr.{At, Null, Dead, Out, Outside, Far}
use Rattle.fk_model.specs.World.{World}
use Rattle.fk_model.specs.World.Change.{Alter}
use Rattle.fk_model.specs.World.Edit.{SetPointer}
use Rattle.fk_changes.specs.declared.threads.answers.Answers.{Answers}
use Rattle.fk_plans.specs.declared.plans.plan.Deed.TheVariants as deeds
use Rattle.fk_plans.specs.declared.plans.plan.Plan.TheVariants as plans
use Rattle.fk_plans.specs.declared.plans.plan.Verdict.{Verdict}
use Rattle.fk_plans.specs.declared.plans.plan.Verdict.TheVariants as verdicts
use Rattle.fk_plans.specs.Plans.Verdicts.{move_by}
use Rattle.fk_store.specs.Store.Bodies.{pointer_by}
use Rattle.fk_store.specs.Store.Contents.{Contents}
use Rattle.fk_store.specs.Store.Paths.{path, place}
use Rattle.fk_store.specs.Store.World.{world}
use Rattle.fk_calls.specs.Calls.Tried.{porter}

module _ (w : World) (me : Path) (off : (x : Path) → is_frozen_for w me x ≡ false) where
  led_off : (to : Ptr) → leads_to_frozen w me to ≡ false
  led_off (At x) = off x
  led_off Null = refl
  led_off Dead = refl
  led_off (Out slot) = refl
  led_off Outside = refl
  led_off Far = refl

  none_led : (ps : List Ptr) → list_any (leads_to_frozen w me) ps ≡ false
  none_led [] = refl
  none_led (to ∷ ps) = rw (led_off to, none_led ps) refl

  pointing_allowed : (x : Path) (to : Ptr) → AreAllowed w me (Alter x (SetPointer to) ∷ [])
  pointing_allowed x to = (record { object = off x; changed = rw (none_led (body_pointers (w.body x))) refl; made = rw (led_off to) refl }, tt)

-- a porter's verdict that sets a pointer is ready where it picks as it may
pub pointing_ready : (m : Contents) (who : Who) (words : List ℕ) (chooses : Bool) (pick : Option Who) (v : Verdict) (object : Who) (to : names.Ptr)
    (answers : Answers) → v ≡ verdicts.Done (plans.One (deeds.Points object to)) answers → ((x : Path) → is_frozen_for (world m) (place (path m) who) x ≡ false) →
    IsTrue (chooses || is_none pick) ↔ GoesAllowed (world m) (place (path m) who) (move_by m (porter who) words chooses pick v)
pointing_ready m who words chooses pick v object to answers is off =
    subst (λ u. IsTrue (chooses || is_none pick) ↔ GoesAllowed (world m) (place (path m) who) (move_by m (porter who) words chooses pick u)) (sym is)
    (by chooses pick)
  where
    allowed : AreAllowed (world m) (place (path m) who) (Alter (place (path m) object) (SetPointer (pointer_by (path m) to)) ∷ [])
    allowed = pointing_allowed (world m) (place (path m) who) off (place (path m) object) (pointer_by (path m) to)

    by : (chooses : Bool) (pick : Option Who) → IsTrue (chooses || is_none pick) ↔ GoesAllowed (world m) (place (path m) who)
        (move_by m (porter who) words chooses pick (verdicts.Done (plans.One (deeds.Points object to)) answers))
    by true pick = ((λ may. allowed), (λ goes. refl))
    by false None = ((λ may. allowed), (λ goes. refl))
    by false (Some q) = ((λ may. absurd (cc)), (λ goes. absurd goes))
