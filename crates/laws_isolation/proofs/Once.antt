-- Noninterference: a further run is one, so what two worlds show of it is the same.
use Rattle.std.proofs.Common.{◌≡◌, ℕ, List, ◌++◌, refl, sym, ◌∙◌, subst}
use Rattle.fk_model.specs.Places.{Path}
use Rattle.fk_model.specs.World.{World}
use Rattle.fk_model.specs.Outcomes.{Outcome}
use Rattle.fk_model.specs.Outcomes.Outcome.{Refused, Waits, Goes}
use Rattle.fk_model.specs.Runs.{Event, run}
use Rattle.fk_model.specs.Cut.{cut}
use Rattle.fk_model.specs.Further.{Onward, Told, onward_row, OnwardTo, IsFurther}
use Rattle.fk_model.specs.Further.IsFurther.{Still, Then}
use Rattle.laws_subtrees.proofs.InFurther.Runs.{proper_run_keeps}
use Rattle.laws_isolation.specs.Noninterference.{IsOneWay, IsWatchedRun, Tells, Noninterference}

onward_once : (c : World) (m : Onward) (o : Outcome) (told heard : List Told) (later also : World) → OnwardTo c m o told later → OnwardTo c m o heard also →
    (told ≡ heard) × (later ≡ also)
onward_once c m (Goes changes said) told heard later also one two = (one.1 ∙ sym two.1, one.2 ∙ sym two.2)
onward_once c m (Refused status) told heard later also one two = absurd one
onward_once c m Waits told heard later also one two = absurd one

both : (a b c d : List Told) → a ≡ c → b ≡ d → (a ++ b) ≡ (c ++ d)
both a b c d e f = rw (e, f) refl

pub further_once : IsOneWay
further_once c _ _ _ _ _ (Still _) (Still _) = (refl, refl)
further_once c later also _ _ _ (Then _ d _ m ms told more one rest) (Then _ e _ _ _ heard others two next) =
    let first = onward_once c m (onward_row c m) told heard d e one two in
    let then = further_once d later also ms more others rest (subst (λ (x : World). IsFurther x ms others also) (sym first.1) next) in
    (both told more heard others first.0 then.0, then.1)

module _ (w : World) (nester : Path) (slot : ℕ) (es : List Event) (came : List Onward) where
  ends : (told : List Told) → IsWatchedRun w nester slot es came → IsFurther (cut w nester slot) came told (cut (run w es) nester slot) →
      Tells w nester slot es came told
  ends told its tells = record {
    plain = (proper_run_keeps w nester slot es came its.runnable its.few its.proper its.seen its.plain).0;
    tells = tells;
    only = λ heard later other. further_once (cut w nester slot) later (cut (run w es) nester slot) came heard told other tells;
  }

pub noninterferes : Noninterference
noninterferes w v nester other slot place es fs came here there same =
    let first = proper_run_keeps w nester slot es came here.runnable here.few here.proper here.seen here.plain in
    let second = proper_run_keeps v other place fs came there.runnable there.few there.proper there.seen there.plain in
    let moved = subst (λ (c : World). IsFurther c came second.1.0 (cut (run v fs) other place)) (sym same) second.1.1 in
    let once = further_once (cut w nester slot) (cut (run w es) nester slot) (cut (run v fs) other place) came first.1.0 second.1.0 first.1.1 moved in
    record {
      told = first.1.0;
      in_one = ends w nester slot es came first.1.0 here first.1.1;
      in_other = ends v other place fs came first.1.0 there
          (subst (λ (told : List Told). IsFurther (cut v other place) came told (cut (run v fs) other place)) (sym once.0) second.1.1);
      cuts = once.1;
    }
