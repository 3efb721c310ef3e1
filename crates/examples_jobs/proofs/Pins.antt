-- A restore that leaves its pin doesn't restore.
use Rattle.std.proofs.Common.{◌≡◌, ℕ, ◌+◌, ◌≤◌, Bool, true, false, is_some, List, [], ◌∷◌, Some, refl, ap, subst, arith}
use Rattle.fk_model.specs.declared.limits.TheConstants.{FIRST_SCRATCH_SLOT}
use Rattle.fk_model.specs.declared.stage.Stage.TheVariants.{Create, SpaceMakeHeld}
use Rattle.fk_model.specs.Places.{Path}
use Rattle.fk_model.specs.World.{World}
use Rattle.fk_model.specs.Cut.{cut}
use Rattle.fk_model.specs.Rebind.{rebound}
use Rattle.fk_model.specs.Readers.{space_argument}
use Rattle.fk_model.specs.Runs.{Event, after}
use Rattle.fk_model.specs.Searches.{depth}
use Rattle.laws_moves.proofs.InWhole.Laws.{keeps_runnable, savable_runnable}
use Rattle.laws_moves.specs.Whole.Runnable.{IsProper}
use Rattle.laws_moves.specs.Savable.Savable.{may_make, Owes, IsSound}
use Rattle.laws_moves.proofs.InSavable.Laws.{keeps_savable}
use Rattle.laws_jobs.specs.Machines.{no_words, call_of, IsReadyAt, AtWork}
use Rattle.laws_jobs.specs.Machines.Interleaved.{Here, Own}
use Rattle.laws_jobs.specs.Jobs.{Restores}
use Rattle.examples_moves.proofs.Tested.{legal-tested}
use Rattle.examples_premises.specs.Premises.{premises}
use Rattle.examples_jobs.specs.Brief.{full}
use Rattle.examples_jobs.specs.Pins.{leaves_pin, empty_space}
use Rattle.examples_jobs.specs.Pins.State.{Makes, Pins, Over}
use Rattle.examples_jobs.proofs.Full.{full_may, sound_after}

abbrev makes : Event
makes = call_of [] (SpaceMakeHeld 2) no_words

abbrev pins : Event
pins = call_of [] (Create 2 FIRST_SCRATCH_SLOT 9) no_words

abbrev made : World
made = after full makes

makes_ready : IsReadyAt full makes
unfolding premises
makes_ready = (legal-tested full (makes ∷ []) refl).0

pins_ready : IsReadyAt made pins
unfolding premises
pins_ready = (legal-tested full (makes ∷ pins ∷ []) refl).1.0

made_sound : IsSound made
unfolding premises
made_sound = sound_after makes (record { fit = refl; words = refl }) refl

sound_next : (w : World) (e : Event) → IsSound w → w.next + 1 ≤ depth → IsProper w e → Owes w e → IsSound (after w e)
sound_next w e sound left proper owes = record {
  whole = (keeps_runnable w e (savable_runnable w sound.whole sound.savable) proper left).whole;
  savable = keeps_savable w e sound.whole sound.savable proper owes;
}

left : made.next + 1 ≤ depth
unfolding premises
left = omega arith

pinned_sound : IsSound (after made pins)
unfolding premises space_argument
pinned_sound = sound_next made pins made_sound left (record { fit = refl; words = refl })
    (λ s e. (let same : 2 ∷ [] ≡ s = cc in subst (λ (x : Path). may_make made x FIRST_SCRATCH_SLOT 9 ≡ true) same refl))

pub restores_not : Restores leaves_pin 0 2 (λ (slot : ℕ). slot) empty_space (λ (done : Bool). done) full [] Makes → ⊥
unfolding premises cut rebound
restores_not restores =
    let work : AtWork leaves_pin [] full Makes (after made pins) Over = record {
      stage = SpaceMakeHeld 2;
      words = no_words;
      asked = refl;
      ready = makes_ready;
      events = pins ∷ [];
      run = Own made Pins (Create 2 FIRST_SCRATCH_SLOT 9) no_words [] (after made pins) Over made_sound refl pins_ready
          (Here (after made pins) Over pinned_sound);
    } in
    let got = restores.gives (after made pins) Over true full_may work refl refl in
    let there : true ≡ false = ap (λ (c : World). is_some (c.body (FIRST_SCRATCH_SLOT ∷ []))) got.1 in
    cc
