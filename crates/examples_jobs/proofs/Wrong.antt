-- Wrong jobs are wrong.
use Rattle.std.proofs.Common.{◌≡◌, zero, [], ◌∷◌, true, refl, ap}
use Rattle.fk_model.specs.declared.limits.TheConstants.{OWN_SPACE, LAST_PORTER_SLOT}
use Rattle.fk_model.specs.declared.stage.Stage.{Stage}
use Rattle.fk_model.specs.declared.stage.Stage.TheVariants.{Create, Destroy, SpaceHold}
use Rattle.fk_model.specs.World.{World}
use Rattle.fk_model.specs.Cut.{cut}
use Rattle.fk_model.specs.Readers.{space_argument}
use Rattle.fk_model.specs.Runs.{after}
use Rattle.laws_moves.specs.Savable.Savable.{IsSound}
use Rattle.laws_jobs.specs.Machines.{no_words, call_of, IsReadyAt, AtWork}
use Rattle.laws_jobs.specs.Machines.Interleaved.{Here}
use Rattle.laws_jobs.specs.Jobs.{MeetsContract, Saves}
use Rattle.laws_jobs.specs.Holds.{hold}
use Rattle.examples_moves.proofs.Tested.{legal-tested}
use Rattle.examples_premises.specs.Premises.{premises}
use Rattle.examples_jobs.specs.Brief.{full}
use Rattle.examples_jobs.specs.Wrong.{one_call, destroys_its_porter, makes_a_mutex, leaves_scratch, holds_at_once, nothing, says_nothing}
use Rattle.examples_jobs.specs.Wrong.State.{First, Over}
use Rattle.examples_jobs.proofs.Full.{full_may, sound_after, full_ready, full_held}

pub its_porter : MeetsContract destroys_its_porter 0 First → ⊥
unfolding premises
its_porter tidy = let owes = (tidy.first full [] full_may (Destroy OWN_SPACE LAST_PORTER_SLOT) no_words refl).owes in cc

pub a_mutex : MeetsContract makes_a_mutex 0 First → ⊥
unfolding premises space_argument
a_mutex tidy = let owes = (tidy.first full [] full_may (Create OWN_SPACE 240 1) no_words refl).owes [] refl in cc

-- a machine of one call is at work behind it
worked : (stage : Stage) → IsReadyAt full (call_of [] stage no_words) → IsSound (after full (call_of [] stage no_words)) →
    AtWork (one_call stage) [] full First (after full (call_of [] stage no_words)) Over
worked stage ready sound = record {
  stage = stage;
  words = no_words;
  asked = refl;
  ready = ready;
  events = [];
  run = Here (after full (call_of [] stage no_words)) Over sound;
}

ready_to_make : IsReadyAt full (call_of [] (Create OWN_SPACE 240 9) no_words)
unfolding premises
ready_to_make = (legal-tested full (call_of [] (Create OWN_SPACE 240 9) no_words ∷ []) refl).0

pub scratch : MeetsContract leaves_scratch 0 First → ⊥
unfolding premises
scratch tidy =
    let first = tidy.first full [] full_may (Create OWN_SPACE 240 9) no_words refl in
    let work = worked (Create OWN_SPACE 240 9) ready_to_make (sound_after (call_of [] (Create OWN_SPACE 240 9) no_words) first.proper first.owes) in
    let clean = tidy.ends full [] (after full (call_of [] (Create OWN_SPACE 240 9) no_words)) Over true full_may work refl [] 240 refl in
    cc

pub saves_not : Saves holds_at_once 0 1 says_nothing full [] First → ⊥
unfolding cut
saves_not saves =
    let work = worked (SpaceHold OWN_SPACE 1) full_ready full_held in
    let got = saves.gives (after full (hold [] 1)) Over true nothing full_may work refl refl in
    let numbers : 1 ≡ zero = ap (λ (c : World). c.next) got.1 in
    cc
