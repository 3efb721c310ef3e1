-- A proper move keeps a world savable, and so does a run of them.
use Rattle.std.proofs.Common.{◌≡◌, ◌<◌, ◌≤◌, [], ◌∷◌, true, List, Option, Some, None, refl, arith}
use Rattle.fk_model.specs.declared.limits.TheConstants.{MOST_MOVED, PAGES}
use Rattle.fk_model.specs.declared.moves.Ask.{Ask}
use Rattle.fk_model.specs.declared.moves.Ask.TheVariants as asks
use Rattle.fk_model.specs.Places.{Path}
use Rattle.fk_model.specs.Objects.{Talk, Fault, Thread, thread_of, and_then}
use Rattle.fk_model.specs.World.{World, Change, apply, apply_all}
use Rattle.fk_model.specs.Outcomes.{Outcome}
use Rattle.fk_model.specs.Outcomes.Outcome.{Refused, Waits, Goes}
use Rattle.fk_model.specs.Moves.{outcome, step, stepped}
use Rattle.fk_model.specs.Runs.{after, run}
use Rattle.fk_model.specs.Valid.{IsConsistent, is_fit}
use Rattle.fk_model.specs.Whole.{HasNumbers, IsSavable, KeepsSlots}
use Rattle.laws_moves.proofs.InMachine.validity.Changes.{valid-apply}
use Rattle.laws_moves.proofs.InMachine.validity.Steps.{facts_of}
use Rattle.laws_moves.proofs.InMachine.safety.Safe.{AreSafe}
use Rattle.laws_moves.proofs.InMachine.safety.Outcomes.{SafeOutcome}
use Rattle.laws_moves.proofs.InMachine.safety.Moves.{outcome-safe}
use Rattle.laws_moves.specs.Frozen.Users.{is_users}
use Rattle.laws_moves.proofs.InWhole.Younger.{younger-all}
use Rattle.laws_moves.proofs.InWhole.Laws.{savable_runnable, keeps_runnable, gives_one_number}
use Rattle.laws_moves.specs.Savable.Savable.{OwesAsk, ProperMoveKeepsSavable, UsersMoveKeepsSavable, RunKeepsSavable}
use Rattle.laws_moves.proofs.InSavable.Words.{all-words, words-all, numbered-of, of-numbered}
use Rattle.laws_moves.proofs.InSavable.Kept.{IsFewMoved, IsOnPage, AreTidy, AreKept, KeptOutcome}
use Rattle.laws_moves.proofs.InSavable.Pages.{PagesHaveWords, pages-apply}
use Rattle.laws_moves.proofs.InSavable.Scratch.{ScratchKept, scratch-apply}
use Rattle.laws_moves.proofs.InSavable.Bodies.{AllTidy, all-tidy, are-tidy, tidy-apply}
use Rattle.laws_moves.proofs.InSavable.Holders.{HoldersOutside, outside-apply}
use Rattle.laws_moves.proofs.InSavable.Sorts.{stand-apply}
use Rattle.laws_moves.proofs.InSavable.Placed.{TalksPlaced, FaultsPlaced, talks-apply, faults-apply}
use Rattle.laws_moves.proofs.InSavable.Moves.{Premise, outcome-kept}

-- ---- what can be saved, but for births

pub record Saved (v : World) : Type 0 where
  pub tidy : AllTidy v
  pub outside : HoldersOutside v
  pub talks : TalksPlaced v
  pub faults : FaultsPlaced v
  pub stand : KeepsSlots v
  pub scratch : ScratchKept v
  pub pages : PagesHaveWords v

tidy-of : (w : World) → IsSavable w → AreTidy w
tidy-of w savable x t there = record {
  shaped = savable.shaped x t there;
  stops = savable.few_stops x t there;
  code = savable.codes x t there;
  numbers = numbered-of t.mode (savable.shaped x t there) (savable.numbers.registers x t there);
  counter = savable.numbers.counters x t there;
  moved = few t.talk (λ talk its. savable.numbers.moved x talk (rw there its));
  missing = on t.fault (λ fault its. savable.numbers.missing x fault (rw there its));
}
  where
    few : (o : Option Talk) → ((talk : Talk) → o ≡ Some talk → talk.moved ≤ MOST_MOVED) → IsFewMoved o
    few None h = tt
    few (Some talk) h = h talk refl

    on : (o : Option Fault) → ((fault : Fault) → o ≡ Some fault → fault.page < PAGES) → IsOnPage o
    on None h = tt
    on (Some fault) h = h fault refl

words-of : (w : World) → IsSavable w → PagesHaveWords w
words-of w savable s page words there = all-words words (savable.numbers.pages s page words there)

numbers-of : (w : World) → AreTidy w → PagesHaveWords w → HasNumbers w
numbers-of w tidy pages = record {
  registers = λ x t there. of-numbered t.mode (tidy x t there).shaped (tidy x t there).numbers;
  counters = λ x t there. (tidy x t there).counter;
  moved = λ x talk there. few (and_then thread_of (w.body x)) (λ t its. (tidy x t its).moved) talk there;
  missing = λ x fault there. on (and_then thread_of (w.body x)) (λ t its. (tidy x t its).missing) fault there;
  pages = λ s page words there. words-all words (pages s page words there);
}
  where
    few : (o : Option Thread) → ((t : Thread) → o ≡ Some t → IsFewMoved t.talk) → (talk : Talk) → and_then (λ (t : Thread). t.talk) o ≡ Some talk →
        talk.moved ≤ MOST_MOVED
    few None h talk there = cc
    few (Some t) h talk there = let its = h t refl in rw there at its

    on : (o : Option Thread) → ((t : Thread) → o ≡ Some t → IsOnPage t.fault) → (fault : Fault) → and_then (λ (t : Thread). t.fault) o ≡ Some fault →
        fault.page < PAGES
    on None h fault there = cc
    on (Some t) h fault there = let its = h t refl in rw there at its

saved-of : (w : World) → IsSavable w → Saved w
saved-of w savable = record {
  tidy = all-tidy w (tidy-of w savable);
  outside = savable.holders_outside;
  talks = savable.talks_placed;
  faults = savable.faults_placed;
  stand = savable.slots_kept;
  scratch = savable.scratch_kept;
  pages = words-of w savable;
}

saved-all : (cs : List Change) (v : World) → IsConsistent v → Saved v → AreSafe v cs → AreKept v cs → Saved (apply_all cs v)
unfolding apply_all
saved-all [] v valid saved safe kept = saved
saved-all (c ∷ cs) v valid saved safe kept = saved-all cs (apply c v) (valid-apply c v valid safe.0) (record {
  tidy = tidy-apply v saved.tidy c kept.0;
  outside = outside-apply v valid saved.outside c safe.0 kept.0;
  talks = talks-apply v saved.talks saved.faults valid c safe.0 kept.0;
  faults = faults-apply v saved.talks saved.faults valid c safe.0 kept.0;
  stand = stand-apply v saved.stand c safe.0 kept.0;
  scratch = scratch-apply v valid saved.stand saved.scratch c safe.0 kept.0;
  pages = pages-apply v saved.pages c kept.0;
}) safe.1 kept.1

-- kept changes that are safe keep a world savable
pub savable-all : (cs : List Change) (w : World) → IsConsistent w → IsSavable w → AreSafe w cs → AreKept w cs → IsSavable (apply_all cs w)
savable-all cs w valid savable safe kept =
    let saved = saved-all cs w valid (saved-of w savable) safe kept in
    let tidy = are-tidy (apply_all cs w) saved.tidy in
    record {
      younger = younger-all cs w valid savable.younger safe;
      shaped = λ x t there. (tidy x t there).shaped;
      few_stops = λ x t there. (tidy x t there).stops;
      codes = λ x t there. (tidy x t there).code;
      holders_outside = saved.outside;
      talks_placed = saved.talks;
      faults_placed = saved.faults;
      slots_kept = saved.stand;
      scratch_kept = saved.scratch;
      numbers = numbers-of (apply_all cs w) tidy saved.pages;
    }

savable-stepped : (w : World) (o : Outcome) → IsConsistent w → IsSavable w → SafeOutcome w o → KeptOutcome w o → IsSavable (stepped w o).world
savable-stepped w (Goes cs said) valid savable safe kept = savable-all cs w valid savable safe.safe kept.kept
savable-stepped w (Refused status) valid savable safe kept = savable
savable-stepped w Waits valid savable safe kept = savable

-- ---- a move, and a run

pub keeps_savable : ProperMoveKeepsSavable
unfolding step
keeps_savable w e whole savable proper owes =
    let premise : Premise w = record {
      valid = whole.valid.consistent;
      rooted = whole.valid.rooted;
      pages = whole.full;
      tidy = tidy-of w savable;
      stand = savable.slots_kept;
      words = words-of w savable;
      scratch = savable.scratch_kept;
    } in
    savable-stepped w (outcome w e.mover e.pick e.ask) whole.valid.consistent savable
    (outcome-safe w e.mover e.pick e.ask (facts_of w whole.valid whole.few) proper.fit)
    (outcome-kept w premise e.mover e.pick e.ask proper.fit proper.words owes)

users-owed : (w : World) (x : Path) (ask : Ask) → is_users ask ≡ true → (is_fit w x ask ≡ true) × OwesAsk w x ask
unfolding is_fit
users-owed w x asks.Run users = (refl, tt)
users-owed w x (asks.Call stage words) users = cc
users-owed w x asks.Accept users = (refl, tt)
users-owed w x (asks.Give words len) users = (refl, tt)
users-owed w x asks.Over users = (refl, tt)

pub users_keep_savable : UsersMoveKeepsSavable
users_keep_savable w e whole savable users words =
    let proper = users-owed w e.mover e.ask users in
    keeps_savable w e whole savable (record { fit = proper.0; words = words }) proper.1

pub run_keeps_savable : RunKeepsSavable
unfolding run
run_keeps_savable w [] sound left owes = sound
run_keeps_savable w (e ∷ es) sound left owes =
    let runs = savable_runnable w sound.whole sound.savable in
    let one = gives_one_number w e runs owes.0 in
    let next = keeps_runnable w e runs owes.0 (omega (arith, left)) in
    run_keeps_savable (after w e) es
    (record { whole = next.whole; savable = keeps_savable w e sound.whole sound.savable owes.0 owes.1 }) (omega (arith, one, left)) owes.2
