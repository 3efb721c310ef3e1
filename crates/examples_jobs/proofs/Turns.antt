-- Turns and places of a history, worked.
use Rattle.std.proofs.Common.{◌≡◌, ℕ, ◌≤◌, Bool, true, false, List, [], ◌∷◌, length, Option, Some, None, ◌⊎◌, inl, inr, refl, sym, ap, subst, arith}
use Rattle.std.specs.List.{slice_get}
use Rattle.fk_model.specs.declared.moves.Ask.TheVariants as asks
use Rattle.fk_model.specs.declared.moves.Move.{Move}
use Rattle.fk_model.specs.World.{World}
use Rattle.fk_model.specs.Who.{event_of}
use Rattle.laws_jobs.specs.Machines.{IsReadyAt}
use Rattle.laws_runs.specs.Cores.{House, Core, Work, Unmoved, is_porter_of, IsOtherReady, IsDueNow, EndsFor, EndsNow, with_end, Settles, Asker, asker}
use Rattle.laws_runs.specs.Cores.Unmoved.{NoImage, Dead}
use Rattle.laws_runs.specs.Cores.Asker.{Others}
use Rattle.laws_runs.specs.Cores.Settles.{Stays, Ends}
use Rattle.examples_jobs.specs.Turns.{late, after_events, NotYetEnded, EndedInTime, OneMove}

same_number : (a b : ℕ) → Some a ≡ Some b → a ≡ b
same_number a b e = cc

pub not_yet_ended : NotYetEnded
not_yet_ended w m d apart ready settles = by d settles
  where
    runs : asker late (after_events w 4) m.who ≡ Others asks.Run
    runs = rw apart refl

    early : (job : ℕ) → job ≡ 5 → IsDueNow late (after_events w 4) job → ⊥
    early job is (inl works) = let idle = works.1 in cc
    early job is (inr (inl low)) = omega (arith, low, is)
    early job is (inr (inr nobody)) = nobody (m, asks.Run, runs, ready)

    by : (d : Core ℕ ℕ ℕ) → Settles late (after_events w 4) d → d ≡ after_events w 4
    by _ (Stays c none) = refl
    by _ (Ends c d why now rest) = absurd (early now.job (sym (same_number 5 now.job now.its)) now.due)

pub ended_in_time : EndedInTime
ended_in_time w d settles = by d settles
  where
    due : EndsNow late (after_events w 5) NoImage
    due = record { job = 5; its = refl; due = inr (inl (omega arith)); unmoved = refl; ends = refl }

    none_left : (why : Unmoved) → EndsNow late (with_end (after_events w 5) NoImage) why → ⊥
    none_left why now = let its = now.its in cc

    second : (d : Core ℕ ℕ ℕ) → Settles late (with_end (after_events w 5) NoImage) d → d ≡ with_end (after_events w 5) NoImage
    second _ (Stays c none) = refl
    second _ (Ends c d why now rest) = absurd (none_left why now)

    first : (d : Core ℕ ℕ ℕ) (why : Unmoved) → EndsNow late (after_events w 5) why → Settles late (with_end (after_events w 5) why) d
        → d ≡ with_end (after_events w 5) NoImage
    first d NoImage now rest = second d rest
    first d Dead now rest = let begins = now.ends.1 in cc

    by : (d : Core ℕ ℕ ℕ) → Settles late (after_events w 5) d → d ≡ with_end (after_events w 5) NoImage
    by _ (Stays c none) = absurd (none NoImage due)
    by _ (Ends c d why now rest) = first d why now rest

pub one_move : OneMove
one_move h first d m ready settles = (refl, refl)
