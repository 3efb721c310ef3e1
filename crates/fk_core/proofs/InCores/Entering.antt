-- Entering: instructions of a thread, and then a call that it enters, are moves of a thread that runs.
use Rattle.std.proofs.Common.{◌≡◌, ℕ, zero, suc, ◌+◌, ◌<◌, true, Option, Some, None, refl, sym, ap, subst, arith}
use Rattle.fk_model.specs.declared.moves.Ask.TheVariants as asks
use Rattle.fk_model.specs.declared.moves.Move.{Move}
use Rattle.fk_model.specs.declared.names.Who.{Who}
use Rattle.fk_model.specs.Objects.{Mode, Thread}
use Rattle.fk_model.specs.Objects.Mode.{Running, Calling, Halted, Native}
use Rattle.fk_model.specs.Outcomes.Said.{Nothing}
use Rattle.fk_model.specs.Runs.{after}
use Rattle.fk_model.specs.Searches.{thread_at}
use Rattle.fk_model.specs.Who.{event_of, named}
use Rattle.fk_model.specs.World.{World}
use Rattle.fk_plans.specs.Plans.Effects.{is_running, is_running_mode}
use Rattle.fk_core.specs.Rounds.Events.{IsReadyEvent, step_of}
use Rattle.fk_core.specs.Rounds.Kernels.{Kept}
use Rattle.fk_core.specs.Rounds.Kernels.{world_of as world}
use Rattle.laws_turns.specs.Quiet.{LeadRunning, IsRunningMove}

abbrev move_of : Who → Move
move_of who = record { who = who; pick = None }

-- moves of a thread, or none
pub moves_lead : (who : Who) (n : ℕ) (k l : Kept) → (n ≡ 0 → l ≡ k) → (0 < n → LeadRunning (move_of who) n (world k) (world l)) →
    LeadRunning (move_of who) n (world k) (world l)
moves_lead who zero k l none led = sym (ap (λ (o : Kept). world o) (none refl))
moves_lead who (suc n) k l none led = led (omega arith)

-- a ready move of a thread that runs
running_move : (w v : World) (m : Move) → is_running (thread_at w (named w m.who)) ≡ true → IsReadyEvent w (event_of w asks.Run m) →
    after w (event_of w asks.Run m) ≡ v → IsRunningMove m w v
running_move w v m is ready goes = by (thread_at w (named w m.who)) refl is
  where
    by : (o : Option Thread) → thread_at w (named w m.who) ≡ o → is_running o ≡ true → IsRunningMove m w v
    by None e is = absurd (cc)
    by (Some t) e is = by_mode t.mode refl is
      where
        by_mode : (k : Mode) → t.mode ≡ k → is_running_mode k ≡ true → IsRunningMove m w v
        by_mode (Running g) f is = record { thread = t; there = e; registers = g; runs = f; ready = ready; goes = goes }
        by_mode (Calling todo rest) f is = absurd (cc)
        by_mode (Halted g code) f is = absurd (cc)
        by_mode (Native g) f is = absurd (cc)

-- and one move more
pub one_more : (who : Who) (n : ℕ) (k l o : Kept) → LeadRunning (move_of who) n (world k) (world l) →
    is_running (thread_at (world l) (named (world l) who)) ≡ true →
    IsReadyEvent (world l) (event_of (world l) asks.Run (move_of who))
    × (step_of (world l) (event_of (world l) asks.Run (move_of who)) ≡ record { world = world o; said = Nothing }) →
    LeadRunning (move_of who) (n + 1) (world k) (world o)
one_more who n k l o led is made =
    let last = running_move (world l) (world o) (move_of who) is made.0 (ap (λ s. s.world) made.1) in
    let more : suc n ≡ n + 1 = omega arith in
    let through : LeadRunning (move_of who) (suc n) (world k) (world o) = (world l, led, last) in
    subst (λ (times : ℕ). LeadRunning (move_of who) times (world k) (world o)) more through
