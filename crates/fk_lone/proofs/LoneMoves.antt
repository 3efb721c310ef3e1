-- An instruction of a thread alone is one of the machine of `exec`, and is its move where its registers name no call.
use Rattle.std.proofs.Common.{◌≡◌, ℕ, Bool, true, false, List, [], Option, Some, None, is_none, refl, ap, ◌∙◌}
use Rattle.fk_model.specs.declared.instruction.Act.{Act}
use Rattle.fk_model.specs.declared.instruction.Act.TheVariants.{Put, Jump, Load, Store, Halt, Call}
use Rattle.fk_model.specs.declared.moves.Ask.TheVariants as asks
use Rattle.fk_model.specs.declared.stage.Stage.{Stage}
use Rattle.fk_model.specs.Calls.{todo_of}
use Rattle.fk_model.specs.Holds.{is_free}
use Rattle.fk_model.specs.Instructions.{act}
use Rattle.fk_model.specs.Moves as moves
use Rattle.fk_model.specs.Moves.{with_pick, goes_on, user_move, outcome, stepped}
use Rattle.fk_model.specs.Objects.{Mode, Thread, holds}
use Rattle.fk_model.specs.Objects.Mode.{Running, Calling, Halted, Native}
use Rattle.fk_model.specs.Outcomes.{Outcome, when}
use Rattle.fk_model.specs.Outcomes.Outcome.{Refused, Waits, Goes}
use Rattle.fk_model.specs.Reach.{reach_word}
use Rattle.fk_model.specs.Readers.{accessed}
use Rattle.fk_model.specs.Searches.{thread_at}
use Rattle.fk_model.specs.UserRows.{word_at, halts_with, enters, performs, run_row, run_row_by}
use Rattle.fk_model.specs.World.{World}
use Rattle.fk_user.specs.Running.{run_in_mode, run_of_thread, run_at}
use Rattle.fk_lone.specs.LoneThread.{alone, is_in_no_call, IsAlone, registers_of}
use Rattle.fk_lone.specs.LoneLaws.{no_call, IsFreeAlone, NamesNoCall, LoneMoveStaysAlone, LoneMoveIsInstruction, MachineMovesLone}
use Rattle.fk_lone.proofs.LoneSteps.{run_at-machine}

pub lone_move_stays_alone : LoneMoveStaysAlone
lone_move_stays_alone w is = (run_at-machine w is).0

pub lone_move_is_instruction : LoneMoveIsInstruction
lone_move_is_instruction w is = (run_at-machine w is).1

-- ---- in the abstract machine

when-true : (b : Bool) (o : Outcome) → b ≡ true → when b o ≡ o
when-true true o h = refl
when-true false o h = absurd (cc)

with_pick-none : (o : Outcome) → with_pick false None o ≡ o
with_pick-none (Refused status) = refl
with_pick-none Waits = refl
with_pick-none (Goes changes said) = refl

none-named : (o : Option (List Stage)) → is_none o ≡ true → o ≡ None
none-named None h = refl
none-named (Some todo) h = absurd (cc)

-- where the registers name no call, `call` answers so
performed : (w : World) (g : List ℕ) (counter : ℕ) (a : Act) → todo_of g ≡ None →
    performs todo_of w [] alone g counter a ≡ performs no_call w [] alone g counter a
performed w g counter (Put register value) none = refl
performed w g counter (Jump to) none = refl
performed w g counter (Load register address) none = refl
performed w g counter (Store address value) none = refl
performed w g counter (Halt code) none = refl
performed w g counter Call none = ap (enters alone g counter) none

instructed : (w : World) (g : List ℕ) (counter : ℕ) → todo_of g ≡ None → run_row w [] 0 g counter ≡ run_row_by no_call w [] 0 g counter
unfolding run_row_by
instructed w g counter none = λ i. accessed alone false (halts_with alone g counter)
    (λ s page. performed w g counter (act (word_at w s page counter) g counter) none i) (reach_word w [] counter false)

-- the move of a free thread is its instruction
moved : (w : World) (t : Thread) → is_free w [] t ≡ true → is_in_no_call t.mode ≡ true → is_none (todo_of (registers_of t.mode)) ≡ true →
    user_move w alone None (Some t) ≡ run_in_mode no_call w alone t.counter t.mode
moved w t free idle none = when-true (is_free w [] t) (goes_on w alone None t t.mode) free ∙ by t.mode refl
  where
    by : (m : Mode) → t.mode ≡ m → goes_on w alone None t m ≡ run_in_mode no_call w alone t.counter m
    by (Running g) mode = with_pick-none (run_row w [] 0 g t.counter) ∙ instructed w g t.counter (none-named (todo_of g) (rw mode at none))
    by (Calling todo rest) mode = let no = rw mode at idle in absurd (cc)
    by (Halted g code) mode = refl
    by (Native g) mode = refl

-- so it is of a world with that thread
lone-outcome : (w : World) → IsAlone w → IsFreeAlone w → NamesNoCall w → outcome w alone None asks.Run ≡ run_at no_call w alone
unfolding outcome run_at
lone-outcome w is free none = by (thread_at w alone) is.thread free none
  where
    by : (o : Option Thread) → holds (λ (t : Thread). is_in_no_call t.mode) o ≡ true → holds (is_free w []) o ≡ true →
        holds (λ (t : Thread). is_none (todo_of (registers_of t.mode))) o ≡ true → user_move w alone None o ≡ run_of_thread no_call w alone o
    by None idle free none = refl
    by (Some t) idle free none = moved w t free idle none

pub machine_moves_lone : MachineMovesLone
unfolding moves.step
machine_moves_lone w is free none = ap (λ (o : Outcome). (stepped w o).world) (lone-outcome w is free none)
