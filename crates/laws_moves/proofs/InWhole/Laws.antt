-- A proper move keeps a world runnable, and so does a run of them.
use Rattle.std.proofs.Common.{◌≡◌, [], ◌∷◌, length, ◌∙◌, arith}
use Rattle.fk_model.specs.World.{World}
use Rattle.fk_model.specs.Moves.{outcome, step}
use Rattle.fk_model.specs.Runs.{Event, after, run}
use Rattle.laws_moves.proofs.InMachine.validity.Steps.{step_keeps_valid_lem}
use Rattle.laws_moves.specs.Whole.Runnable.{IsRunnable, IsProper, ProperMoveGivesOneNumber, ProperMoveKeepsRunnable, RunKeepsRunnable, SavableIsRunnable}
use Rattle.fk_model.specs.Objects.{Mode, registers_of}
use Rattle.fk_model.specs.Objects.Mode.{Running, Calling, Halted, Native}
use Rattle.fk_model.specs.Shapes.{IsShapedMode}
use Rattle.laws_moves.proofs.InWhole.Lengths.{length-calling}
use Rattle.laws_moves.proofs.InWhole.Outcomes.{FullOutcome}
use Rattle.laws_moves.proofs.InWhole.Moves.{outcome-full}
use Rattle.laws_moves.proofs.InWhole.Kept.{all-have, registers-of, IsFilled, filled-stepped, next-stepped}

event-full : (w : World) (e : Event) → IsRunnable w → IsProper w e → FullOutcome (outcome w e.mover e.pick e.ask)
event-full w e runs proper = outcome-full w e.mover e.pick e.ask runs.whole.full runs.registers proper.words

pub gives_one_number : ProperMoveGivesOneNumber
unfolding step
gives_one_number w e runs proper = next-stepped w (outcome w e.mover e.pick e.ask) (event-full w e runs proper)

filled_after : (w : World) (e : Event) → IsRunnable w → IsProper w e → IsFilled (after w e)
unfolding step
filled_after w e runs proper =
    filled-stepped w (outcome w e.mover e.pick e.ask) (record { pages = runs.whole.full; all = all-have w runs.registers }) (event-full w e runs proper)

pub keeps_runnable : ProperMoveKeepsRunnable
keeps_runnable w e runs proper left =
    let filled = filled_after w e runs proper in
    let one = gives_one_number w e runs proper in
    record {
      whole = record {
        valid = step_keeps_valid_lem w e.mover e.pick e.ask runs.whole.valid runs.whole.few proper.fit;
        few = omega (arith, one, left);
        full = filled.pages;
      };
      registers = registers-of (after w e) filled.all;
    }

pub run_keeps_runnable : RunKeepsRunnable
unfolding run
run_keeps_runnable w [] runs left proper = runs
run_keeps_runnable w (e ∷ es) runs left proper =
    let one = gives_one_number w e runs proper.0 in
    run_keeps_runnable (after w e) es (keeps_runnable w e runs proper.0 (omega (arith, left))) (omega (arith, one, left)) proper.1

-- a mode that is well shaped has 16 registers
shaped_registers : (mode : Mode) → IsShapedMode mode → length (registers_of mode) ≡ 16
shaped_registers (Running g) shaped = shaped
shaped_registers (Calling todo rest) shaped = length-calling todo rest ∙ shaped.1.sixteen
shaped_registers (Halted g code) shaped = shaped
shaped_registers (Native g) shaped = shaped

pub savable_runnable : SavableIsRunnable
savable_runnable w whole savable = record { whole = whole; registers = λ x t there. shaped_registers t.mode (savable.shaped x t there) }
