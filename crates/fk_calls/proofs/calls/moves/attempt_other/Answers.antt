use Rattle.std.proofs.Common.{[]}
use Rattle.fk_store.specs.Store.Paths.{path, place}
use Rattle.fk_store.specs.Store.World.{world}
use Rattle.fk_calls.proofs.InCalls.Judged.{instruction_judged, running_there}
use Rattle.fk_calls.proofs.calls.moves.attempt_other.Goals as goal

pub attempt_instruction-requires : goal.attempt_instruction-requires
attempt_instruction-requires c =
    let m = c.args.store.now in
    let judged = instruction_judged c.args.store.now c.args.m.now _ (c.in-Some.ensures.free (cc)) (c.in-Some.ensures.running (cc))
    (c.instruction.ensures.row []) c.instruction.ensures.fits c.in-Some.thread.now.regs c.instruction.ensures.instruction c.instruction.ensures.sure in
    record {
      valid = c.requires.valid;
      run = c.in-Some.ensures.run (cc);
      judged = rw c.in-Runs.is at judged;
      at = running_there (world m) (path m) (place (path m) c.args.m.now.who) _ _ c.in-Some.ensures.there (c.in-Some.ensures.running (cc));
      effect = rw c.in-Runs.is at c.instruction.ensures.instruction;
    }
