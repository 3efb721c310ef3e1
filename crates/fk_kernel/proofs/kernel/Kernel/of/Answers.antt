use Rattle.fk_turns.proofs.InSteps.Stepped.{kept_wider}
use Rattle.fk_kernel.proofs.kernel.Kernel.of.Goals as goal

pub reserve-requires : goal.reserve-requires
reserve-requires c = record { sound = c.in_ok-turns.ensures.sound }

pub invariant_of-result : goal.invariant_of-result
invariant_of-result c =
    let was = c.in_ok-turns.turns in
    let now = c.reserve.new.self in
    record {
      valid = c.requires.valid;
      kept = kept_wider c.args.store was.waits was.marks now.waits now.marks c.in_ok-turns.ensures
          (record {
            ready = c.reserve.ensures.ready;
            queued = c.reserve.ensures.queued;
            marked = c.reserve.ensures.marked;
            keyed = c.reserve.ensures.keyed;
            sound = c.reserve.ensures.sound;
          });
    }
