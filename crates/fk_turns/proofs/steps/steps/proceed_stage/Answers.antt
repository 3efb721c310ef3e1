use Rattle.std.proofs.Common.{None}
use Rattle.fk_model.specs.declared.moves.Ask.TheVariants as asks
use Rattle.fk_model.specs.declared.moves.Move.{Move}
use Rattle.fk_model.specs.declared.moves.Said.TheVariants as says
use Rattle.fk_turns.proofs.InSteps.Stepped.{comes_true, kept_wider, put_true, run_fit, same_wider, still_then, still_true, valid_true}
use Rattle.fk_turns.proofs.InSteps.Locked.{if_false}
use Rattle.fk_turns.proofs.InSteps.Rested.{free_made, where_made}
use Rattle.fk_turns.proofs.InSteps.Went.{off_anyway}
use Rattle.fk_turns.proofs.steps.steps.proceed_stage.Goals as goal

pub after_silent_if-requires : goal.after_silent_if-requires
after_silent_if-requires c =
    let m = c.args.store.now in
    let n = c.stage-made.new.store in
    let run : Move = record { who = c.args.who; pick = None } in
    let was = c.args.turns.now in
    let now = c.seat_for.new.turns in
    let kept = kept_wider m was.waits was.marks now.waits now.marks c.requires.kept c.seat_for.ensures.wider in
    let room = rw c.if-not-seat_for.false at c.seat_for.ensures.room in
    record {
      valid = valid_true m n run asks.Run c.requires.valid c.names.ensures.few (run_fit m run) says.Nothing c.stage-made.result c.stage-made.ensures.made
          c.stage-made.ensures.same;
      comes = comes_true m n run asks.Run c.requires.valid c.names.ensures.few (run_fit m run) c.names.ensures.born c.names-2.ensures.born
          c.names-2.ensures.few c.stage-made.new.touched now.waits now.marks says.Nothing c.stage-made.result kept room c.stage-made.ensures.made
          c.stage-made.ensures.touched;
      free = free_made _ m c.args.who now.waits now.marks c.stage-made.result c.requires.valid c.names.ensures.few kept c.stage-made.ensures.made;
      kept = still_true m n run asks.Run c.requires.valid c.names.ensures.few (run_fit m run) now.waits now.marks c.stage-made.result kept
          c.stage-made.ensures.same;
    }

pub returns-clause-placed : goal.returns-clause-placed
returns-clause-placed c =
    let m = c.args.store.now in
    let run : Move = record { who = c.args.who; pick = None } in
    if_false c.args.stays (put_true m c.stage-made.new.store run asks.Run c.requires.valid c.names.ensures.few (run_fit m run) c.names.ensures.born
    c.names-2.ensures.born c.names-2.ensures.few c.stage-made.new.touched c.after_silent_if.new.turns.waits says.Nothing c.stage-made.result
    c.stage-made.ensures.made c.stage-made.ensures.touched)
    (where_made _ c.args.stays c.stage-made.result c.after_silent_if.ensures.placed)

pub returns-clause-still : goal.returns-clause-still
returns-clause-still c =
    let was = c.args.turns.now in
    let now = c.seat_for.new.turns in
    still_then was.waits now.waits c.after_silent_if.new.turns.waits _ (same_wider was.waits was.marks now.waits now.marks c.seat_for.ensures.wider)
    c.after_silent_if.ensures.still

pub returns-then-not-seat_for-clause-placed : goal.returns-then-not-seat_for-clause-placed
returns-then-not-seat_for-clause-placed c = off_anyway c.args.stays tt

pub returns-then-not-seat_for-clause-kept : goal.returns-then-not-seat_for-clause-kept
returns-then-not-seat_for-clause-kept c =
    let was = c.args.turns.now in
    let now = c.seat_for.new.turns in
    kept_wider c.args.store.now was.waits was.marks now.waits now.marks c.requires.kept c.seat_for.ensures.wider

pub returns-then-not-seat_for-clause-still : goal.returns-then-not-seat_for-clause-still
returns-then-not-seat_for-clause-still c =
    let was = c.args.turns.now in
    let now = c.seat_for.new.turns in
    same_wider was.waits was.marks now.waits now.marks c.seat_for.ensures.wider

pub returns-clause-valid : goal.returns-clause-valid
returns-clause-valid c =
    let m = c.args.store.now in
    let run : Move = record { who = c.args.who; pick = None } in
    valid_true m c.stage-made.new.store run asks.Run c.requires.valid c.names.ensures.few (run_fit m run) says.Nothing c.stage-made.result
    c.stage-made.ensures.made c.stage-made.ensures.same
