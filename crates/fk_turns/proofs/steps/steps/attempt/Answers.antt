use Rattle.fk_turns.proofs.InSteps.Stepped.{comes_tried, kept_wider, never_quiet, put_tried, same_wider, still_then, still_tried, valid_tried}
use Rattle.fk_turns.proofs.steps.steps.attempt.Goals as goal

pub after_plain_if-requires : goal.after_plain_if-requires
after_plain_if-requires c =
    let m = c.args.store.now in
    let n = c.attempt-tried.new.store in
    let move = c.args.m.now in
    let ask = c.args.ask.now in
    let tried = c.attempt-tried.result in
    let was = c.args.turns.now in
    let now = c.reserve_for.new.turns in
    let kept = kept_wider m was.waits was.marks now.waits now.marks c.requires.kept c.reserve_for.ensures.wider in
    record {
      valid = valid_tried m n move ask c.requires.valid c.names.ensures.few c.requires.fit tried c.attempt-tried.ensures.made c.attempt-tried.ensures.unready
          c.attempt-tried.ensures.lacking;
      comes = rw c.is_made.ensures (comes_tried m n move ask c.requires.valid c.names.ensures.few c.requires.fit c.names.ensures.born c.names-2.ensures.born
          c.names-2.ensures.few c.attempt-tried.new.touched now.waits now.marks tried kept c.in_ok-reserve_for.ensures.room c.attempt-tried.ensures.made
          c.attempt-tried.ensures.touched);
      quiet = never_quiet n c.args.m.now.who c.is_made.result c.attempt-tried.new.touched now.waits now.marks;
      kept = rw c.is_made.ensures (still_tried m n move ask c.requires.valid c.names.ensures.few c.requires.fit now.waits now.marks tried kept
          c.attempt-tried.ensures.unready c.attempt-tried.ensures.lacking);
    }

pub returns-clause-placed : goal.returns-clause-placed
returns-clause-placed c =
    let placed = rw c.is_made.ensures at c.after_plain_if.ensures.placed in
    put_tried c.args.store.now c.attempt-tried.new.store c.args.m.now c.args.ask.now c.requires.valid c.names.ensures.few c.requires.fit c.names.ensures.born
    c.names-2.ensures.born c.names-2.ensures.few c.attempt-tried.new.touched c.after_plain_if.new.turns.waits c.attempt-tried.result
    c.attempt-tried.ensures.made
    c.attempt-tried.ensures.touched placed

pub returns-clause-still : goal.returns-clause-still
returns-clause-still c =
    let was = c.args.turns.now in
    let now = c.reserve_for.new.turns in
    let still = rw c.is_made.ensures at c.after_plain_if.ensures.still in
    still_then was.waits now.waits c.after_plain_if.new.turns.waits _ (same_wider was.waits was.marks now.waits now.marks c.reserve_for.ensures.wider) still

pub returns-clause-valid : goal.returns-clause-valid
returns-clause-valid c =
    valid_tried c.args.store.now c.attempt-tried.new.store c.args.m.now c.args.ask.now c.requires.valid c.names.ensures.few c.requires.fit
    c.attempt-tried.result c.attempt-tried.ensures.made c.attempt-tried.ensures.unready c.attempt-tried.ensures.lacking
