use Rattle.fk_model.specs.declared.moves.Ask.TheVariants as asks
use Rattle.fk_turns.specs.Next.Tried.{tried_of}
use Rattle.fk_turns.proofs.InSteps.Stepped.{kept_wider, put_tried, same_wider, still_then, still_tried, valid_tried}
use Rattle.fk_turns.proofs.InSteps.Unknown.{comes_called}
use Rattle.fk_turns.proofs.steps.steps.call.Goals as goal

pub after_call_if-requires : goal.after_call_if-requires
after_call_if-requires c =
    let m = c.args.store.now in
    let n = c.call-made.new.store in
    let move = c.args.m.now in
    let ask = asks.Call c.args.stage.now c.args.words.now in
    let tried = tried_of c.call-made.result c.call-made.new.told in
    let was = c.args.turns.now in
    let now = c.reserve_for_stage.new.turns in
    let kept = kept_wider m was.waits was.marks now.waits now.marks c.requires.kept c.reserve_for_stage.ensures.wider in
    record {
      valid = valid_tried m n move ask c.requires.valid c.names.ensures.few c.requires.fit tried c.call-made.ensures.made c.call-made.ensures.unready
          c.call-made.ensures.lacking;
      comes = rw (c.is_done.ensures c.call-made.new.told) (comes_called m n move c.args.stage.now c.args.words.now c.call-made.new.touched now.waits now.marks
          c.requires.valid c.names.ensures.few c.requires.fit c.names.ensures.born c.names-2.ensures.born c.names-2.ensures.few tried kept
          c.in_ok-reserve_for_stage.ensures.room c.call-made.ensures.made c.call-made.ensures.touched);
      kept = rw (c.is_done.ensures c.call-made.new.told) (still_tried m n move ask c.requires.valid c.names.ensures.few c.requires.fit now.waits now.marks tried
          kept c.call-made.ensures.unready c.call-made.ensures.lacking);
    }

pub returns-clause-placed : goal.returns-clause-placed
returns-clause-placed c =
    let placed = rw (c.is_done.ensures c.call-made.new.told) at c.after_call_if.ensures.placed in
    put_tried c.args.store.now c.call-made.new.store c.args.m.now (asks.Call c.args.stage.now c.args.words.now) c.requires.valid c.names.ensures.few
    c.requires.fit c.names.ensures.born c.names-2.ensures.born c.names-2.ensures.few c.call-made.new.touched c.after_call_if.new.turns.waits
    (tried_of c.call-made.result c.call-made.new.told) c.call-made.ensures.made c.call-made.ensures.touched placed

pub returns-clause-still : goal.returns-clause-still
returns-clause-still c =
    let was = c.args.turns.now in
    let now = c.reserve_for_stage.new.turns in
    let still = rw (c.is_done.ensures c.call-made.new.told) at c.after_call_if.ensures.still in
    still_then was.waits now.waits c.after_call_if.new.turns.waits _ (same_wider was.waits was.marks now.waits now.marks c.reserve_for_stage.ensures.wider) still

pub returns-clause-valid : goal.returns-clause-valid
returns-clause-valid c =
    valid_tried c.args.store.now c.call-made.new.store c.args.m.now (asks.Call c.args.stage.now c.args.words.now) c.requires.valid c.names.ensures.few
    c.requires.fit (tried_of c.call-made.result c.call-made.new.told) c.call-made.ensures.made c.call-made.ensures.unready c.call-made.ensures.lacking
