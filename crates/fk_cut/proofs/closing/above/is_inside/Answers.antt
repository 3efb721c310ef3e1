use Rattle.fk_cut.proofs.InClosing.Ways.{ends_outside, steps_up, ends_inside}
use Rattle.fk_cut.proofs.closing.above.is_inside.Goals as goal

pub returns-in-None : goal.returns-in-None
returns-in-None c =
    ends_outside c.args.store.now c.args.root c.args.who c.loop-root.at c.requires.own c.loop-root.invariant.same c.loop-root-test.ensures
    c.in-None.ensures.root

pub loop-root-preserved : goal.loop-root-preserved
loop-root-preserved c = record {
  live = c.in-Some.ensures.live;
  same = steps_up c.args.store.now c.args.root c.args.who c.loop-root.at c.requires.own c.loop-root.invariant.same c.loop-root-test.ensures
      c.in-Some.space c.in-Some.ensures.place;
}

pub returns : goal.returns
returns c =
    ends_inside c.args.store.now c.args.root c.args.who c.loop-root.at c.requires.own c.loop-root.invariant.same c.loop-root-test.ensures
