use Rattle.fk_turns.proofs.InWhys.Waited.{found_all, found_first, found_next}
use Rattle.fk_turns.proofs.whys.causes.outermost_above.Goals as goal

pub loop-space-init : goal.loop-space-init
loop-space-init c = found_first c.args.store.now c.args.who c.requires.live

pub loop-space-preserved : goal.loop-space-preserved
loop-space-preserved c =
    let up = c.in-Some.ensures.some in
    found_next c.args.store.now c.args.who c.loop-space.at c.in-Some.space c.loop-space.found c.held_or-found.result c.loop-space.invariant up.0 up.1
    c.held_or-found.ensures

pub returns : goal.returns
returns c = found_all c.args.store.now c.args.who c.loop-space.at c.loop-space.found c.loop-space.invariant c.in_default.ensures.none
