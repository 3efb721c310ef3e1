use Rattle.fk_store.proofs.InFreezing.FreezeLaws.{born_late, need_not}
use Rattle.fk_store.proofs.freezing.settle.settle_marks.Goals as goal

pub freeze-requires-clause-top : goal.freeze-requires-clause-top
freeze-requires-clause-top c = born_late c.args.bodies.now c.requires.known c.args.who c.args.birth c.requires.born

pub thaw-requires-clause-frozen : goal.thaw-requires-clause-frozen
thaw-requires-clause-frozen c = need_not c.args.bodies.now _ c.args.who (c.is_under.ensures.no c.if-is_under.false) c.requires.closed
