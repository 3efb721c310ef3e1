use Rattle.fk_store.proofs.InFreezing.FreezeLaws.{born_late, thawed_one}
use Rattle.fk_store.proofs.freezing.thaw.thaw_one.Goals as goal

pub clear-requires : goal.clear-requires
clear-requires c = born_late c.args.bodies.now c.requires.known c.args.who c.args.birth c.requires.born

pub returns-clause-frozen : goal.returns-clause-frozen
returns-clause-frozen c = thawed_one c.args.bodies.now c.requires.known _ _ c.args.who c.args.birth c.requires.born (c.is_under.ensures.no c.if-is_under.false)
    c.requires.frozen c.clear.ensures.others c.clear.ensures.less
