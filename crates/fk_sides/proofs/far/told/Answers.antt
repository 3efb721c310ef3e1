use Rattle.fk_sides.proofs.far.told.Goals as goal

pub returns-in-Works : goal.returns-in-Works
returns-in-Works c = λ slot. rw c.in-Works.is (c.told_works.ensures c.args.restore.now slot)
