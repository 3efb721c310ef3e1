use Rattle.fk_burst.proofs.burst.commits.lay_all.Goals as goal

pub lay-third-requires-clause-low : goal.lay-third-requires-clause-low
lay-third-requires-clause-low c = c.requires.low 2

pub lay-requires-clause-low : goal.lay-requires-clause-low
lay-requires-clause-low c = c.requires.low 3
