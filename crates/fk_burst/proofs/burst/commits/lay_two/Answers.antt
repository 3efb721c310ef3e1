use Rattle.std.proofs.Common.{refl}
use Rattle.fk_burst.specs.Burst.Commits.{used_pages}
use Rattle.fk_burst.proofs.burst.commits.lay_two.Goals as goal

pub lay-first-requires-clause-low : goal.lay-first-requires-clause-low
lay-first-requires-clause-low c = c.requires.low 0

pub lay-requires-clause-low : goal.lay-requires-clause-low
lay-requires-clause-low c = c.requires.low 1

pub lay-first-requires-clause-pages : goal.lay-first-requires-clause-pages
unfolding used_pages
lay-first-requires-clause-pages c = refl
