use Rattle.std.proofs.Common.{refl}
use Rattle.fk_store_graph.proofs.InBodies.PlayLaws.{nobody_told, one_told}
use Rattle.fk_store_graph.proofs.bodies.scans.first_told.Goals as goal

pub returns-in-Nobody-clause-none : goal.returns-in-Nobody-clause-none
returns-in-Nobody-clause-none c = λ none. nobody_told _ c.args.part c.args.told c.requires c.in-Nobody.is

pub returns-in-One-clause-none : goal.returns-in-One-clause-none
returns-in-One-clause-none c = λ none. one_told _ c.args.part c.args.told c.requires c.in-One.other c.in-One.is (c.played_by.ensures.none none)
