use Rattle.fk_migrate.specs.Pairs.{shown}
use Rattle.fk_migrate.proofs.Fated.{working_so, moved_so, never_so}
use Rattle.fk_migrate.proofs.pair.Pair.moved.Goals as goal

pub returns-then-not-has_moved : goal.returns-then-not-has_moved
returns-then-not-has_moved g c = λ from its. working_so (shown c.args.self.now) from its c.has_moved.result c.requires c.if-not-has_moved.true c.has_moved.ensures

pub returns-in-Some : goal.returns-in-Some
returns-in-Some g c =
    λ from its. moved_so (shown c.args.self.now) from its c.has_moved.result c.in-Some.calls c.calls.result c.if-not-has_moved.false c.has_moved.ensures
    c.in-Some.is c.calls.ensures

pub returns-in-None : goal.returns-in-None
returns-in-None g c =
    λ from its. absurd (never_so (shown c.args.self.now) from its c.has_moved.result c.calls.result c.if-not-has_moved.false c.has_moved.ensures
    c.in-None.is c.calls.ensures)
