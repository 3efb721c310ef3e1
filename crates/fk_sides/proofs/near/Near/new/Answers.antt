use Rattle.std.proofs.Common.{ap}
use Rattle.fk_sides.specs.Sides.{near_at}
use Rattle.fk_sides.proofs.near.Near.new.Goals as goal

pub returns-clause-state : goal.returns-clause-state
returns-clause-state c = ap near_at c.new.ensures.state
