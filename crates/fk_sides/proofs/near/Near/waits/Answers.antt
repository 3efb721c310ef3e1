use Rattle.fk_sides.proofs.Nearness.{works_wait}
use Rattle.fk_sides.proofs.near.Near.waits.Goals as goal

pub returns-in-Works : goal.returns-in-Works
returns-in-Works c = works_wait c.args.self.now.saves c.in-Works.checkpoint c.has_image.result c.in-Works.is c.has_image.ensures

pub returns-in-Gathered : goal.returns-in-Gathered
returns-in-Gathered c = rw c.in-Gathered.is (c.is_waiting.ensures _)
