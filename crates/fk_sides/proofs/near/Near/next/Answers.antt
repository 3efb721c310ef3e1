use Rattle.fk_sides.proofs.Nearness.{works_next}
use Rattle.fk_sides.proofs.near.Near.next.Goals as goal

pub returns-in-Works : goal.returns-in-Works
returns-in-Works c =
    works_next c.args.self.now.slot c.args.self.now.saves c.in-Works.checkpoint c.next_saved.result c.in-Works.is c.args.self.now.same c.next_saved.ensures

pub returns-in-Gathered : goal.returns-in-Gathered
returns-in-Gathered c = rw c.in-Gathered.is (c.next_since.ensures _)
