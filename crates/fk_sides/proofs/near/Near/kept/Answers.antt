use Rattle.fk_sides.proofs.Keeping.{works_kept, gathered_kept}
use Rattle.fk_sides.proofs.near.Near.kept.Goals as goal

pub returns-in-Works : goal.returns-in-Works
returns-in-Works c = works_kept c.args.self.now.saves _ c.failed.result c.in-Works.is c.failed.ensures

pub returns-in-Gathered : goal.returns-in-Gathered
returns-in-Gathered c = gathered_kept c.args.self.now.saves _ _ c.kept_since.result c.in-Gathered.is (c.kept_since.ensures _)
