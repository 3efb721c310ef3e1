use Rattle.fk_changes.proofs.deaths.ends.end_each.Goals as goal

pub returns-in-Some-clause-ends : goal.returns-in-Some-clause-ends
returns-in-Some-clause-ends c test w is = rw c.in-Some.is (c.end_talking.ensures.ends test w is)
