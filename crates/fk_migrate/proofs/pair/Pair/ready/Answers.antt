use Rattle.fk_migrate.proofs.pair.Pair.ready.Goals as goal

pub returns-in-Near-clause-ready : goal.returns-in-Near-clause-ready
returns-in-Near-clause-ready g c = λ from its. rw c.in-Near.is (c.near_ready.ensures from its)

pub returns-in-Far-clause-ready : goal.returns-in-Far-clause-ready
returns-in-Far-clause-ready g c = λ from its. rw c.in-Far.is (c.far_ready.ensures from its)

pub returns-in-ToFar-clause-ready : goal.returns-in-ToFar-clause-ready
returns-in-ToFar-clause-ready g c = rw c.in-ToFar.is c.near_has_sent.ensures.ready

pub returns-in-ToNear-clause-ready : goal.returns-in-ToNear-clause-ready
returns-in-ToNear-clause-ready g c = λ from its. rw c.in-ToNear.is (c.far_has_sent.ensures from its)

pub returns-in-GiveUp-clause-ready : goal.returns-in-GiveUp-clause-ready
returns-in-GiveUp-clause-ready g c = λ from its. rw c.in-GiveUp.is (c.may_give_up.ensures from its)
