use Rattle.fk_sides.proofs.near.told_since.Goals as goal

pub returns-in-Waits : goal.returns-in-Waits
returns-in-Waits c = λ slot. rw c.in-Waits.is (c.decided.ensures slot)
