use Rattle.fk_sides.proofs.near.answered_since.Goals as goal

pub returns-in-Clears : goal.returns-in-Clears
returns-in-Clears c = λ i slot status words. rw c.in-Clears.is (c.cleared.ensures i slot status words)
