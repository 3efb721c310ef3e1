use Rattle.fk_changes.proofs.deaths.swept.is_swept.Goals as goal

pub returns-in-Port : goal.returns-in-Port
returns-in-Port c p apart = rw c.in-Port.is (c.is_member.ensures p apart)
