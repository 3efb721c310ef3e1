use Rattle.std.proofs.Common.{refl}
use Rattle.fk_turns.proofs.next.looking.judged.Goals as goal

pub returns-in-Some-clause-up : goal.returns-in-Some-clause-up
returns-in-Some-clause-up c = c.in-Some.ensures.up refl
