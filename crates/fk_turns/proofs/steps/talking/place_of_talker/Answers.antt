use Rattle.std.proofs.lemmas.Bool.{OnTrue_at}
use Rattle.std.proofs.Common.{refl}
use Rattle.fk_turns.proofs.InSteps.Talked.{there_by}
use Rattle.fk_turns.proofs.steps.talking.place_of_talker.Goals as goal

pub returns-then-is_going : goal.returns-then-is_going
returns-then-is_going c = OnTrue_at c.if-is_going.true c.is_going.ensures.up

pub returns-in-Some : goal.returns-in-Some
returns-in-Some c = record { why = c.in-Some.ensures.why; cause = c.in-Some.ensures.cause; user = c.in-Some.ensures.user refl }

pub returns-in-None : goal.returns-in-None
returns-in-None c = there_by c.args.store.now c.args.who c.can_talk.result c.place_by.result c.place_by.ensures c.can_talk.ensures
