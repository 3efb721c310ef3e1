use Rattle.std.proofs.Common.{None}
use Rattle.fk_turns.proofs.InSteps.Locked.{if_true}
use Rattle.fk_turns.proofs.steps.talking.can_talk.Goals as goal

pub may_talk-requires : goal.may_talk-requires
may_talk-requires c = record { valid = c.requires.valid; unheld = c.is_any_held.ensures c.if-is_any_held.false }

pub returns : goal.returns
returns c = if_true c.may_talk.result (λ ready. (None, ready)) c.may_talk.ensures
