use Rattle.std.proofs.Common.{sym, ◌∙◌}
use Rattle.fk_calls.proofs.InCalls.Given.{called_given}
use Rattle.fk_calls.proofs.calls.moves.ready.Goals as goal

pub ready_given-requires-clause-words : goal.ready_given-requires-clause-words
ready_given-requires-clause-words c = called_given _ _ _ c.in-Call.is (sym c.restores.ensures ∙ c.if-restores.false)
