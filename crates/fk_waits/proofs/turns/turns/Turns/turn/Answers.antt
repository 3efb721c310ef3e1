use Rattle.std.proofs.lemmas.Bool.{OnFalse_at, OnTrue_at}
use Rattle.fk_waits.proofs.InTurns.Woken.{on_false, on_true}
use Rattle.fk_waits.proofs.turns.turns.Turns.turn.Goals as goal

pub returns-then-is_back-clause-none : goal.returns-then-is_back-clause-none
returns-then-is_back-clause-none c = OnTrue_at c.if-not-is_idle.false c.is_idle.ensures.none

pub returns-then-not-is_idle-clause-other : goal.returns-then-not-is_idle-clause-other
returns-then-not-is_idle-clause-other c = λ none. absurd (OnFalse_at c.if-not-is_idle.true c.is_idle.ensures.some none)

pub returns-clause-none : goal.returns-clause-none
returns-clause-none c = on_true c.go_last.result (OnTrue_at c.if-not-is_idle.false c.is_idle.ensures.none)

pub returns-clause-other : goal.returns-clause-other
returns-clause-other c = on_false _ _ c.go_last.result c.go_last.ensures.other
