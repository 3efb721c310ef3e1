use Rattle.std.proofs.Common.{sym}
use Rattle.std.proofs.lemmas.Bool.{OnFalse_at, OnTrue_at}
use Rattle.fk_waits.proofs.InCauses.Steps.{named_head, somebody_waits}
use Rattle.fk_waits.proofs.causes.causes.Causes.forget.Goals as goal

pub is_empty-requires : goal.is_empty-requires
is_empty-requires c = named_head c.args.self.now c.in-Some.head c.args.name (sym c.in-Some.ensures) c.requires

pub drop_queue-requires : goal.drop_queue-requires
drop_queue-requires c = record {
  stand = c.requires;
  named = sym c.in-Some.ensures;
  empty = OnTrue_at c.if-is_empty.true c.is_empty.ensures.none;
}

pub returns-in_default-clause-gone : goal.returns-in_default-clause-gone
returns-in_default-clause-gone c l standing none = sym c.in_default.ensures

pub returns-then-is_empty-clause-gone : goal.returns-then-is_empty-clause-gone
returns-then-is_empty-clause-gone c l standing none = c.drop_queue.ensures.gone

pub returns-else-is_empty-clause-gone : goal.returns-else-is_empty-clause-gone
returns-else-is_empty-clause-gone c l standing none =
    somebody_waits c.args.self.now c.in-Some.head c.args.name c.in-Some.ensures l standing none (OnFalse_at c.if-is_empty.false c.is_empty.ensures.some)
