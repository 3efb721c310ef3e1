use Rattle.std.proofs.Common.{sym, ◌∙◌}
use Rattle.fk_checkpoint.specs.Checkpoint.Phases.{state_of}
use Rattle.fk_sides.specs.Kept.{reason_of}
use Rattle.fk_sides.proofs.Keeping.{asks_still, failed_some, failed_none}
use Rattle.fk_sides.proofs.kept.failed.Goals as goal

pub returns-then-is_some : goal.returns-then-is_some
returns-then-is_some c =
    asks_still c.args.checkpoint.now.slot (state_of c.args.checkpoint.now) c.next.result (sym c.is_some.ensures ∙ c.if-is_some.true) c.next.ensures.asks

pub returns-in-Some : goal.returns-in-Some
returns-in-Some c =
    failed_some c.args.checkpoint.now.slot c.args.checkpoint.now.phase c.in-Some.end.now (reason_of c.failed_so.result) c.next.result
    (sym c.is_some.ensures ∙ c.if-is_some.false) c.next.ensures.none c.in-Some.ensures.some c.failed_so.ensures

pub returns-in-None : goal.returns-in-None
returns-in-None c = failed_none c.args.checkpoint.now.slot (state_of c.args.checkpoint.now) c.in-None.ensures.none
