use Rattle.std.proofs.Common.{◌∙◌}
use Rattle.fk_sides.proofs.Nearness.{sent_first, sent_past, sent_last}
use Rattle.fk_sides.proofs.near.packet_since.Goals as goal

pub returns-then-number-total : goal.returns-then-number-total
returns-then-number-total c =
    c.piece.ensures ∙ sent_first c.args.spelled.now c.args.since.now c.args.number _ c.total-total.ensures.total c.if-number-total.true

pub returns-then-number-total-2 : goal.returns-then-number-total-2
returns-then-number-total-2 c = sent_past c.args.spelled.now c.args.since.now c.args.number _ c.total-total.ensures.total c.if-number-total-2.true

pub returns : goal.returns
returns c =
    c.last_since.ensures
    ∙ sent_last c.args.spelled.now c.args.since.now c.args.number _ c.total-total.ensures.total c.if-number-total.false c.if-number-total-2.false
