use Rattle.std.proofs.Common.{sym, ◌∙◌}
use Rattle.fk_checkpoint.specs.Checkpoint.Phases.{state_of}
use Rattle.fk_sides.proofs.Nearness.{waits_asks_none, call_there, none_there}
use Rattle.fk_sides.proofs.near.next_saved.Goals as goal

pub returns-then-has_image : goal.returns-then-has_image
returns-then-has_image c =
    waits_asks_none c.args.checkpoint.now.slot (state_of c.args.checkpoint.now) (sym c.has_image.ensures ∙ c.if-has_image.true)

pub returns-else-has_image : goal.returns-else-has_image
returns-else-has_image c =
    call_there c.args.checkpoint.now.slot c.args.checkpoint.now.phase c.next.result (none_there _ (sym c.has_image.ensures ∙ c.if-has_image.false))
    c.next.ensures.asks c.next.ensures.none
