use Rattle.std.proofs.Common.{sym, ◌∙◌}
use Rattle.fk_checkpoint.specs.Checkpoint.Phases.{state_of}
use Rattle.fk_sides.proofs.Nearness.{waits_hears_none, heard_there, none_there}
use Rattle.fk_sides.proofs.near.answer_saved.Goals as goal

pub returns-then-has_image-clause-heard : goal.returns-then-has_image-clause-heard
returns-then-has_image-clause-heard c =
    waits_hears_none c.args.checkpoint.now.slot (state_of c.args.checkpoint.now) _ _ (sym c.has_image.ensures ∙ c.if-has_image.true)

pub returns-clause-heard : goal.returns-clause-heard
returns-clause-heard c =
    heard_there c.args.checkpoint.now.slot (state_of c.args.checkpoint.now) _ _ _ (none_there _ (sym c.has_image.ensures ∙ c.if-has_image.false))
    c.absorb.ensures.state
