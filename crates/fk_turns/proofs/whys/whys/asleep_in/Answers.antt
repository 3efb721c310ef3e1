use Rattle.std.proofs.Common.{Some, ap, ◌∙◌}
use Rattle.fk_model.specs.declared.stage.Stage.{Stage}
use Rattle.fk_turns.proofs.whys.whys.asleep_in.Goals as goal

pub asleep_named-requires : goal.asleep_named-requires
asleep_named-requires c = record {
  unheld = c.requires.unheld;
  there = c.requires.there;
  awake = c.requires.awake;
  stage = c.requires.stage ∙ ap (λ (s : Stage). Some s) c.in-CondAsleep.is;
}
