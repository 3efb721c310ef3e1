use Rattle.std.proofs.Common.{Some, ap, ◌∙◌}
use Rattle.fk_model.specs.declared.stage.Stage.{Stage}
use Rattle.fk_turns.proofs.whys.whys.locked_at.Goals as goal

pub locked_named-requires : goal.locked_named-requires
locked_named-requires c = record {
  unheld = c.requires.unheld;
  there = c.requires.there;
  awake = c.requires.awake;
  stage = c.requires.stage ∙ ap (λ (s : Stage). Some s) c.in-MutexLock.is;
}
