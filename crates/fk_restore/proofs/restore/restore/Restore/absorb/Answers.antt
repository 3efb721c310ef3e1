use Rattle.std.proofs.Common.{subst}
use Rattle.fk_image.specs.declared.image.image.Image.{Image}
use Rattle.fk_restore.specs.Restore.Restores.{IsSoundPhase}
use Rattle.fk_restore.proofs.restore.restore.Restore.absorb.Goals as goal

pub invariant_of-self : goal.invariant_of-self
invariant_of-self c = (
  c.self.invariant.0,
  subst (λ (i : Image). IsSoundPhase i.spaces c.self.inside.slot c.self.inside.pairs c.answered_in-self-inside.result)
      c.get.ensures.same c.answered_in-self-inside.ensures.sound,
)
