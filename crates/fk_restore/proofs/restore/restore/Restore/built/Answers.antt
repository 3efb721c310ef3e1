use Rattle.std.proofs.Common.{ap, ◌∙◌}
use Rattle.fk_image.specs.declared.image.image.Image.{Image}
use Rattle.fk_restore.specs.Restore.Restores.{Restoring, is_built}
use Rattle.fk_restore.proofs.InRestore.Worked.{works_asks, works_built, not_built}
use Rattle.fk_restore.proofs.restore.restore.Restore.built.Goals as goal

pub is_over-requires : goal.is_over-requires
is_over-requires c =
    let i = c.self.inside in
    works_asks i.image i.slot i.pairs i.phase _ _ _ c.self.invariant.1 c.in-Works.is
    (c.as_slice-spaces.ensures ∙ ap (λ (i : Image). i.spaces) c.get.ensures.same) c.as_slice-bound.ensures

pub returns-in-Works : goal.returns-in-Works
returns-in-Works c =
    let i = c.self.inside in
    works_built i.image i.slot i.pairs i.phase _ _ _ _ c.self.invariant.0.valid c.self.invariant.1
    c.in-Works.is (c.as_slice-spaces.ensures ∙ ap (λ (i : Image). i.spaces) c.get.ensures.same) c.as_slice-bound.ensures c.is_over.ensures
    ∙ ap (λ (r : Restoring). is_built r.state) c.self.view_is

pub returns-in_default : goal.returns-in_default
returns-in_default c =
    let i = c.self.inside in
    not_built i.image i.slot i.pairs i.phase c.in_default.not-Works ∙ ap (λ (r : Restoring). is_built r.state) c.self.view_is
