use Rattle.std.proofs.Common.{ℕ, List, length, ap, ◌∙◌}
use Rattle.fk_image.specs.declared.image.image.Image.{Image}
use Rattle.fk_image.specs.Format.Spelling.{spelling}
use Rattle.laws_handover.specs.Pieces.{pieces}
use Rattle.fk_sides.proofs.spelled.Spelled.total.Goals as goal

pub returns-clause-total : goal.returns-clause-total
returns-clause-total c =
    c.total_of.ensures.total
    ∙ ap (λ (bytes : List ℕ). length (pieces bytes)) (c.as_slice.ensures.value ∙ c.self.invariant ∙ ap (λ (i : Image). spelling i) c.self.view_is)
