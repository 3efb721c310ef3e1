use Rattle.std.proofs.Common.{sym, ap, ◌∙◌}
use Rattle.fk_image.specs.declared.image.image.Image.{Image}
use Rattle.fk_image.specs.Format.Spelling.{spelling}
use Rattle.fk_image.specs.Image.Valid.{is_valid}
use Rattle.fk_sides.proofs.spelled.Spelled.new.Goals as goal

pub write-requires : goal.write-requires
write-requires c = ap (λ (i : Image). is_valid i) c.get.ensures.same ∙ c.get.ensures.valid

pub invariant_of-result : goal.invariant_of-result
invariant_of-result c = c.in_ok-bytes.ensures.spelled ∙ ap (λ (i : Image). spelling i) (c.get.ensures.same ∙ sym c.in_ok-image.ensures)
