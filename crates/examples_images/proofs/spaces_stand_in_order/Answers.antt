use Rattle.std.proofs.Common.{refl}
use Rattle.fk_image.specs.Image.Preorder.{from}
use Rattle.fk_image.specs.Image.Objects.{kind_in}
use Rattle.examples_images.specs.Images.{by_depth}
use Rattle.examples_images.proofs.Spaces.{by_breadth_isnt, falling_isnt, nearly_isnt}
use Rattle.laws_image_faults.proofs.Spaces.{spaces-formed}
use Rattle.examples_images.proofs.spaces_stand_in_order.Goals as goal

pub returns-clause-by_depth : goal.returns-clause-by_depth
unfolding from kind_in
returns-clause-by_depth c = (spaces-formed by_depth refl).order

pub returns-clause-by_breadth : goal.returns-clause-by_breadth
returns-clause-by_breadth c = by_breadth_isnt

pub returns-clause-falling : goal.returns-clause-falling
returns-clause-falling c = falling_isnt

pub returns-clause-nearly : goal.returns-clause-nearly
returns-clause-nearly c = nearly_isnt
