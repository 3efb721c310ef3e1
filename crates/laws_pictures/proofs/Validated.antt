-- The image of a subtree is valid.
use Rattle.std.proofs.lemmas.Bool.{and_from}
use Rattle.fk_image.specs.Image.Valid.{is_valid}
use Rattle.laws_pictures.specs.Imaged.{ImageIsValid}
use Rattle.laws_pictures.proofs.Ordered.{link_fits, spaces_fit}
use Rattle.laws_pictures.proofs.Fitting.{all_fit}
use Rattle.laws_pictures.proofs.Leading.{spaces_led}
use Rattle.laws_pictures.proofs.Fresh.{all_fresh}

pub image_is_valid : ImageIsValid
unfolding is_valid
image_is_valid c sp alone its sound numbers once few =
    let full = all_fit c sp alone sound numbers (λ p led. link_fits c sp alone its few p led) in
    and_from _ _ (spaces_fit c sp alone its few full) (and_from _ _ (spaces_led c sp alone its sound) (all_fresh c sp alone its once))
