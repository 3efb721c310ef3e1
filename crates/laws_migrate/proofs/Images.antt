-- Images in pieces are read again.
use Rattle.std.proofs.Common.{◌≡◌, ℕ, Bool, true, false, cond, List, [], Option, Some, None, refl, sym, ap, ◌∙◌}
use Rattle.std.specs.Prelude.{Result, Ok, Err}
use Rattle.fk_image.specs.declared.image.image.Image.{Image}
use Rattle.fk_image.specs.Image.Valid.{is_valid}
use Rattle.fk_image.specs.Format.Reading.{image_reading}
use Rattle.fk_image.specs.Format.Spelling.{spelling}
use Rattle.fk_image.proofs.InFormat.RoundTrip.{reading_again}
use Rattle.laws_handover.specs.Pieces.{joined, read_from}
use Rattle.laws_handover.proofs.Pieces.{pieces_are_exact}
use Rattle.laws_migrate.specs.Images.{valid_image, read_bytes, ImagesAreRead}

again : (i : Image) → is_valid i ≡ true → read_bytes (spelling i) ≡ Some i
again i valid =
    ap (λ (r : Result Image (ℕ × ℕ)). valid_image r) (reading_again (spelling i) i (record { valid = valid; spelled = refl })) ∙ by (is_valid i) valid
  where
    by : (b : Bool) → b ≡ true → cond b (Some i) None ≡ Some i
    by true e = refl
    by false e = cc

-- it begins with 70
filled : (i : Image) → spelling i ≡ [] → ⊥
filled i e = cc

kept : {E : Type 0} (r : Result Image E) (i : Image) → valid_image r ≡ Some i → is_valid i ≡ true
kept (Err fault) i e = cc
kept (Ok j) i e = by (is_valid j) refl e
  where
    by : (b : Bool) → is_valid j ≡ b → cond b (Some j) None ≡ Some i → is_valid i ≡ true
    by true valid e = let same : j ≡ i = cc in sym (ap is_valid same) ∙ valid
    by false valid e = cc

read_so : (o : Option (List ℕ)) (i : Image) → read_from read_bytes o ≡ Some i → is_valid i ≡ true
read_so None i e = cc
read_so (Some bytes) i e = kept (image_reading bytes) i e

pub images_are_read : ImagesAreRead
images_are_read = record {
  exact = λ i valid. pieces_are_exact spelling read_bytes i (again i valid) (filled i);
  valid = λ got i e. read_so (joined got) i e;
  nothing = refl;
}
