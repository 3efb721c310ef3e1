-- What bytes spell, and what refuses them.
use Rattle.std.specs.Prelude.{◌≡◌, ℕ, true, List}
use Rattle.fk_image.specs.declared.image.image.Image.{Image}
use Rattle.fk_image.specs.Image.Valid.{is_valid}
use Rattle.fk_image.specs.Format.Spelling.{spelling}

-- The bytes are the spelling of a valid image.
pub record SpellsImage (bytes : List ℕ) (i : Image) : Type 0 where
  pub valid : is_valid i ≡ true
  pub spelled : bytes ≡ spelling i
