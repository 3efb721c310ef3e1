-- What is read is spelled so and has the form of an image; what isn't read breaks it first where the fault says.
use Rattle.std.proofs.Common.{◌≡◌, List, ℕ, Result, Ok, Err}
use Rattle.std.specs.Prelude.{IfOk, IfErr}
use Rattle.fk_image.specs.declared.image.image.Image.{Image}
use Rattle.fk_image.specs.Format.Reading.{image_reading}
use Rattle.fk_image.specs.Format.Spells.{SpellsImage}
use Rattle.fk_image.specs.Form.Formed.{IsFormed}
use Rattle.fk_image.proofs.InFormat.Basics.{IsBytes}
use Rattle.fk_image.proofs.InFormat.RoundTrip.{reading_takes}
use Rattle.laws_image_faults.proofs.Formed.{valid-formed}
use Rattle.laws_image_faults.proofs.Laws.{faults_first}
use Rattle.fk_codec.specs.declared.codec.fail.ReadFail.{ReadFail}
use Rattle.fk_codec.specs.declared.codec.fail.ReadFail.TheVariants as fails
use Rattle.fk_codec.specs.Codec.Given.{Reads, IsFirstBreak}

pub is_found : (bytes : List ℕ) (r : Result Image ReadFail) → IsBytes bytes → Reads r (image_reading bytes) → IfOk r (λ i. SpellsImage bytes i)
is_found bytes (Ok i) fits given = reading_takes bytes i fits given
is_found bytes (Err e) fits given = tt

pub is_formed : (bytes : List ℕ) (r : Result Image ReadFail) → IsBytes bytes → Reads r (image_reading bytes) → IfOk r (λ i. IsFormed i)
is_formed bytes (Ok i) fits given = (valid-formed i).0 (reading_takes bytes i fits given).valid
is_formed bytes (Err e) fits given = tt

pub is_first : (bytes : List ℕ) (r : Result Image ReadFail) → Reads r (image_reading bytes) → IfErr r (λ fail. IsFirstBreak bytes fail)
is_first bytes (Ok i) given = tt
is_first bytes (Err fails.NoMemory) given = tt
is_first bytes (Err (fails.Image e)) given = faults_first bytes e.offset e.reason given
