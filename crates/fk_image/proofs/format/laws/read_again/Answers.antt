use Rattle.std.proofs.Common.{refl}
use Rattle.fk_image.specs.Format.Spelling.{spelling}
use Rattle.fk_image.proofs.InFormat.RoundTrip.{reading_again}
use Rattle.fk_image.proofs.format.laws.read_again.Goals as goal

pub returns : goal.returns
returns c = λ i valid. reading_again (spelling i) i (record { valid = valid; spelled = refl })
