use Rattle.std.proofs.Common.{subst, sym, arith}
use Rattle.fk_image.proofs.InFormat.RoundTrip.{reading_again}
use Rattle.fk_codec.specs.Codec.Given.{Reads}
use Rattle.fk_codec.proofs.InCodec.Found.{is_found, is_formed, is_first}
use Rattle.fk_codec.proofs.codec.reading.read.Goals as goal

pub returns-clause-found : goal.returns-clause-found
returns-clause-found c = is_found c.args.bytes.now c.checked_image.result (λ i. omega (arith, c.type_inv.bytes i)) c.checked_image.ensures

pub returns-clause-formed : goal.returns-clause-formed
returns-clause-formed c = is_formed c.args.bytes.now c.checked_image.result (λ i. omega (arith, c.type_inv.bytes i)) c.checked_image.ensures

pub returns-clause-first : goal.returns-clause-first
returns-clause-first c = is_first c.args.bytes.now c.checked_image.result c.checked_image.ensures

pub returns-clause-only : goal.returns-clause-only
returns-clause-only c = λ i spelled. subst (λ r. Reads c.checked_image.result r) (reading_again c.args.bytes.now i spelled) c.checked_image.ensures
