use Rattle.std.proofs.Common.{arith}
use Rattle.fk_image.proofs.InFormat.RoundTrip.{reading_again}
use Rattle.fk_puts.proofs.puts.read_back.Goals as goal

pub returns : goal.returns
returns c = (λ i. omega (arith, c.type_inv.bytes i), reading_again c.args.bytes.now c.args.image.now c.requires)
