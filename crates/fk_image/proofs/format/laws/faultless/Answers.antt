use Rattle.std.proofs.Common.{arith}
use Rattle.fk_image.proofs.InFormat.RoundTrip.{reading_takes, reading_again, one_image}
use Rattle.fk_image.proofs.format.laws.faultless.Goals as goal

pub returns-clause-none : goal.returns-clause-none
returns-clause-none c = reading_again c.args.bytes.now

pub returns-clause-spelled : goal.returns-clause-spelled
returns-clause-spelled c = λ i e. reading_takes c.args.bytes.now i (λ k. omega (arith, c.type_inv.bytes k)) e

pub returns-clause-one : goal.returns-clause-one
returns-clause-one c = one_image c.args.bytes.now
