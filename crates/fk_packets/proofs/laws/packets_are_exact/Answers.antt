use Rattle.std.proofs.Common.{arith}
use Rattle.fk_packets.proofs.Exact.{packet_takes, packet_from, one_packet}
use Rattle.fk_packets.proofs.laws.packets_are_exact.Goals as goal

pub returns-clause-read : goal.returns-clause-read
returns-clause-read c = packet_from c.args.bytes.now

pub returns-clause-spelled : goal.returns-clause-spelled
returns-clause-spelled c = λ p e. packet_takes c.args.bytes.now p (λ k. omega (arith, c.type_inv.bytes k)) e

pub returns-clause-one : goal.returns-clause-one
returns-clause-one c = one_packet c.args.bytes.now
