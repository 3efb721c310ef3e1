use Rattle.fk_packets.proofs.Exact.{packet_again}
use Rattle.fk_packets.proofs.laws.packets_are_read_again.Goals as goal

pub returns : goal.returns
returns c = packet_again
