use Rattle.std.proofs.Common.{◌≡◌, ◌++◌, drop}
use Rattle.fk_boot.specs.FirstWorld.{served_ports}
use Rattle.fk_boot.proofs.entries.ports_of.Given as goal

abbrev pub invariant-loop-server : goal.invariant-loop-server
invariant-loop-server l = l.ports ++ served_ports (drop l.server-index l.servers) ≡ served_ports l.servers
