use Rattle.std.proofs.Common.{◌≡◌, ◌++◌, drop}
use Rattle.fk_record_text.specs.Lines.{ArePorts}
use Rattle.fk_runs.specs.Recordings.Ports as definitions
use Rattle.fk_runs.proofs.recordings.ports.ports_of.Given as goal

-- the ports so far, and those of the servers that are left
abbrev pub invariant-loop-server : goal.invariant-loop-server
invariant-loop-server l = record {
  ports : l.ports ++ definitions.ports_of (drop l.server-index l.servers) ≡ definitions.ports_of l.servers;
  paths : ArePorts l.ports;
}
