use Rattle.std.proofs.Common.{◌≡◌, drop}
use Rattle.fk_served.specs.Served.{serving, shown}
use Rattle.fk_served.proofs.services.server_in.Given as goal

abbrev pub invariant-loop-port : goal.invariant-loop-port
invariant-loop-port g l = serving (shown g.S.Service.meaning (drop l.port-index l.list)) l.who ≡ serving (shown g.S.Service.meaning l.list) l.who
