use Rattle.std.proofs.Common.{◌≡◌, [], drop}
use Rattle.fk_scenario.specs.Scenario.Servers as definitions
use Rattle.fk_scenario.proofs.scenario.servers.check_servers.Given as goal

abbrev pub invariant-loop-server : goal.invariant-loop-server
invariant-loop-server l = definitions.serving_from l.objects l.ports l.aliases (drop l.server-index l.servers)
    ≡ definitions.serving_from l.objects [] [] l.servers
