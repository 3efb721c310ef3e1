use Rattle.std.proofs.Common.{◌≡◌, ◌++◌, [], drop, ap, sym, ◌∙◌, append-nil}
use Rattle.std.proofs.lemmas.List.{drop_all}
use Rattle.fk_runs.specs.Recordings.Ports as definitions
use Rattle.fk_runs.proofs.recordings.ports.ports_of.Goals as goal

pub returns-clause-ports : goal.returns-clause-ports
returns-clause-ports c =
    let done : drop c.loop-server.server-index c.args.servers.now ≡ [] = drop_all c.loop-server.server-index c.args.servers.now c.loop-server-test.false in
    sym (append-nil c.loop-server.ports) ∙ (ap (λ es. c.loop-server.ports ++ definitions.ports_of es) (sym done) ∙ c.loop-server.invariant.ports)
