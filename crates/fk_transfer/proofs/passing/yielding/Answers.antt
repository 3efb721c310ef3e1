use Rattle.std.proofs.Common.{not, ap, sym, ◌∙◌}
use Rattle.fk_store.specs.Store.Bodies.{peer_by}
use Rattle.fk_store.specs.Store.Paths.{path, place}
use Rattle.fk_store.specs.Store.World.{world}
use Rattle.fk_plans.specs.Plans.Plans.{caller_by}
use Rattle.fk_transfer.specs.Lines.{line_by}
use Rattle.fk_transfer.proofs.Passed.{over_yields, served_line}
use Rattle.fk_transfer.proofs.passing.yielding.Goals as goal

pub returns-clause-outcome : goal.returns-clause-outcome
returns-clause-outcome c words =
    let p = path c.args.store.now in
    over_yields (world c.args.store.now) (caller_by p c.args.caller words) (line_by p c.in-Ok.line) c.in-Ok.ensures.line (ap (peer_by p) c.in-Service.is)
    (ap not (sym c.is_frozen.ensures ∙ c.if-is_frozen.false))

pub returns-clause-served : goal.returns-clause-served
returns-clause-served c some =
    let p = path c.args.store.now in
    served_line (world c.args.store.now) (place p c.args.caller.who) (line_by p c.in-Ok.line) c.in-Ok.ensures.line (ap (peer_by p) c.in-Service.is)
