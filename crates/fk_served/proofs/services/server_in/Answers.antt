use Rattle.std.proofs.Common.{◌∙◌, sym}
use Rattle.fk_served.proofs.Lists.{served-here, served-next, served-none}
use Rattle.fk_served.proofs.services.server_in.Goals as goal

pub returns-then-eq : goal.returns-then-eq
returns-then-eq g c =
    sym (served-here g.S.Service.meaning c.args.list.now c.loop-port.port-index c.loop-port-item.result c.args.who
    c.loop-port-test.true c.loop-port-item.is (sym c.eq.ensures ∙ c.if-eq.true)) ∙ c.loop-port.invariant

pub loop-port-preserved : goal.loop-port-preserved
loop-port-preserved g c =
    served-next g.S.Service.meaning c.args.list.now c.loop-port.port-index c.loop-port-item.result c.args.who
    c.loop-port-test.true c.loop-port-item.is (sym c.eq.ensures ∙ c.if-eq.false) ∙ c.loop-port.invariant

pub returns : goal.returns
returns g c = sym (served-none g.S.Service.meaning c.args.list.now c.loop-port.port-index c.args.who c.loop-port-test.false) ∙ c.loop-port.invariant
