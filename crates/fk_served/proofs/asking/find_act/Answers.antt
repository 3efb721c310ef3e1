use Rattle.std.proofs.Common.{arith}
use Rattle.fk_kernel.specs.Kernels.{world_of as world}
use Rattle.fk_served.proofs.Idle.{no-acts, one-more}
use Rattle.fk_served.proofs.asking.find_act.Goals as goal

pub loop-at-init : goal.loop-at-init
loop-at-init g c = no-acts c.args.services.now.list (world c.args.kernel.now) c.args.but c.args.from

pub loop-at-preserved : goal.loop-at-preserved
loop-at-preserved g c =
    one-more c.args.services.now.list (world c.args.kernel.now) c.args.but c.args.from
    c.loop-at.at c.port.result c.port.ensures c.in_default.ensures.none c.loop-at.invariant

pub returns-clause-none : goal.returns-clause-none
returns-clause-none g c k served low high = c.loop-at.invariant k served low (omega (arith, high, c.loop-at-test.false))
