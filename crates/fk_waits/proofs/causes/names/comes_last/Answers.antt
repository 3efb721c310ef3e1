use Rattle.std.proofs.Common.{◌-◌, length, arith}
use Rattle.fk_waits.specs.Causes.Names.{rank}
use Rattle.fk_waits.proofs.InCauses.Order.{last_below}
use Rattle.fk_waits.proofs.causes.names.comes_last.Goals as goal

pub returns-then-many-eq0-clause-last : goal.returns-then-many-eq0-clause-last
returns-then-many-eq0-clause-last c k d low = absurd (omega (arith, low, c.if-many-eq0.true))

pub returns-then-rank-own-clause-last : goal.returns-then-rank-own-clause-last
returns-then-rank-own-clause-last c =
    last_below c.args.items.now (rank c.args.who) (length c.args.items.now - 1) _ c.requires (omega (arith, c.if-many-eq0.false))
    (omega (arith, c.if-many-eq0.false)) c.rank.result c.rank-own.result c.rank.ensures.place c.rank-own.ensures.place c.if-rank-own.true
