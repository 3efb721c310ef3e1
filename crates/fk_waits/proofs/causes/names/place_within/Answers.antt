use Rattle.std.proofs.Common.{◌+◌, ◌-◌, ◌/◌, refl, arith}
use Rattle.fk_waits.proofs.InCauses.Order.{half_above, half_below, halved_at_first}
use Rattle.fk_waits.proofs.causes.names.place_within.Goals as goal

pub loop-low-init : goal.loop-low-init
loop-low-init c = halved_at_first c.args.items.now c.rank-own.result

pub loop-low-preserved-then-rank-own : goal.loop-low-preserved-then-rank-own
loop-low-preserved-then-rank-own c =
    half_above c.args.items.now c.rank-own.result c.loop-low.low c.loop-low.high
    (c.loop-low.low + (c.loop-low.high - c.loop-low.low) / 2) _ c.requires c.loop-low.invariant
    (omega arith) (omega (arith, c.loop-low-test.true)) c.rank.result c.rank-own.result c.rank.ensures.place refl c.if-rank-own.true

pub loop-low-preserved : goal.loop-low-preserved
loop-low-preserved c =
    half_below c.args.items.now c.rank-own.result c.loop-low.low c.loop-low.high
    (c.loop-low.low + (c.loop-low.high - c.loop-low.low) / 2) _ c.requires c.loop-low.invariant
    (omega arith) (omega (arith, c.loop-low-test.true)) c.rank.result c.rank-own.result c.rank.ensures.place refl (omega (arith, c.if-rank-own.false))

pub bounds-items-middle : goal.bounds-items-middle
bounds-items-middle c = let within = c.loop-low.invariant.within in omega (arith, within, c.loop-low-test.true)

pub returns-clause-within : goal.returns-clause-within
returns-clause-within c = let within = c.loop-low.invariant.within in let ordered = c.loop-low.invariant.ordered in omega (arith, within, ordered)

pub returns-clause-before : goal.returns-clause-before
returns-clause-before c = rw (← c.rank-own.ensures.place) c.loop-low.invariant.before

pub returns-clause-behind : goal.returns-clause-behind
returns-clause-behind c =
    let ordered = c.loop-low.invariant.ordered in
    rw (← c.rank-own.ensures.place) (λ k d from low. c.loop-low.invariant.behind k d (omega (arith, from, ordered, c.loop-low-test.false)) low)
