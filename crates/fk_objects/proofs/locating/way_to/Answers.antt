use Rattle.std.proofs.Common.{ne_eqb, sym, ◌∙◌}
use Rattle.fk_objects.proofs.Ways.{at_space, begins, goes_up, arrives, leaves}
use Rattle.fk_objects.proofs.locating.way_to.Goals as goal

pub returns-then-is_space : goal.returns-then-is_space
returns-then-is_space c = at_space _ _ _ (sym c.is_space.ensures ∙ c.if-is_space.true)

pub loop-at-init : goal.loop-at-init
loop-at-init c = begins _ _ _ c.requires.live (sym c.is_space.ensures ∙ c.if-is_space.false)

pub above-requires : goal.above-requires
above-requires c = record { live = c.loop-at.invariant.live }

pub returns-in_err-at : goal.returns-in_err-at
returns-in_err-at c =
    rw c.from_residual.ensures (leaves c.args.store.now c.args.space c.args.object c.loop-at.at c.loop-at.deep c.loop-at.invariant
    c.in_err-at.ensures.none c.in_err-at.ensures.space c.requires.space (ne_eqb _ _ c.loop-at-test.true))

pub loop-at-preserved : goal.loop-at-preserved
loop-at-preserved c =
    goes_up c.args.store.now c.args.space c.args.object c.loop-at.at c.loop-at.deep c.loop-at.invariant c.in_ok-at.at c.in_ok-at.ensures.some.0
    c.in_ok-at.ensures.some.1 c.in_ok-at.ensures.space c.requires.space (ne_eqb _ _ c.loop-at-test.true)

pub returns : goal.returns
returns c = rw c.from.ensures (arrives c.args.store.now c.args.space c.args.object c.loop-at.at c.loop-at.deep c.loop-at.invariant c.loop-at-test.false)
