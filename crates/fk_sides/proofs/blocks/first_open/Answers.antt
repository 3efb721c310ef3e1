use Rattle.std.proofs.Common.{sym, ◌∙◌, arith}
use Rattle.fk_sides.proofs.Coming.{filled_more, filled_end, is_within}
use Rattle.fk_sides.proofs.blocks.first_open.Goals as goal

pub loop-first-preserved : goal.loop-first-preserved
loop-first-preserved c =
    filled_more c.args.blocks.now c.loop-first.first c.loop-first.invariant (sym c.has_come.ensures ∙ c.loop-first-test.true)

pub loop-first-smaller : goal.loop-first-smaller
loop-first-smaller c =
    let within = is_within c.args.blocks.now c.loop-first.first (sym c.has_come.ensures ∙ c.loop-first-test.true) in
    omega (arith, within)

pub returns : goal.returns
returns c = filled_end c.args.blocks.now c.loop-first.first c.loop-first.invariant (sym c.has_come.ensures ∙ c.loop-first-test.false)
