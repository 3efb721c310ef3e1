use Rattle.std.proofs.Common.{inl, inr, refl, sym, ◌∙◌}
use Rattle.fk_turns.proofs.InSteps.Went.{alone_if, anyway, nobody_else, on_going}
use Rattle.fk_turns.specs.Steps.Steps.{touches_nobody}
use Rattle.fk_turns.proofs.steps.plain.is_gentle.Goals as goal

pub returns-then-ran-clause-alone : goal.returns-then-ran-clause-alone
returns-then-ran-clause-alone c =
    on_going c.touches_nobody.result (touches_nobody c.args.touched.now) c.touches_nobody.ensures (nobody_else c.args.mover c.args.touched.now)

pub returns-then-ran-clause-gentle : goal.returns-then-ran-clause-gentle
returns-then-ran-clause-gentle c =
    on_going c.touches_nobody.result (touches_nobody c.args.touched.now) c.touches_nobody.ensures
    (λ is. inl (c.if-ran.true, alone_if c.args.touched.now is))

pub returns-clause-alone : goal.returns-clause-alone
returns-clause-alone c = anyway c.is_calm.result (sym c.touches_only.ensures ∙ c.if-not-touches_only.false)

pub returns-clause-gentle : goal.returns-clause-gentle
returns-clause-gentle c = on_going c.is_calm.result c.is_calm.result refl (λ so. inr (rw so at c.is_calm.ensures))
