use Rattle.std.proofs.Common.{◌≡◌, ℕ, true, ◌∷◌, sym, ◌∙◌, arith}
use Rattle.fk_model.specs.Freezing.{may_follow}
use Rattle.fk_store.specs.Store.Paths.{path, place}
use Rattle.fk_store.specs.Store.World.{world}
use Rattle.fk_changes.proofs.InDeaths.Sweeps.{one_more}
use Rattle.fk_plans.proofs.plans.renaming.may_space_follow.Goals as goal

pub loop-slot-preserved : goal.loop-slot-preserved
loop-slot-preserved c =
    let m = c.args.store.now in
    one_more {P = λ (k : ℕ). may_follow (world m) (place (path m) c.args.me) (place (path m) c.args.renamed) (k ∷ path m c.args.renamed.space) ≡ true}
    c.loop-slot.slot c.loop-slot.invariant (sym c.may_follow.ensures ∙ c.if-not-may_follow.false)

pub returns-then-not-may_follow-clause-forbids : goal.returns-then-not-may_follow-clause-forbids
returns-then-not-may_follow-clause-forbids c = λ off.
    (c.loop-slot.slot ∷ path c.args.store.now c.args.renamed.space, sym c.may_follow.ensures ∙ c.if-not-may_follow.true)

pub returns-clause-allows : goal.returns-clause-allows
returns-clause-allows c = λ yes k low. c.loop-slot.invariant k (omega (arith, low, c.loop-slot-test.false))
