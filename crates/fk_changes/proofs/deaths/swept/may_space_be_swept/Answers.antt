use Rattle.std.proofs.Common.{◌≡◌, ℕ, true, ◌∷◌, sym, ◌∙◌, arith}
use Rattle.fk_model.specs.Freezing.{may_be_swept}
use Rattle.fk_store.specs.Store.Paths.{path, place}
use Rattle.fk_store.specs.Store.World.{world}
use Rattle.fk_changes.proofs.InDeaths.Sweeps.{one_more}
use Rattle.fk_changes.proofs.deaths.swept.may_space_be_swept.Goals as goal

pub loop-slot-preserved : goal.loop-slot-preserved
loop-slot-preserved c =
    let m = c.args.store.now in
    one_more {P = λ (k : ℕ). may_be_swept (world m) (place (path m) c.args.me) (place (path m) c.args.gone) (k ∷ path m c.args.gone.space) ≡ true}
    c.loop-slot.slot c.loop-slot.invariant (sym c.may_be_swept.ensures ∙ c.if-not-may_be_swept.false)

pub returns-then-not-may_be_swept-clause-forbids : goal.returns-then-not-may_be_swept-clause-forbids
returns-then-not-may_be_swept-clause-forbids c = λ off.
    (c.loop-slot.slot ∷ path c.args.store.now c.args.gone.space, sym c.may_be_swept.ensures ∙ c.if-not-may_be_swept.true)

pub returns-clause-allows : goal.returns-clause-allows
returns-clause-allows c = λ yes k low. c.loop-slot.invariant k (omega (arith, low, c.loop-slot-test.false))
