-- Raising: what is told of a fault that an instruction raises, or of none.
use Rattle.std.proofs.Common.{◌≡◌, Bool, true, false, None, if◌then◌else◌, sym, ap, subst, ◌∙◌}
use Rattle.std.specs.Bool.{OnTrue}
use Rattle.fk_plans.specs.declared.wakes.touching.Touched.{Touched}
use Rattle.fk_plans.specs.declared.wakes.touching.Touched.TheVariants.{Few}
use Rattle.fk_plans.specs.Wakes.Touches.{is_making}

pub tells_as : (P : Touched → Type 0) (raised has : Bool) (t u : Touched) → has ≡ raised → u ≡ (if raised then t else Few None None None) →
    OnTrue raised (P t) → OnTrue has (P u)
tells_as P true has t u is same told = subst (λ (b : Bool). OnTrue b (P u)) (sym is) (subst P (sym same) told)
tells_as P false has t u is same told = subst (λ (b : Bool). OnTrue b (P u)) (sym is) tt

pub few_raised : (raised : Bool) (t u : Touched) → OnTrue raised (is_making t ≡ false) → u ≡ (if raised then t else Few None None None) →
    is_making u ≡ false
few_raised true t u few same = ap is_making same ∙ few
few_raised false t u few same = ap is_making same

pub none_of : (P : Type 0) (b : Bool) → b ≡ false → OnTrue b P
none_of P true is = absurd (cc)
none_of P false is = tt
