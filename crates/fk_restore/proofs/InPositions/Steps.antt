-- One step of the code's loops.
use Rattle.std.proofs.Common.{◌≡◌, ℕ, zero, suc, ◌-◌, ◌<◌, cond, ◌==◌, List, sym, ap, ◌∙◌, arith, ne_eqb}
use Rattle.fk_image.specs.declared.image.image.SpaceRec.{SpaceRec}
use Rattle.fk_restore.specs.Positions.Walks.{parent_of, child_by}

pub child_step : (ss : List SpaceRec) (a at d above : ℕ) → above ≡ parent_of ss at → 0 < d → (above ≡ a → ⊥) → child_by d ss a at ≡ child_by (d - 1) ss a above
unfolding child_by
child_step ss a at zero above e lt off = absurd (omega (arith, lt))
child_step ss a at (suc d) above e lt off =
    let less : suc d - 1 ≡ d = omega arith in
    ap (λ t. cond t at (child_by d ss a (parent_of ss at))) (ap (λ n. n == a) (sym e) ∙ ne_eqb above a off)
    ∙ (λ i. child_by (sym less i) ss a (sym e i))
