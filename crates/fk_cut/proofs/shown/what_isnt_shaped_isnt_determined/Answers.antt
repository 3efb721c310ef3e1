use Rattle.std.proofs.Common.{◌≡◌, ℕ, [], ◌∷◌, replicate, Option, Some, None, refl, ap, arith}
use Rattle.fk_model.specs.Objects.{Mode, Body}
use Rattle.fk_model.specs.Objects.Mode.{Calling}
use Rattle.fk_model.specs.Objects.Body.{Thread_of}
use Rattle.fk_model.specs.World.{World}
use Rattle.fk_model.specs.Cut.{cut}
use Rattle.fk_cut.specs.Shown.Unshaped.{alone, unshaped}
use Rattle.fk_cut.proofs.shown.what_isnt_shaped_isnt_determined.Goals as goal

pub returns-clause-first : goal.returns-clause-first
unfolding unshaped
returns-clause-first c = record { objects = refl; pages = refl }

pub returns-clause-second : goal.returns-clause-second
unfolding unshaped
returns-clause-second c = record { objects = refl; pages = refl }

-- what a thread in a call holds in its first register besides
rest_of : Mode → ℕ
rest_of (Calling todo (first ∷ rest)) = first
rest_of mode = 0

held : Option Body → ℕ
held (Some (Thread_of t)) = rest_of t.mode
held other = 0

differ : (c d : World) → held (c.body []) ≡ 0 → held (d.body []) ≡ 7 → c ≡ d → ⊥
differ c d h g e = let same = ap (λ (w : World). held (w.body [])) e in omega (arith, h, g, same)

pub returns-clause-apart : goal.returns-clause-apart
unfolding unshaped rest_of held
returns-clause-apart c = differ (cut (alone 0) [] 1) (cut (alone 7) [] 1) refl refl

pub returns-clause-unshaped : goal.returns-clause-unshaped
unfolding unshaped
returns-clause-unshaped c = λ savable.
    let shaped = savable.shaped (1 ∷ []) (record { mode = Calling [] (0 ∷ replicate 15 0); counter = 0; stops = 0; talk = None; fault = None }) refl in
    let is = shaped.0 in cc
