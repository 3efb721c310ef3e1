-- OneHolder: where one space alone is held, its holder decides wherever anybody does.
use Rattle.std.proofs.Common.{◌≡◌, [], ◌∷◌, false, not, Option, Some, None, IsSome, refl, ap, ◌∙◌}
use Rattle.fk_model.specs.Places.{Path, Ptr, leads_to}
use Rattle.fk_model.specs.Places.Ptr.{At}
use Rattle.fk_model.specs.Objects.{holds, or_else}
use Rattle.fk_model.specs.Holds.{holder_of, decider, is_frozen_for}
use Rattle.fk_model.specs.World.{World}
use Rattle.fk_model.proofs.walks.PlaceLaws.{same_path_refl}

module _ (w : World) (me : Path) (mine : (x : Path) → IsSome (holder_of (w.body x)) → holder_of (w.body x) ≡ Some (At me)) where
  own : (o : Option Ptr) → (IsSome o → o ≡ Some (At me)) → holds (λ holder. not (leads_to me holder)) o ≡ false
  own None h = refl
  own (Some p) h = ap (holds (λ holder. not (leads_to me holder))) (h refl) ∙ ap not (same_path_refl me)

  either : (a b : Option Ptr) → holds (λ holder. not (leads_to me holder)) a ≡ false → holds (λ holder. not (leads_to me holder)) b ≡ false →
      holds (λ holder. not (leads_to me holder)) (or_else a b) ≡ false
  either None b h k = k
  either (Some p) b h k = h

  pub one-holder : (x : Path) → is_frozen_for w me x ≡ false
  unfolding decider
  one-holder [] = own (holder_of (w.body [])) (mine [])
  one-holder (k ∷ x) = either (decider w x) (holder_of (w.body (k ∷ x))) (one-holder x) (own (holder_of (w.body (k ∷ x))) (mine (k ∷ x)))
