-- At which of a kernel's moves its porter has made its first call. Deliveries, and giving up, are moves of no kernel.
use Rattle.std.specs.Prelude.{◌≡◌, ℕ, zero, suc, Bool, true, false, List, [], ◌∷◌, Option, Some, None, option_map, if◌then◌else◌}
use Rattle.fk_model.specs.World.{World}
use Rattle.fk_image.specs.declared.image.image.Image.{Image}
use Rattle.laws_handover.specs.Packets.{Codec}
use Rattle.laws_handover.specs.Handover as handover
use Rattle.laws_handover.specs.Handover.{Pair, next}
use Rattle.laws_migrate.specs.Migration.{kernels, Both, Step, hold_from, make_from, is_near_own, is_far_own}

abbrev pub is_near : {E F : Type 0} → handover.Event E F → Bool
is_near (handover.OfNear e) = true
is_near handover.NearOwn = true
is_near (handover.OfFar e) = false
is_near handover.FarOwn = false
is_near (handover.ToFar number) = false
is_near (handover.ToNear number) = false
is_near handover.GiveUp = false

abbrev pub is_far : {E F : Type 0} → handover.Event E F → Bool
is_far (handover.OfFar e) = true
is_far handover.FarOwn = true
is_far (handover.OfNear e) = false
is_far handover.NearOwn = false
is_far (handover.ToFar number) = false
is_far (handover.ToNear number) = false
is_far handover.GiveUp = false

-- how many of a kernel's moves come before the first of its porter
abbrev pub place_of : {E F : Type 0} → (handover.Event E F → Bool) → (handover.Event E F → Bool) → List (handover.Event E F) → Option ℕ
place_of own of [] = None
place_of own of (e ∷ es) = if own e then Some 0 else (if of e then option_map suc (place_of own of es) else place_of own of es)

module _ {P : Type 0} (codec : Codec Image P) (slot : ℕ) where
  -- a kernel's world after so many of its moves
  abbrev pub world_at : (Both codec slot → World) → (Step codec slot → Bool) → ℕ → Both codec slot → List (Step codec slot) → World
  world_at side of zero p es = side p
  world_at side of (suc n) p [] = side p
  world_at side of (suc n) p (e ∷ es) = world_at side of (if of e then n else suc n) (next (kernels codec slot) p e) es

  abbrev pub near_at : ℕ → Both codec slot → List (Step codec slot) → World
  near_at n p es = world_at (λ q. q.near_world) is_near n p es

  abbrev pub far_at : ℕ → Both codec slot → List (Step codec slot) → World
  far_at n p es = world_at (λ q. q.far_world) is_far n p es

-- the hold was asked in the near world before that move, and the make in the far one
abbrev pub CallsHavePlaces : Type 0 → Type 0
CallsHavePlaces P = (codec : Codec Image P) (slot : ℕ) (p : Both codec slot) (es : List (Step codec slot)) (w : World) →
    (hold_from codec slot None p es ≡ Some w → (n : ℕ) × (place_of is_near_own is_near es ≡ Some n) × (near_at codec slot n p es ≡ w)) ×
    (make_from codec slot None p es ≡ Some w → (n : ℕ) × (place_of is_far_own is_far es ≡ Some n) × (far_at codec slot n p es ≡ w))
