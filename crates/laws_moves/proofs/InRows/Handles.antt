-- Handles: what it says that a thread receives.
use Rattle.std.proofs.Common.{◌≡◌, ℕ, Bool, true, false, ◌&&◌, cond, nat_le, is_some, ◌∷◌, Option, Some, None, refl, sym, ap, ◌∙◌}
use Rattle.std.proofs.lemmas.Bool.{and_parts}
use Rattle.fk_model.specs.declared.limits.TheConstants.{LAST_USER_SLOT}
use Rattle.fk_model.specs.declared.thread.Turn.{Turn}
use Rattle.fk_model.specs.Places.{Path, Ptr}
use Rattle.fk_model.specs.Objects.{Mode, Body, reference_of, and_then, holds}
use Rattle.fk_model.specs.Objects.Body.{Reference}
use Rattle.fk_model.specs.World.{World}
use Rattle.fk_model.specs.Talks.{receive_on, first_stage, is_handled, awaited, receiving}

-- a thread that receives isn't refused for its handle
pub receives-handled : (w : World) (space : Path) (side : Turn) (m : Mode) → is_some (receiving w space side m) ≡ true → is_handled w space (awaited m) ≡ true
receives-handled w space side m h = by (is_handled w space (awaited m)) refl h
  where
    by : (b : Bool) → is_handled w space (awaited m) ≡ b → is_some (cond b (and_then (receive_on side) (first_stage m)) None) ≡ true → b ≡ true
    by true e h = refl
    by false e h = cc

pub received-handled : (w : World) (space : Path) (side : Turn) (m : Mode) (receive : ℕ × ℕ) →
    receiving w space side m ≡ Some receive → is_handled w space (awaited m) ≡ true
received-handled w space side m receive h = receives-handled w space side m (ap is_some h)

-- and its first stage receives
pub received-stage : (w : World) (space : Path) (side : Turn) (m : Mode) (receive : ℕ × ℕ) →
    receiving w space side m ≡ Some receive → and_then (receive_on side) (first_stage m) ≡ Some receive
received-stage w space side m receive h = by (is_handled w space (awaited m)) h
  where
    by : (b : Bool) → cond b (and_then (receive_on side) (first_stage m)) None ≡ Some receive → and_then (receive_on side) (first_stage m) ≡ Some receive
    by true h = h
    by false h = cc

-- the slot that it names is one of users, and holds a reference
pub record IsReferenceIn (w : World) (space : Path) (k : ℕ) : Type 0 where
  pub low : nat_le k LAST_USER_SLOT ≡ true
  pub old : Ptr
  pub there : w.body (k ∷ space) ≡ Some (Reference old)

pub reference-in : (w : World) (space : Path) (k : ℕ) → is_handled w space (Some k) ≡ true → IsReferenceIn w space k
reference-in w space k h =
    let both = and_parts (nat_le k LAST_USER_SLOT) (holds (λ b. is_some (reference_of b)) (w.body (k ∷ space))) h in
    by both.0 (w.body (k ∷ space)) refl both.1
  where
    by : nat_le k LAST_USER_SLOT ≡ true → (o : Option Body) → w.body (k ∷ space) ≡ o → holds (λ b. is_some (reference_of b)) o ≡ true → IsReferenceIn w space k
    by low None e h = cc
    by low (Some (Reference old)) e h = record { low = low; old = old; there = e }
    by low (Some b) e h = cc
