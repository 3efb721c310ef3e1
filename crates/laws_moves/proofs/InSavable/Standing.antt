-- What stands in which slots: porters in last slots alone. So a porter is destroyed with its space, when no port is left there.
use Rattle.std.proofs.Common.{◌≡◌, ℕ, zero, suc, ◌<◌, Bool, true, false, if◌then◌else◌, ◌&&◌, ◌==◌, nat_le, is_some, ◌∷◌, Option, Some, None, option_map, refl}
use Rattle.std.proofs.Common.{◌∙◌, arith}
use Rattle.std.proofs.lemmas.Bool.{eqb-true, leb-true}
use Rattle.fk_model.specs.declared.limits.TheConstants.{SLOTS, LAST_USER_SLOT, LAST_SCRATCH_SLOT, LAST_PORTER_SLOT}
use Rattle.fk_model.specs.Places.{Path, parent}
use Rattle.fk_model.specs.Objects.{Body, reference_of, or_else, holds}
use Rattle.fk_model.specs.Objects.Body.{Mutex, Port, Thread_of}
use Rattle.fk_model.specs.World.{World}
use Rattle.fk_model.specs.Searches.{lowest, depth, first_resident, leaf_from, leaf_by, leaf}
use Rattle.fk_model.specs.StateRows.{is_native}
use Rattle.fk_model.specs.Whole.{stands_in, KeepsSlots}
use Rattle.fk_model.proofs.walks.Lowest.{lowest_none}
use Rattle.laws_moves.proofs.InSavable.Kept.{is_port, IsLastKill}

pub low-stands : (k : ℕ) (b : Body) → nat_le k LAST_USER_SLOT ≡ true → is_native b ≡ false → stands_in k b ≡ true
low-stands k b low user = rw (low, user) refl

pub scratch-stands : (k : ℕ) (b : Body) → nat_le k LAST_SCRATCH_SLOT ≡ true → is_native b ≡ false → is_some (reference_of b) ≡ true → stands_in k b ≡ true
scratch-stands k b scratch user reference = by (nat_le k LAST_USER_SLOT) refl
  where
    by : (t : Bool) → nat_le k LAST_USER_SLOT ≡ t → stands_in k b ≡ true
    by true e = low-stands k b e user
    by false e = rw (e, scratch) reference

-- what is the same for these tests stands as well
pub same-stands : (k : ℕ) (b c : Body) → is_native b ≡ is_native c → is_some (reference_of b) ≡ is_some (reference_of c) → stands_in k c ≡ true →
    stands_in k b ≡ true
same-stands k b c native reference h = rw (native, reference) h

pub stands-native : (k : ℕ) (b : Body) → stands_in k b ≡ true → is_native b ≡ true → k ≡ LAST_PORTER_SLOT
stands-native k (Thread_of t) h native = by (nat_le k LAST_USER_SLOT) (nat_le k LAST_SCRATCH_SLOT) (k == LAST_PORTER_SLOT) refl (rw native at h)
  where
    by : (low scratch last : Bool) → (k == LAST_PORTER_SLOT) ≡ last → (if low then false else (if scratch then false else last && true)) ≡ true →
        k ≡ LAST_PORTER_SLOT
    by true scratch last e h = cc
    by false true last e h = cc
    by false false true e h = eqb-true k LAST_PORTER_SLOT e
    by false false false e h = cc
stands-native k (Mutex locked) h native = cc
stands-native k b h native = cc

pub native-last : (w : World) → KeepsSlots w → (k : ℕ) (x : Path) → holds is_native (w.body (k ∷ x)) ≡ true → k ≡ LAST_PORTER_SLOT
native-last w stand k x h = by (w.body (k ∷ x)) refl h
  where
    by : (o : Option Body) → w.body (k ∷ x) ≡ o → holds is_native o ≡ true → k ≡ LAST_PORTER_SLOT
    by None e h = cc
    by (Some b) e h = stands-native k b (stand k x b e) h

stands-port : (k : ℕ) (set : Option ℕ) (served : Bool) → stands_in k (Port set served) ≡ true → nat_le k LAST_USER_SLOT ≡ true
stands-port k set served h = by (nat_le k LAST_USER_SLOT) (nat_le k LAST_SCRATCH_SLOT) (k == LAST_PORTER_SLOT) h
  where
    by : (low scratch last : Bool) → (if low then true else (if scratch then false else last && false)) ≡ true → low ≡ true
    by true scratch last h = refl
    by false true last h = cc
    by false false true h = cc
    by false false false h = cc

pub port-low : (w : World) → KeepsSlots w → (k : ℕ) (x : Path) → is_port (w.body (k ∷ x)) ≡ true → nat_le k LAST_USER_SLOT ≡ true
port-low w stand k x h = by (w.body (k ∷ x)) refl h
  where
    by : (o : Option Body) → w.body (k ∷ x) ≡ o → is_port o ≡ true → nat_le k LAST_USER_SLOT ≡ true
    by (Some (Port set served)) e h = stands-port k set served (stand k x (Port set served) e)
    by None e h = cc
    by (Some b) e h = cc

-- ---- the leaf that is destroyed is the first object of its space

unmapped : (k : ℕ) (o : Option Body) → option_map (λ b. k) o ≡ None → o ≡ None
unmapped k None h = refl
unmapped k (Some b) h = cc

mapped : (n k : ℕ) (o : Option Body) → option_map (λ b. n) o ≡ Some k → n ≡ k
mapped n k None h = cc
mapped n k (Some b) h = cc

first_before : (n : ℕ) (g : ℕ → Option Body) (k : ℕ) → lowest n (λ j. option_map (λ b. j) (g j)) ≡ Some k → (i : ℕ) → i < k → g i ≡ None
unfolding lowest
first_before zero g k h i below = cc
first_before (suc n) g k h i below = by (lowest n (λ j. option_map (λ b. j) (g j))) refl h (first_before n g k)
  where
    by : (o : Option ℕ) → lowest n (λ j. option_map (λ b. j) (g j)) ≡ o → or_else o (option_map (λ b. n) (g n)) ≡ Some k →
        (lowest n (λ j. option_map (λ b. j) (g j)) ≡ Some k → (i : ℕ) → i < k → g i ≡ None) → g i ≡ None
    by None e h rest = let here = mapped n k (g n) h in
        unmapped i (g i) (lowest_none n (λ j. option_map (λ b. j) (g j)) e i (rw here below))
    by (Some j) e h rest = rest (e ∙ h) i below

-- it is the object that is named, or nothing stands in a lower slot beside it
data IsFirst (w : World) (x y : Path) : Type 0 where
  Itself : y ≡ x → IsFirst w x y
  Lowest : (j : ℕ) (z : Path) → y ≡ j ∷ z → ((i : ℕ) → i < j → w.body (i ∷ z) ≡ None) → IsFirst w x y

leaf_by-first : (n : ℕ) (w : World) (x : Path) → IsFirst w x (leaf_by n w x)
unfolding leaf_by
leaf_by-first zero w x = Itself refl
leaf_by-first (suc n) w x = by (first_resident w x) refl (λ j. leaf_by-first n w (j ∷ x))
  where
    deeper : (j : ℕ) (y : Path) → first_resident w x ≡ Some j → IsFirst w (j ∷ x) y → IsFirst w x y
    deeper j y e (Itself same) = Lowest j x same (first_before SLOTS (λ k. w.body (k ∷ x)) j e)
    deeper j y e (Lowest i z same before) = Lowest i z same before

    by : (o : Option ℕ) → first_resident w x ≡ o → ((j : ℕ) → IsFirst w (j ∷ x) (leaf_by n w (j ∷ x))) →
        IsFirst w x (leaf_from (λ j. leaf_by n w (j ∷ x)) x o)
    by None e rest = Itself refl
    by (Some j) e rest = deeper j (leaf_by n w (j ∷ x)) e (rest j)

pub last-kill : (w : World) → KeepsSlots w → (x : ℕ) (space : Path) → nat_le x LAST_SCRATCH_SLOT ≡ true → IsLastKill w (leaf w (x ∷ space))
unfolding leaf
last-kill w stand x space named native = by (leaf_by depth w (x ∷ space)) (leaf_by-first depth w (x ∷ space)) native
  where
    none : (k : ℕ) (y z : Path) (j : ℕ) → y ≡ j ∷ z → ((i : ℕ) → i < j → w.body (i ∷ z) ≡ None) → j ≡ LAST_PORTER_SLOT →
        (t : Bool) → is_port (w.body (k ∷ z)) ≡ t → t ≡ false
    none k y z j at before last false e = refl
    none k y z j at before last true e =
        let low = leb-true k LAST_USER_SLOT (port-low w stand k z e) in
        let empty = before k (rw last (omega (arith, low))) in
        let no : is_port None ≡ true = rw empty at e in
        cc

    by : (y : Path) → IsFirst w (x ∷ space) y → holds is_native (w.body y) ≡ true →
        ((k : ℕ) → is_port (w.body (k ∷ parent y)) ≡ false) × ((k : ℕ) → k < LAST_PORTER_SLOT → w.body (k ∷ parent y) ≡ None)
    by y (Itself same) native =
        let last = native-last w stand x space (rw same at native) in
        let below = leb-true x LAST_SCRATCH_SLOT named in
        absurd (omega (arith, last, below))
    by y (Lowest j z at before) native =
        let last = native-last w stand j z (rw at at native) in (
          λ k. rw at (none k y z j at before last (is_port (w.body (k ∷ z))) refl),
          λ k low. rw at (before k (rw last low)),
        )
