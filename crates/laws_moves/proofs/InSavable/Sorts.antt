-- Kept changes leave what stands in which slots: a porter stays one, and nobody becomes one.
use Rattle.std.proofs.Common.{◌≡◌, ℕ, Bool, true, false, if◌then◌else◌, nat_le, is_some, [], ◌∷◌, Option, Some, None, option_map, refl, sym, ◌∙◌}
use Rattle.fk_model.specs.declared.limits.TheConstants.{LAST_USER_SLOT, LAST_PORTER_SLOT}
use Rattle.fk_model.specs.Places.{Path, same_path}
use Rattle.fk_model.specs.Objects.{Mode, Thread, Body, reference_of, holds}
use Rattle.fk_model.specs.Objects.Body.{Mutex, Space, Thread_of, Reference}
use Rattle.fk_model.specs.World.{World, Change, Edit, Sweep, edited, through, death_sweep, following, apply}
use Rattle.fk_model.specs.World.Change.{Alter, Make, MakeSpace, Kill, Move, PutPage, DropPage}
use Rattle.fk_model.specs.World.Edit.{Proceed}
use Rattle.fk_model.specs.Holds.{is_porter}
use Rattle.fk_model.specs.StateRows.{is_native}
use Rattle.fk_model.specs.Whole.{stands_in, KeepsSlots}
use Rattle.fk_model.proofs.walks.PlaceLaws.{same_path_eq}
use Rattle.laws_moves.proofs.InMachine.safety.Safe.{IsSafe}
use Rattle.laws_moves.proofs.InFrozen.Edited.{same-native, same-reference}
use Rattle.laws_moves.proofs.InSavable.Kept.{IsKeptEdit, IsKept}
use Rattle.laws_moves.proofs.InSavable.Standing.{low-stands, same-stands, stands-native}

-- ---- edits

user-before : (o : Option Body) (t : Thread) → o ≡ Some (Thread_of t) → holds is_native o ≡ false → is_porter t.mode ≡ false
user-before o t there before = rw there at before

proceed-native : (v : World) (x : Path) (mode : Mode) (counter : ℕ) (b : Body) → v.body x ≡ Some b → IsKeptEdit v x (Proceed mode counter) →
    is_native (edited (Proceed mode counter) b) ≡ is_native b
unfolding edited
proceed-native v x mode counter (Thread_of t) there kept = kept.0.user ∙ sym (user-before (v.body x) t there kept.0.before)
proceed-native v x mode counter (Mutex locked) there kept = refl
proceed-native v x mode counter b there kept = refl

-- a porter stays a porter
pub native-edited : (v : World) (x : Path) (edit : Edit) (b : Body) → v.body x ≡ Some b → IsKeptEdit v x edit → is_native (edited edit b) ≡ is_native b
native-edited v x (Proceed mode counter) b there kept = proceed-native v x mode counter b there kept
native-edited v x edit b there kept = same-native edit b refl

pub native-through : (f : Sweep) (q : Path) (b : Body) → is_native (through f q b) ≡ is_native b
native-through f q (Thread_of t) = refl
native-through f q (Mutex locked) = refl
native-through f q b = refl

reference-through : (f : Sweep) (q : Path) (b : Body) → is_some (reference_of (through f q b)) ≡ is_some (reference_of b)
reference-through f q (Reference to) = refl
reference-through f q (Mutex locked) = refl
reference-through f q b = refl

-- ---- a world

mapped : (f : Body → Body) (o : Option Body) (c : Body) → option_map f o ≡ Some c → (b : Body) × (o ≡ Some b) × (c ≡ f b)
mapped f (Some b) c h = (b, refl, (let e : f b ≡ c = cc in sym e))
mapped f None c h = cc

low-native : (k : ℕ) (b : Body) → nat_le k LAST_USER_SLOT ≡ true → stands_in k b ≡ true → is_native b ≡ false
low-native k b low h = by (is_native b) refl
  where
    by : (t : Bool) → is_native b ≡ t → t ≡ false
    by true e = let last = stands-native k b h e in let high : nat_le LAST_PORTER_SLOT LAST_USER_SLOT ≡ true = rw last at low in cc
    by false e = refl

module _ (v : World) (stand : KeepsSlots v) where
  altered : (y : Path) (edit : Edit) → IsKeptEdit v y edit → KeepsSlots (apply (Alter y edit) v)
  unfolding apply
  altered y edit kept k x b h = by (same_path (k ∷ x) y) refl h
    where
      by : (t : Bool) → same_path (k ∷ x) y ≡ t → (if t then option_map (edited edit) (v.body (k ∷ x)) else v.body (k ∷ x)) ≡ Some b → stands_in k b ≡ true
      by true e h =
          let here = same_path_eq (k ∷ x) y e in
          let was = mapped (edited edit) (v.body (k ∷ x)) b h in
          let native = native-edited v (k ∷ x) edit was.0 was.1 (rw (← here) at kept) in
          rw (was.2) (same-stands k (edited edit was.0) was.0 native (same-reference edit was.0) (stand k x was.0 was.1))
      by false e h = stand k x b h

  made : (j : ℕ) (y : Path) (new : Body) → stands_in j new ≡ true → (k : ℕ) (x : Path) (b : Body) →
      (if same_path (k ∷ x) (j ∷ y) then Some new else v.body (k ∷ x)) ≡ Some b → stands_in k b ≡ true
  made j y new stands k x b h = by (same_path (k ∷ x) (j ∷ y)) refl h
    where
      by : (t : Bool) → same_path (k ∷ x) (j ∷ y) ≡ t → (if t then Some new else v.body (k ∷ x)) ≡ Some b → stands_in k b ≡ true
      by true e h = let here = same_path_eq (k ∷ x) (j ∷ y) e in let slot : k ≡ j = cc in let same : new ≡ b = cc in rw (slot, ← same) stands
      by false e h = stand k x b h

  swept : (f : Sweep) (k : ℕ) (x q : Path) (b : Body) → option_map (through f q) (v.body (k ∷ x)) ≡ Some b → stands_in k b ≡ true
  swept f k x q b h = let was = mapped (through f q) (v.body (k ∷ x)) b h in
      rw (was.2) (same-stands k (through f q was.0) was.0 (native-through f q was.0) (reference-through f q was.0) (stand k x was.0 was.1))

  killed : (y : Path) → KeepsSlots (apply (Kill y) v)
  unfolding apply
  killed y k x b h = by (same_path (k ∷ x) y) h
    where
      by : (t : Bool) → (if t then None else option_map (through (death_sweep y) (k ∷ x)) (v.body (k ∷ x))) ≡ Some b → stands_in k b ≡ true
      by true h = cc
      by false h = swept (death_sweep y) k x (k ∷ x) b h

  renamed : (i : ℕ) (s : Path) (j : ℕ) → nat_le i LAST_USER_SLOT ≡ true → nat_le j LAST_USER_SLOT ≡ true → KeepsSlots (apply (Move (i ∷ s) j) v)
  unfolding apply
  renamed i s j low there k x b h = by (same_path (k ∷ x) (j ∷ s)) refl (same_path (k ∷ x) (i ∷ s)) h
    where
      by : (t : Bool) → same_path (k ∷ x) (j ∷ s) ≡ t → (r : Bool) → (if t then option_map (through (following (i ∷ s) (j ∷ s)) (j ∷ s)) (v.body (i ∷ s))
          else (if r then None else option_map (through (following (i ∷ s) (j ∷ s)) (k ∷ x)) (v.body (k ∷ x)))) ≡ Some b → stands_in k b ≡ true
      by true e r h =
          let here = same_path_eq (k ∷ x) (j ∷ s) e in
          let slot : k ≡ j = cc in
          let was = mapped (through (following (i ∷ s) (j ∷ s)) (j ∷ s)) (v.body (i ∷ s)) b h in
          let user = low-native i was.0 low (stand i s was.0 was.1) in
          rw (slot, was.2) (low-stands j (through (following (i ∷ s) (j ∷ s)) (j ∷ s) was.0) there
          (native-through (following (i ∷ s) (j ∷ s)) (j ∷ s) was.0 ∙ user))
      by false e true h = cc
      by false e false h = swept (following (i ∷ s) (j ∷ s)) k x (k ∷ x) b h

  pub stand-apply : (c : Change) → IsSafe v c → IsKept v c → KeepsSlots (apply c v)
  unfolding apply
  stand-apply (Alter y edit) safe kept = altered y edit kept
  stand-apply (Make [] body) safe kept = absurd safe
  stand-apply (Make (j ∷ y) body) safe kept = made j y body kept.0
  stand-apply (MakeSpace [] holder) safe kept = absurd safe
  stand-apply (MakeSpace (j ∷ y) holder) safe kept = made j y (Space v.next holder) (low-stands j (Space v.next holder) kept.0 refl)
  stand-apply (Kill y) safe kept = killed y
  stand-apply (Move [] j) safe kept = absurd safe
  stand-apply (Move (i ∷ s) j) safe kept = renamed i s j kept.0 kept.1
  stand-apply (PutPage space page words) safe kept = stand
  stand-apply (DropPage space page) safe kept = stand
