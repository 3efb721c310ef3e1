-- No move of a user or a native server changes what a porter at work stands on.
use Rattle.std.proofs.Common.{◌≡◌, ℕ, zero, suc, ◌≤◌, ◌<◌, Bool, true, false, cond, ◌&&◌, ◌||◌, nat_le, IsSome, is_some, List, [], ◌∷◌, ◌++◌, Option, Some}
use Rattle.std.proofs.Common.{None, option_map, refl, sym, ap, subst, arith, ◌∙◌, ◌⊎◌, inl, inr}
use Rattle.std.specs.List.{list_any}
use Rattle.std.proofs.lemmas.Bool.{cases_lt, leb-true, and_parts}
use Rattle.fk_model.specs.declared.limits.TheConstants.{SLOTS, LAST_USER_SLOT, FIRST_SCRATCH_SLOT, LAST_SCRATCH_SLOT, LAST_PORTER_SLOT}
use Rattle.fk_model.specs.Places.{Path, same_path, Ptr, leads_to}
use Rattle.fk_model.specs.Places.Ptr.{At}
use Rattle.fk_model.specs.Objects.{Mode, Thread, Body, kind_of, thread_of, and_then, or_else, holds}
use Rattle.fk_model.specs.Objects.Mode.{Calling}
use Rattle.fk_model.specs.Objects.Body.{Mutex, Cond, Mapping, Region, Port, Portset, Space, Thread_of, Reference}
use Rattle.fk_model.specs.World.{World, Change, Edit, Sweep, edited, through, death_sweep, following, apply, apply_all, ended_in, finished_in, replaced_in}
use Rattle.fk_model.specs.World.{shifted_in}
use Rattle.fk_model.specs.World.Change.{Alter, Make, MakeSpace, Kill, Move, PutPage, DropPage}
use Rattle.fk_model.specs.World.Edit.{SetLocked, SetWindow, SetExtent, SetMember, SetPointer, SetHolder, Proceed, Shift, Finish, End, Replace}
use Rattle.fk_model.specs.Searches.{lowest, beneath, depth, first_resident, leaf_from, leaf_by, leaf}
use Rattle.fk_model.specs.Holds.{holder_of, decider, is_frozen_for, is_porter}
use Rattle.fk_model.specs.SpaceRows.{has_porter}
use Rattle.fk_model.specs.StateRows.{is_native}
use Rattle.fk_model.specs.ObjectRows.{is_scratch}
use Rattle.fk_model.specs.Freezing.{body_pointers, is_swept, IsAllowed, AreAllowed}
use Rattle.laws_moves.specs.Machine.Frame.{names_body}
use Rattle.fk_model.specs.Valid.{IsConsistent, IsRooted, kind_there}
use Rattle.laws_moves.proofs.InMachine.Frame.{apply-body}
use Rattle.fk_model.proofs.walks.Members.{any_in}
use Rattle.fk_model.proofs.walks.PlaceLaws.{same_path_eq, same_path_refl, same_path_ne}
use Rattle.fk_model.specs.Outcomes.{Outcome, listed}
use Rattle.fk_model.specs.Outcomes.Outcome.{Refused, Waits, Goes}
use Rattle.fk_model.specs.Moves.{outcome, GoesAllowed, stepped, step}
use Rattle.laws_moves.proofs.InMachine.validity.Changes.{valid-apply}
use Rattle.laws_moves.proofs.InMachine.safety.Outcomes.{SafeOutcome}
use Rattle.laws_moves.proofs.InMachine.safety.Moves.{outcome-safe}
use Rattle.laws_moves.proofs.InMachine.validity.Steps.{facts_of}
use Rattle.laws_moves.proofs.InFrozen.Users.{users_name_low}
use Rattle.fk_model.proofs.walks.WalkLaws.{live_above}
use Rattle.laws_moves.proofs.InFrozen.Beneath.{in_beneath}
use Rattle.laws_moves.proofs.InMachine.safety.Safe.{is_plain, IsSafe, AreSafe}
use Rattle.laws_moves.specs.Frozen.Frozen.{IsSameInside}
use Rattle.laws_moves.specs.Frozen.Users.{is_low, IsUsersEdit, IsUsers, AreUsers, IsLeafOf}
use Rattle.laws_moves.proofs.InFrozen.Frozen.{apart, not_swept, not_followed, not_gone, change-same}
use Rattle.laws_moves.specs.Frozen.Holding.{IsNear, only_reference, IsHolding, StaysHeld, OthersKeepHold}

-- ---- a porter's hold lies beneath each space above it

has_porter-on : (w : World) (x me : Path) → holder_of (w.body x) ≡ Some (At me) → holds is_native (w.body me) ≡ true → has_porter w x ≡ true
has_porter-on w x me held native = rw held (by (w.body me) native)
  where
    by : (o : Option Body) → holds is_native o ≡ true → holds (λ (e : Path × Thread). is_porter e.1.mode)
        (and_then (λ t. Some (me, t)) (and_then thread_of o)) ≡ true
    by (Some (Thread_of t)) h = h
    by (Some (Mutex locked)) h = cc
    by (Some Cond) h = cc
    by (Some (Mapping m)) h = cc
    by (Some (Region r)) h = cc
    by (Some (Port set served)) h = cc
    by (Some Portset) h = cc
    by (Some (Space birth holder)) h = cc
    by (Some (Reference to)) h = cc
    by None h = cc

-- ---- the first leaf of a space lies in its lowest slot

pub record IsLeast {A : Type 0} (n : ℕ) (f : ℕ → Option A) (a : A) : Type 0 where
  pub at : ℕ
  pub there : f at ≡ Some a
  pub none : (k : ℕ) → k < at → f k ≡ None

none_below : {A : Type 0} (n : ℕ) (f : ℕ → Option A) → lowest n f ≡ None → (k : ℕ) → k < n → f k ≡ None
unfolding lowest
none_below zero f h k less = absurd (omega arith)
none_below {A} (suc n) f h k less = by (lowest n f) h (cases_lt k n) (λ e g. none_below n f e k g)
  where
    by : (o : Option A) → or_else o (f n) ≡ None → (k < n) ⊎ (n ≤ k) → (o ≡ None → k < n → f k ≡ None) → f k ≡ None
    by (Some a) h side rest = cc
    by None h (inl g) rest = rest refl g
    by None h (inr g) rest = let is : k ≡ n = omega arith in rw is h

least : {A : Type 0} (n : ℕ) (f : ℕ → Option A) (a : A) → lowest n f ≡ Some a → IsLeast n f a
unfolding lowest
least zero f a h = cc
least {A} (suc n) f a h = by (lowest n f) refl h (least n f a)
  where
    by : (o : Option A) → lowest n f ≡ o → or_else o (f n) ≡ Some a → (lowest n f ≡ Some a → IsLeast n f a) → IsLeast (suc n) f a
    by None e h rest = record { at = n; there = h; none = λ k less. none_below n f e k less }
    by (Some b) e h rest = let found = rest (e ∙ h) in record { at = found.at; there = found.there; none = found.none }

-- a leaf that isn't the space itself stands in the lowest slot of where it lies
pub data LeafCase (w : World) (y z : Path) : Type 0 where
  Itself : z ≡ y → LeafCase w y z
  Lowest : (s : ℕ) (u : Path) → z ≡ s ∷ u → first_resident w u ≡ Some s → LeafCase w y z

deeper_leaf : (w : World) (y z : Path) (k : ℕ) → first_resident w y ≡ Some k → LeafCase w (k ∷ y) z → LeafCase w y z
deeper_leaf w y z k first (Itself e) = Lowest k y e first
deeper_leaf w y z k first (Lowest s u e h) = Lowest s u e h

leaf_cases : (n : ℕ) (w : World) (y z : Path) → leaf_by n w y ≡ z → LeafCase w y z
unfolding leaf_by
leaf_cases zero w y z h = Itself (sym h)
leaf_cases (suc n) w y z h = by (first_resident w y) refl h (λ k. leaf_cases n w (k ∷ y) z)
  where
    by : (o : Option ℕ) → first_resident w y ≡ o → leaf_from (λ k. leaf_by n w (k ∷ y)) y o ≡ z → ((k : ℕ) → leaf_by n w (k ∷ y) ≡ z → LeafCase w (k ∷ y) z) →
        LeafCase w y z
    by None e h rest = Itself (sym h)
    by (Some k) e h rest = deeper_leaf w y z k e (rest k h)

first_taken : (w : World) (u : Path) (s j : ℕ) → first_resident w u ≡ Some s → IsSome (w.body (j ∷ u)) → s ≤ j
first_taken w u s j h live = by (cases_lt j s)
  where
    found : IsLeast SLOTS (λ k. option_map (λ b. k) (w.body (k ∷ u))) s
    found = least SLOTS (λ k. option_map (λ b. k) (w.body (k ∷ u))) s h

    its : (o : Option Body) (k : ℕ) → option_map (λ b. k) o ≡ Some s → k ≡ s
    its None k h = cc
    its (Some b) k h = cc

    none : (o : Option Body) → IsSome o → option_map (λ b. j) o ≡ None → ⊥
    none None live h = cc
    none (Some b) live h = cc

    by : (j < s) ⊎ (s ≤ j) → s ≤ j
    by (inl less) = let at : found.at ≡ s = its (w.body (found.at ∷ u)) found.at found.there in
        absurd (none (w.body (j ∷ u)) live (found.none j (omega (arith, at, less))))
    by (inr most) = most

-- ---- what edits and sweeps keep

reference-kept : (w : World) (x : Path) (edit : Edit) (o : Option Body) → IsUsersEdit w x edit → is_low x ≡ false → only_reference o ≡ true →
    option_map (edited edit) o ≡ o
unfolding edited
reference-kept w x edit None users high is = refl
reference-kept w x (SetPointer to) (Some (Reference old)) users high is = cc
reference-kept w x (SetLocked locked) (Some (Reference old)) users high is = refl
reference-kept w x (SetWindow first count offset write) (Some (Reference old)) users high is = refl
reference-kept w x (SetExtent first count write) (Some (Reference old)) users high is = refl
reference-kept w x (SetMember set) (Some (Reference old)) users high is = refl
reference-kept w x (SetHolder holder) (Some (Reference old)) users high is = refl
reference-kept w x edit (Some (Reference old)) users high is = refl
reference-kept w x edit (Some (Mutex locked)) users high is = cc
reference-kept w x edit (Some Cond) users high is = cc
reference-kept w x edit (Some (Mapping m)) users high is = cc
reference-kept w x edit (Some (Region r)) users high is = cc
reference-kept w x edit (Some (Port set served)) users high is = cc
reference-kept w x edit (Some Portset) users high is = cc
reference-kept w x edit (Some (Space birth holder)) users high is = cc
reference-kept w x edit (Some (Thread_of t)) users high is = cc

shifted-porter : (count : ℕ) (m : Mode) → is_porter m ≡ true → is_porter (shifted_in count m) ≡ true
shifted-porter count (Calling todo rest) h = cc
shifted-porter count m h = h

replaced-porter : (stage : _) (m : Mode) → is_porter m ≡ true → is_porter (replaced_in stage m) ≡ true
replaced-porter stage (Calling todo rest) h = cc
replaced-porter stage m h = h

ended-porter : (status : ℕ) (answers : List ℕ) (t : Thread) (m : Mode) → is_porter m ≡ true → is_porter t.mode ≡ true →
    is_porter (ended_in status answers t m).mode ≡ true
ended-porter status answers t (Calling todo rest) h g = cc
ended-porter status answers t m h g = g

finished-porter : (answers : List ℕ) (t : Thread) (m : Mode) → is_porter m ≡ true → is_porter t.mode ≡ true → is_porter (finished_in answers t m).mode ≡ true
finished-porter answers t (Calling todo rest) h g = cc
finished-porter answers t m h g = g

porter-kept : (w : World) (x : Path) (edit : Edit) (o : Option Body) → IsUsersEdit w x edit → holds is_native (w.body x) ≡ true → holds is_native o ≡ true →
    holds is_native (option_map (edited edit) o) ≡ true
unfolding edited
porter-kept w x (Proceed mode counter) (Some (Thread_of t)) users was h = let both = sym was ∙ users.0 in cc
porter-kept w x (Shift count) (Some (Thread_of t)) users was h = shifted-porter count t.mode h
porter-kept w x (Finish answers) (Some (Thread_of t)) users was h = finished-porter answers t t.mode h h
porter-kept w x (End status answers) (Some (Thread_of t)) users was h = ended-porter status answers t t.mode h h
porter-kept w x (Replace stage) (Some (Thread_of t)) users was h = replaced-porter stage t.mode h
porter-kept w x edit (Some (Thread_of t)) users was h = h
porter-kept w x edit (Some (Mutex locked)) users was h = cc
porter-kept w x edit (Some Cond) users was h = cc
porter-kept w x edit (Some (Mapping m)) users was h = cc
porter-kept w x edit (Some (Region r)) users was h = cc
porter-kept w x edit (Some (Port set served)) users was h = cc
porter-kept w x edit (Some Portset) users was h = cc
porter-kept w x edit (Some (Space birth holder)) users was h = cc
porter-kept w x edit (Some (Reference to)) users was h = cc
porter-kept w x edit None users was h = cc

swept-porter : (f : Sweep) (q : Path) (o : Option Body) → holds is_native o ≡ true → holds is_native (option_map (through f q) o) ≡ true
swept-porter f q (Some (Mutex locked)) h = cc
swept-porter f q (Some b) h = h
swept-porter f q None h = h

swept-none : (f : Sweep) (q : Path) (o : Option Body) → holder_of o ≡ None → holder_of (option_map (through f q) o) ≡ None
swept-none f q None h = refl
swept-none f q (Some (Space birth holder)) h = rw h refl
swept-none f q (Some b) h = h

holder-kept : (w : World) (x : Path) (edit : Edit) (o : Option Body) → IsUsersEdit w x edit → (list_any (has_porter w) (beneath w x) ≡ false → ⊥) →
    holder_of o ≡ None → holder_of (option_map (edited edit) o) ≡ None
unfolding edited
holder-kept w x (SetHolder None) (Some (Space birth old)) users held h = refl
holder-kept w x (SetHolder (Some p)) (Some (Space birth old)) users held h = absurd (held users)
holder-kept w x (SetLocked locked) (Some (Mutex old)) users held h = refl
holder-kept w x (SetWindow first count offset write) (Some (Mapping m)) users held h = refl
holder-kept w x (SetExtent first count write) (Some (Region r)) users held h = refl
holder-kept w x (SetMember set) (Some (Port old served)) users held h = refl
holder-kept w x (SetPointer to) (Some (Mapping m)) users held h = refl
holder-kept w x (SetPointer to) (Some (Region r)) users held h = refl
holder-kept w x (SetPointer to) (Some (Reference old)) users held h = refl
holder-kept w x edit (Some (Thread_of t)) users held h = by edit
  where
    by : (edit : Edit) → holder_of (Some (edited edit (Thread_of t))) ≡ None
    by (SetLocked locked) = refl
    by edit = refl
holder-kept w x edit (Some b) users held h = h
holder-kept w x edit None users held h = refl

-- ---- who decides above

pub holder_none : (w : World) (y : Path) → decider w y ≡ None → holder_of (w.body y) ≡ None
unfolding decider
holder_none w [] h = h
holder_none w (k ∷ y) h = by (decider w y) h
  where
    by : (d : Option Ptr) → or_else d (holder_of (w.body (k ∷ y))) ≡ None → holder_of (w.body (k ∷ y)) ≡ None
    by None h = h
    by (Some p) h = cc

pub none_above : (w : World) (p a : Path) → decider w (p ++ a) ≡ None → decider w a ≡ None
unfolding decider
none_above w [] a h = h
none_above w (k ∷ p) a h = none_above w p a (by (decider w (p ++ a)) h)
  where
    by : (d : Option Ptr) → or_else d (holder_of (w.body (k ∷ (p ++ a)))) ≡ None → d ≡ None
    by None h = refl
    by (Some p) h = cc

pub decider_none : (v : World) (y : Path) → ((p a : Path) → y ≡ p ++ a → holder_of (v.body a) ≡ None) → decider v y ≡ None
unfolding decider
decider_none v [] h = h [] [] refl
decider_none v (k ∷ y) h = rw (decider_none v y (λ p a e. h (k ∷ p) a (ap (λ (x : Path). k ∷ x) e))) (h [] (k ∷ y) refl)

holder-led : (me : Path) (o : Option Body) → holder_of o ≡ Some (At me) → list_any (leads_to me) (body_pointers o) ≡ true
holder-led me (Some (Space birth holder)) h = rw (h, same_path_refl me) refl
holder-led me (Some (Mutex locked)) h = cc
holder-led me (Some Cond) h = cc
holder-led me (Some (Mapping m)) h = cc
holder-led me (Some (Region r)) h = cc
holder-led me (Some (Port set served)) h = cc
holder-led me (Some Portset) h = cc
holder-led me (Some (Thread_of t)) h = cc
holder-led me (Some (Reference to)) h = cc
holder-led me None h = cc

-- ---- one change

not_low : (k : ℕ) (s y : Path) → LAST_USER_SLOT < k → is_low y ≡ true → same_path (k ∷ s) y ≡ false
not_low k s y high low = same_path_ne (k ∷ s) y (λ e. let here : nat_le k LAST_USER_SLOT ≡ true = subst (λ (y : Path). is_low y ≡ true) (sym e) low in
    let most = leb-true k LAST_USER_SLOT here in omega (arith, high, most))

above_low : (k : ℕ) → LAST_USER_SLOT < k → nat_le k LAST_USER_SLOT ≡ false
above_low k far = by (nat_le k LAST_USER_SLOT) refl
  where
    by : (t : Bool) → nat_le k LAST_USER_SLOT ≡ t → t ≡ false
    by true e = let most = leb-true k LAST_USER_SLOT e in absurd (omega (arith, most, far))
    by false e = refl

plain_holder : (b : Body) → is_plain b ≡ true → holder_of (Some b) ≡ None
plain_holder (Space birth holder) h = cc
plain_holder (Mutex locked) h = refl
plain_holder b h = refl

if_none : (t : Bool) (a b : Option Body) → (t ≡ true → holder_of a ≡ None) → holder_of b ≡ None → holder_of (cond t a b) ≡ None
if_none true a b on off = on refl
if_none false a b on off = off

module _ (nester : Path) (slot : ℕ) (w : World) (x : Path) (holding : IsHolding nester slot w) (valid : IsConsistent w) (rooted : IsRooted w)
    (few : w.next ≤ depth) (other : same_path (LAST_PORTER_SLOT ∷ nester) x ≡ false) where
  abbrev root : Path
  root = slot ∷ nester

  abbrev me : Path
  me = LAST_PORTER_SLOT ∷ nester

  frozen : is_frozen_for w x root ≡ true
  unfolding decider
  frozen = rw (holding.above, holding.holder, other) refl

  high : (k : ℕ) → is_scratch nester (k ∷ nester) ≡ true → LAST_USER_SLOT < k
  high k h =
      let both = and_parts (same_path nester nester && nat_le FIRST_SCRATCH_SLOT k) (nat_le k LAST_SCRATCH_SLOT) h in
      let first = and_parts (same_path nester nester) (nat_le FIRST_SCRATCH_SLOT k) both.0 in
      let least = leb-true FIRST_SCRATCH_SLOT k first.1 in
      omega (arith, least)

  root_live : IsSome (w.body root)
  root_live = by (w.body root) holding.holder
    where
      by : (o : Option Body) → holder_of o ≡ Some (At me) → IsSome o
      by None h = cc
      by (Some b) h = refl

  -- no user comes to hold a space at or above the nester
  held_beneath : (p a : Path) → nester ≡ p ++ a → list_any (has_porter w) (beneath w a) ≡ false → ⊥
  held_beneath p a e off =
      let live : IsSome (w.body (slot ∷ (p ++ a))) = rw (← e) root_live in
      let its = in_beneath w valid rooted few p a slot live in
      let held : has_porter w (slot ∷ (p ++ a)) ≡ true = rw (← e) (has_porter-on w root me holding.holder holding.porter) in
      let on = any_in (has_porter w) (slot ∷ (p ++ a)) (beneath w a) its held in
      cc

  -- what a user destroys is none of the nester's scratch
  no_leaf : (k : ℕ) (z : Path) → LAST_USER_SLOT < k → IsLeafOf w z → same_path (k ∷ nester) z ≡ false
  unfolding leaf
  no_leaf k z far its = same_path_ne (k ∷ nester) z (λ e. by e (leaf_cases depth w its.named z its.leaf))
    where
      by : k ∷ nester ≡ z → LeafCase w its.named z → ⊥
      by e (Itself is) = let low : nat_le k LAST_USER_SLOT ≡ true = subst (λ (y : Path). is_low y ≡ true) (sym (e ∙ is)) its.low in
          let most = leb-true k LAST_USER_SLOT low in omega (arith, most, far)
      by e (Lowest s u is first) =
          let same : k ∷ nester ≡ s ∷ u = e ∙ is in
          let slots : k ≡ s = cc in
          let spaces : nester ≡ u = cc in
          let first_here : first_resident w nester ≡ Some s = rw spaces first in
          let most = first_taken w nester s slot first_here root_live in
          let low = holding.low in
          omega (arith, most, slots, far, low)

  pub record Going (v : World) : Type 0 where
    pub sound : IsConsistent v
    pub same : IsSameInside root w v
    pub scratch : (k : ℕ) → is_scratch nester (k ∷ nester) ≡ true → v.body (k ∷ nester) ≡ w.body (k ∷ nester)
    pub above : (p a : Path) → nester ≡ p ++ a → holder_of (v.body a) ≡ None
    pub porter : holds is_native (v.body me) ≡ true

  going-first : Going w
  going-first = record {
    sound = valid;
    same = record { bodies = λ q. refl; pages = λ q page. refl; kinds = λ x q led. refl };
    scratch = λ k is. refl;
    above = λ p a e. holder_none w a (none_above w p a (subst (λ (y : Path). decider w y ≡ None) e holding.above));
    porter = holding.porter;
  }

  module _ (v : World) (going : Going v) where
    -- what is near isn't destroyed or renamed
    near_apart : (y z : Path) → IsNear w root y → is_frozen_for w x z ≡ false → ((q : Path) → is_swept z (q ++ root) (w.body (q ++ root)) ≡ false) →
        same_path y z ≡ false
    near_apart y z (inl inside) free off = rw inside.1 (apart w x root inside.0 z frozen free)
    near_apart y z (inr led) free off = not_gone w root x valid frozen v going.same y z led.0 (off led.0) led.1

    near_me : IsNear w root me
    near_me = inr ([], holder-led me (w.body root) holding.holder)

    -- no scratch leads to what is destroyed or renamed
    unswept_scratch : (k : ℕ) (z : Path) → is_scratch nester (k ∷ nester) ≡ true → is_frozen_for w x z ≡ false →
        ((q : Path) → is_swept z (q ++ root) (w.body (q ++ root)) ≡ false) → is_swept z (k ∷ nester) (v.body (k ∷ nester)) ≡ false
    unswept_scratch k z is free off = rw (going.scratch k is) (by (w.body (k ∷ nester)) (holding.scratch k is) (holding.near k z is))
      where
        led : (to : Ptr) (t : Bool) → leads_to z to ≡ t → (list_any (leads_to z) (to ∷ []) ≡ true → IsNear w root z) → ((t || false) || false) ≡ false
        led to false e near = refl
        led to true e near = let itself = near_apart z z (near (rw e refl)) free off in let here = same_path_refl z in cc

        by : (o : Option Body) → only_reference o ≡ true → (list_any (leads_to z) (body_pointers o) ≡ true → IsNear w root z) →
            is_swept z (k ∷ nester) o ≡ false
        by None is near = refl
        by (Some (Reference to)) is near = led to (leads_to z to) refl near
        by (Some (Mutex locked)) is near = cc
        by (Some Cond) is near = cc
        by (Some (Mapping m)) is near = cc
        by (Some (Region r)) is near = cc
        by (Some (Port set served)) is near = cc
        by (Some Portset) is near = cc
        by (Some (Space birth holder)) is near = cc
        by (Some (Thread_of t)) is near = cc

    -- what stands above is there
    live_up : (p a : Path) → IsSome (v.body (p ++ a)) → IsSome (v.body a)
    live_up [] a live = live
    live_up (k ∷ p) a live = live_up p a (live_above v going.sound k (p ++ a) live)

    taken_above : (p a : Path) → nester ≡ p ++ a → (y : Path) → v.body y ≡ None → same_path a y ≡ true → ⊥
    taken_above p a e y empty h =
        let root_there : IsSome (v.body root) = rw (going.same.bodies []) root_live in
        let nester_there : IsSome (v.body nester) = live_above v going.sound slot nester root_there in
        let there : IsSome (v.body a) = live_up p a (subst (λ (y : Path). IsSome (v.body y)) e nester_there) in
        let is = same_path_eq a y h in
        let gone : v.body a ≡ None = rw is empty in
        let off : is_some (v.body a) ≡ false = ap is_some gone in
        let both = sym there ∙ off in
        cc

    off_both : (a b : Bool) → a ≡ false → b ≡ false → (a || b) ≡ false
    off_both a b h g = rw h g

    scratch_by : (c : Change) (k : ℕ) → is_scratch nester (k ∷ nester) ≡ true → names_body v c (k ∷ nester) ≡ false →
        (apply c v).body (k ∷ nester) ≡ w.body (k ∷ nester)
    scratch_by c k is off = apply-body c v (k ∷ nester) off ∙ going.scratch k is

    porter_by : (c : Change) → names_body v c me ≡ false → holds is_native ((apply c v).body me) ≡ true
    porter_by c off = rw (apply-body c v me off) going.porter

    far_porter : LAST_USER_SLOT < LAST_PORTER_SLOT
    far_porter = omega arith

    change-going : (c : Change) → IsAllowed w x c → IsSafe v c → IsUsers w c → Going (apply c v)
    unfolding apply
    change-going (Alter y edit) may safe users = record {
      sound = valid-apply (Alter y edit) v going.sound safe;
      same = change-same w root x valid frozen v going.same (Alter y edit) may safe;
      scratch = λ k is. scratch_at k is (same_path (k ∷ nester) y) refl;
      above = λ p a e. above_at p a e (same_path a y) refl;
      porter = porter_at (same_path me y) refl;
    }
      where
        scratch_at : (k : ℕ) → is_scratch nester (k ∷ nester) ≡ true → (t : Bool) → same_path (k ∷ nester) y ≡ t →
            cond t (option_map (edited edit) (v.body (k ∷ nester))) (v.body (k ∷ nester)) ≡ w.body (k ∷ nester)
        scratch_at k is false e = going.scratch k is
        scratch_at k is true e =
            let here = same_path_eq (k ∷ nester) y e in
            let its : is_low y ≡ false = rw (← here) (above_low k (high k is)) in
            rw (going.scratch k is) (reference-kept w y edit (w.body (k ∷ nester)) users its (holding.scratch k is))

        above_at : (p a : Path) → nester ≡ p ++ a → (t : Bool) → same_path a y ≡ t → holder_of (cond t (option_map (edited edit) (v.body a)) (v.body a)) ≡ None
        above_at p a e false h = going.above p a e
        above_at p a e true h = let here = same_path_eq a y h in
            holder-kept w y edit (v.body a) users (λ off. held_beneath p a e (rw here off)) (going.above p a e)

        porter_at : (t : Bool) → same_path me y ≡ t → holds is_native (cond t (option_map (edited edit) (v.body me)) (v.body me)) ≡ true
        porter_at false e = going.porter
        porter_at true e = let here = same_path_eq me y e in porter-kept w y edit (v.body me) users (rw (← here) holding.porter) going.porter
    change-going (Make [] body) may safe users = absurd safe
    change-going (Make (j ∷ s) body) may safe users = record {
      sound = valid-apply (Make (j ∷ s) body) v going.sound safe;
      same = change-same w root x valid frozen v going.same (Make (j ∷ s) body) may safe;
      scratch = λ k is. scratch_by (Make (j ∷ s) body) k is (not_low k nester (j ∷ s) (high k is) users.0);
      above = λ p a e. if_none (same_path a (j ∷ s)) (Some body) (v.body a) (λ h. plain_holder body safe.plain) (going.above p a e);
      porter = porter_by (Make (j ∷ s) body) (not_low LAST_PORTER_SLOT nester (j ∷ s) far_porter users.0);
    }
    change-going (MakeSpace [] holder) may safe users = absurd safe
    change-going (MakeSpace (j ∷ s) holder) may safe users = record {
      sound = valid-apply (MakeSpace (j ∷ s) holder) v going.sound safe;
      same = change-same w root x valid frozen v going.same (MakeSpace (j ∷ s) holder) may safe;
      scratch = λ k is. scratch_by (MakeSpace (j ∷ s) holder) k is (not_low k nester (j ∷ s) (high k is) users.0);
      above = λ p a e. if_none (same_path a (j ∷ s)) (Some (Space v.next holder)) (v.body a) (λ h. users.1) (going.above p a e);
      porter = porter_by (MakeSpace (j ∷ s) holder) (not_low LAST_PORTER_SLOT nester (j ∷ s) far_porter users.0);
    }
    change-going (Kill z) may safe users = record {
      sound = valid-apply (Kill z) v going.sound safe;
      same = change-same w root x valid frozen v going.same (Kill z) may safe;
      scratch = λ k is. scratch_by (Kill z) k is (off_both _ _ (no_leaf k z (high k is) users) (unswept_scratch k z is may.object off));
      above = λ p a e. if_none (same_path a z) None (option_map (through (death_sweep z) a) (v.body a)) (λ h. refl)
          (swept-none (death_sweep z) a (v.body a) (going.above p a e));
      porter = rw (near_apart me z near_me may.object off) (swept-porter (death_sweep z) me (v.body me) going.porter);
    }
      where
        off : (q : Path) → is_swept z (q ++ root) (w.body (q ++ root)) ≡ false
        off q = not_swept w root x valid frozen z q (may.others (q ++ root))
    change-going (Move [] j) may safe users = absurd safe
    change-going (Move (i ∷ s) j) may safe users = record {
      sound = valid-apply (Move (i ∷ s) j) v going.sound safe;
      same = change-same w root x valid frozen v going.same (Move (i ∷ s) j) may safe;
      scratch = λ k is. scratch_by (Move (i ∷ s) j) k is (off_both _ _ (not_low k nester (j ∷ s) (high k is) users.1)
          (off_both _ _ (not_low k nester (i ∷ s) (high k is) users.0) (unswept_scratch k (i ∷ s) is may.object off)));
      above = λ p a e. if_none (same_path a (j ∷ s)) _ _ (λ h. absurd (taken_above p a e (j ∷ s) safe.empty h))
          (if_none (same_path a (i ∷ s)) None (option_map (through (following (i ∷ s) (j ∷ s)) a) (v.body a)) (λ h. refl)
          (swept-none (following (i ∷ s) (j ∷ s)) a (v.body a) (going.above p a e)));
      porter = rw (not_low LAST_PORTER_SLOT nester (j ∷ s) far_porter users.1, near_apart me (i ∷ s) near_me may.object off)
          (swept-porter (following (i ∷ s) (j ∷ s)) me (v.body me) going.porter);
    }
      where
        off : (q : Path) → is_swept (i ∷ s) (q ++ root) (w.body (q ++ root)) ≡ false
        off q = not_followed w root x valid frozen (i ∷ s) q (may.others (q ++ root))
    change-going (PutPage space page words) may safe users = record {
      sound = valid-apply (PutPage space page words) v going.sound safe;
      same =
          change-same w root x valid frozen v going.same (PutPage space page words) may safe;
      scratch = going.scratch;
      above = going.above;
      porter =
          going.porter;
    }
    change-going (DropPage space page) may safe users = record {
      sound = valid-apply (DropPage space page) v going.sound safe;
      same =
          change-same w root x valid frozen v going.same (DropPage space page) may safe;
      scratch = going.scratch;
      above = going.above;
      porter = going.porter;
    }

  -- ---- a list of changes

  going-on : (cs : List Change) (v : World) → Going v → AreAllowed w x cs → AreSafe v cs → AreUsers w cs → Going (apply_all cs v)
  unfolding apply_all
  going-on [] v going may safe users = going
  going-on (c ∷ cs) v going may safe users = going-on cs (apply c v) (change-going v going c may.0 safe.0 users.0) may.1 safe.1 users.1

  kept : (v : World) → Going v → StaysHeld nester slot w v
  unfolding kind_there
  kept v going =
      record {
        inside = going.same;
        around = record { scratch = going.scratch; kinds = λ y k is led. near_kind y (holding.near k y is led); above = above ∙ sym holding.above };
        holding = record {
          low = holding.low;
          holder = rw (going.same.bodies []) holding.holder;
          above = above;
          porter = going.porter;
          scratch = λ k is. rw (going.scratch k is) (holding.scratch k is);
          near = λ k y is led. near_there y (holding.near k y is (rw (going.scratch k is) at led));
        };
      }
    where
      above : decider v nester ≡ None
      above = decider_none v nester going.above

      near_kind : (y : Path) → IsNear w root y → kind_there v y ≡ kind_there w y
      near_kind y (inl inside) = rw inside.1 (ap (option_map kind_of) (going.same.bodies inside.0))
      near_kind y (inr led) = going.same.kinds y led.0 led.1

      near_there : (y : Path) → IsNear w root y → IsNear v root y
      near_there y (inl inside) = inl inside
      near_there y (inr led) = inr (led.0, rw (going.same.bodies led.0) led.1)

outcome-kept : (nester : Path) (slot : ℕ) (w : World) (x : Path) (o : Outcome) → IsHolding nester slot w → IsConsistent w → IsRooted w → w.next ≤ depth →
    same_path (LAST_PORTER_SLOT ∷ nester) x ≡ false →
    GoesAllowed w x o → SafeOutcome w o → AreUsers w (listed o) → StaysHeld nester slot w (stepped w o).world
outcome-kept nester slot w x (Goes changes said) holding valid rooted few other may safe users =
    kept nester slot w x holding valid rooted few other (apply_all changes w)
    (going-on nester slot w x holding valid rooted few other changes w (going-first nester slot w x holding valid rooted few other) may safe.safe users)
outcome-kept nester slot w x (Refused status) holding valid rooted few other may safe users = absurd may
outcome-kept nester slot w x Waits holding valid rooted few other may safe users = absurd may

pub others_keep_hold : OthersKeepHold
unfolding step
others_keep_hold nester slot w e holding moves =
    let consistent = moves.valid.consistent in
    let rooted = moves.valid.rooted in
    outcome-kept nester slot w e.mover (outcome w e.mover e.pick e.ask) holding consistent rooted moves.few moves.other moves.ready
    (outcome-safe w e.mover e.pick e.ask (facts_of w moves.valid moves.few) moves.fit) (users_name_low w e.mover e.pick e.ask rooted moves.users)
