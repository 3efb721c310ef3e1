-- Kept changes leave scratch with porters: in a porter's own space, or in one in a slot of it that the porter holds.
use Rattle.std.proofs.Common.{◌≡◌, ℕ, ◌<◌, Bool, true, false, if◌then◌else◌, not, ◌&&◌, ◌||◌, ◌==◌, nat_le, IsSome, [], ◌∷◌, Option, Some, None, option_map}
use Rattle.std.proofs.Common.{refl, ap, ◌∙◌, arith}
use Rattle.std.proofs.lemmas.Bool.{and_parts, leb-true, leb-false}
use Rattle.fk_model.specs.declared.limits.TheConstants.{LAST_USER_SLOT, LAST_SCRATCH_SLOT, LAST_PORTER_SLOT}
use Rattle.fk_model.specs.declared.names.Kind.TheVariants as kinds
use Rattle.fk_model.specs.Places.{Path, same_path, parent, Ptr, leads_to}
use Rattle.fk_model.specs.Places.Ptr.{At}
use Rattle.fk_model.specs.Objects.{Body, kind_of, holds}
use Rattle.fk_model.specs.Objects.Body.{Mutex, Space}
use Rattle.fk_model.specs.World.{World, Change, Edit, edited, through, death_sweep, following, apply}
use Rattle.fk_model.specs.World.Change.{Alter, Make, MakeSpace, Kill, Move, PutPage, DropPage}
use Rattle.fk_model.specs.World.Edit.{SetHolder}
use Rattle.fk_model.specs.Holds.{holder_of}
use Rattle.fk_model.specs.StateRows.{is_native}
use Rattle.fk_model.specs.Valid.{IsConsistent, kind_there, all_in, is_good, is_one_of}
use Rattle.fk_model.specs.Whole.{stands_in, is_scratch_slot, is_porters, KeepsSlots}
use Rattle.fk_model.proofs.walks.PlaceLaws.{same_path_eq, same_path_refl, leads_to_at}
use Rattle.laws_moves.proofs.InMachine.safety.Safe.{IsSafe}
use Rattle.laws_moves.proofs.InSavable.Kept.{KeepsScratch, IsLastKill, IsKeptEdit, IsKept}
use Rattle.laws_moves.proofs.InSavable.Sorts.{native-edited, native-through}
use Rattle.laws_moves.proofs.InSavable.Holders.{mapped-holder}

-- what stands in scratch slots is a porter's
abbrev pub ScratchKept : World → Type 0
ScratchKept v = (k : ℕ) (x : Path) → is_scratch_slot k ≡ true → IsSome (v.body (k ∷ x)) → is_porters v x ≡ true

-- a scratch slot lies above users' slots, and below the porter's
record IsBetween (k : ℕ) : Type 0 where
  high : LAST_USER_SLOT < k
  low : k < LAST_PORTER_SLOT

between : (k : ℕ) → is_scratch_slot k ≡ true → IsBetween k
between k scratch =
    let both = and_parts (not (nat_le k LAST_USER_SLOT)) (nat_le k LAST_SCRATCH_SLOT) scratch in
    let high = leb-false k LAST_USER_SLOT (off (nat_le k LAST_USER_SLOT) both.0) in
    let low = leb-true k LAST_SCRATCH_SLOT both.1 in
    record { high = high; low = omega (arith, low) }
  where
    off : (t : Bool) → not t ≡ true → t ≡ false
    off true h = cc
    off false h = refl

or-more : (a b c d : Bool) → (a ≡ true → c ≡ true) → (b ≡ true → d ≡ true) → (a || b) ≡ true → (c || d) ≡ true
or-more true b c d first second h = rw (first refl) refl
or-more false true c d first second h = or-true c (second refl)
  where
    or-true : (c : Bool) → d ≡ true → (c || d) ≡ true
    or-true true e = refl
    or-true false e = e
or-more false false c d first second h = cc

-- its porter in its own slot, and its porter's hold
abbrev has_porter : (Path → Option Body) → Path → Bool
has_porter there x = holds is_native (there (LAST_PORTER_SLOT ∷ x))

abbrev is_held : (Path → Option Body) → Path → Bool
is_held there x = holds (leads_to (LAST_PORTER_SLOT ∷ parent x)) (holder_of (there x))

none-some : (o : Option Body) → o ≡ None → IsSome o → ⊥
none-some None e live = cc
none-some (Some b) e live = cc

was-some : (f : Body → Body) (o : Option Body) → IsSome (option_map f o) → IsSome o
was-some f (Some b) live = refl
was-some f None live = cc

native-swept : (f : _) (q : Path) (o : Option Body) → holds is_native o ≡ true → holds is_native (option_map (through f q) o) ≡ true
native-swept f q (Some b) h = native-through f q b ∙ h
native-swept f q None h = cc

new-holder : (holder : Option Ptr) (o : Option Body) → option_map kind_of o ≡ Some kinds.Space → holder_of (option_map (edited (SetHolder holder)) o) ≡ holder
unfolding edited
new-holder holder (Some (Space birth old)) h = refl
new-holder holder (Some (Mutex locked)) h = cc
new-holder holder (Some b) h = cc
new-holder holder None h = cc

-- a slot apart is a path apart
slots-apart : (k j : ℕ) (x y : Path) → (k ≡ j → ⊥) → same_path (k ∷ x) (j ∷ y) ≡ false
slots-apart k j x y apart = by (same_path (k ∷ x) (j ∷ y)) refl
  where
    by : (t : Bool) → same_path (k ∷ x) (j ∷ y) ≡ t → t ≡ false
    by true e = let here = same_path_eq (k ∷ x) (j ∷ y) e in let slot : k ≡ j = cc in absurd (apart slot)
    by false e = refl

module _ (v : World) (valid : IsConsistent v) (stand : KeepsSlots v) where
  -- who holds a space from the last slot beside it is a porter
  pub stands-porter : (z : Path) → holder_of (v.body z) ≡ Some (At (LAST_PORTER_SLOT ∷ parent z))
      → holds is_native (v.body (LAST_PORTER_SLOT ∷ parent z)) ≡ true
  unfolding kind_there
  stands-porter z h = there (v.body (LAST_PORTER_SLOT ∷ parent z)) refl (thread (v.body z) (valid.good z) h)
    where
      thread : (o : Option Body) → all_in (is_good (λ q. option_map kind_of (v.body q)) z) o ≡ true → holder_of o ≡ Some (At (LAST_PORTER_SLOT ∷ parent z)) →
          is_one_of (kinds.Thread ∷ []) (option_map kind_of (v.body (LAST_PORTER_SLOT ∷ parent z))) ≡ true
      thread (Some (Space birth (Some p))) good h = let to : p ≡ At (LAST_PORTER_SLOT ∷ parent z) = cc in rw to at good
      thread (Some (Space birth None)) good h = cc
      thread (Some (Mutex locked)) good h = cc
      thread (Some b) good h = cc
      thread None good h = cc

      there : (o : Option Body) → v.body (LAST_PORTER_SLOT ∷ parent z) ≡ o → is_one_of (kinds.Thread ∷ []) (option_map kind_of o) ≡ true →
          holds is_native o ≡ true
      there (Some b) e kind = stand LAST_PORTER_SLOT (parent z) b e
      there None e kind = cc

module _ (v : World) (valid : IsConsistent v) (stand : KeepsSlots v) (kept : ScratchKept v) where
  -- what has something in it is a space, and a space lies in a user's slot
  space-there : (k : ℕ) (x : Path) → IsSome (v.body (k ∷ x)) → IsSome (v.body x)
  unfolding kind_there
  space-there k x live = by (v.body x) (valid.parents k x live)
    where
      by : (o : Option Body) → option_map kind_of o ≡ Some kinds.Space → IsSome o
      by (Some b) h = refl
      by None h = cc

  space-kind : (k : ℕ) (x : Path) → IsSome (v.body (k ∷ x)) → option_map kind_of (v.body x) ≡ Some kinds.Space
  unfolding kind_there
  space-kind k x live = valid.parents k x live

  space-low : (k j : ℕ) (z : Path) → IsSome (v.body (k ∷ (j ∷ z))) → j < LAST_PORTER_SLOT
  unfolding kind_there
  space-low k j z live = by (v.body (j ∷ z)) refl (valid.parents k (j ∷ z) live)
    where
      low : (birth : ℕ) (holder : Option Ptr) → stands_in j (Space birth holder) ≡ true → j < LAST_PORTER_SLOT
      low birth holder h = test (nat_le j LAST_USER_SLOT) refl (nat_le j LAST_SCRATCH_SLOT) (j == LAST_PORTER_SLOT) h
        where
          test : (t : Bool) → nat_le j LAST_USER_SLOT ≡ t → (scratch last : Bool) → (if t then true else (if scratch then false else last && false)) ≡ true →
              j < LAST_PORTER_SLOT
          test true e scratch last h = let few = leb-true j LAST_USER_SLOT e in omega (arith, few)
          test false e true last h = cc
          test false e false true h = cc
          test false e false false h = cc

      by : (o : Option Body) → v.body (j ∷ z) ≡ o → option_map kind_of o ≡ Some kinds.Space → j < LAST_PORTER_SLOT
      by (Some (Space birth holder)) e h = low birth holder (stand j z (Space birth holder) e)
      by (Some (Mutex locked)) e h = cc
      by (Some b) e h = cc
      by None e h = cc

  -- ---- an object is altered

  abbrev altered_at : Path → Edit → Path → Option Body
  altered_at y edit q = if same_path q y then option_map (edited edit) (v.body q) else v.body q

  altered-live : (y : Path) (edit : Edit) (q : Path) → IsSome (altered_at y edit q) → IsSome (v.body q)
  altered-live y edit q = by (same_path q y)
    where
      by : (t : Bool) → IsSome (if t then option_map (edited edit) (v.body q) else v.body q) → IsSome (v.body q)
      by true live = was-some (edited edit) (v.body q) live
      by false live = live

  altered-native : (y : Path) (edit : Edit) → IsKeptEdit v y edit → (q : Path) → holds is_native (v.body q) ≡ true
      → holds is_native (altered_at y edit q) ≡ true
  altered-native y edit keeps q h = by (same_path q y) refl
    where
      on : (o : Option Body) → v.body q ≡ o → IsKeptEdit v q edit → holds is_native o ≡ true → holds is_native (option_map (edited edit) o) ≡ true
      on (Some b) e keeps h = native-edited v q edit b e keeps ∙ h
      on None e keeps h = cc

      by : (t : Bool) → same_path q y ≡ t → holds is_native (if t then option_map (edited edit) (v.body q) else v.body q) ≡ true
      by true e = let here = same_path_eq q y e in on (v.body q) refl (rw (← here) at keeps) h
      by false e = h

  altered-scratch : (y : Path) (edit : Edit) → IsKeptEdit v y edit → ScratchKept (apply (Alter y edit) v)
  unfolding apply
  altered-scratch y (SetHolder holder) keeps k x scratch live = by (same_path x y) refl
    where
      was : IsSome (v.body (k ∷ x))
      was = altered-live y (SetHolder holder) (k ∷ x) live

      by : (t : Bool) → same_path x y ≡ t → (has_porter (altered_at y (SetHolder holder)) x
          || holds (leads_to (LAST_PORTER_SLOT ∷ parent x)) (holder_of (if t then option_map (edited (SetHolder holder)) (v.body x) else v.body x))) ≡ true
      by true e =
          let here = same_path_eq x y e in
          let keeps_here : KeepsScratch v x holder = rw here keeps.1 in
          or-more (has_porter (λ q. v.body q) x) (holds (leads_to (LAST_PORTER_SLOT ∷ parent x)) holder) _ _
          (altered-native y (SetHolder holder) keeps (LAST_PORTER_SLOT ∷ x))
          (λ h. rw (new-holder holder (v.body x) (space-kind k x was)) h)
          (keeps_here k scratch was)
      by false e = or-more (has_porter (λ q. v.body q) x) (is_held (λ q. v.body q) x) _ _
          (altered-native y (SetHolder holder) keeps (LAST_PORTER_SLOT ∷ x)) (λ h. h) (kept k x scratch was)
  altered-scratch y edit keeps k x scratch live = or-more (has_porter (λ q. v.body q) x) (is_held (λ q. v.body q) x) _ _
      (altered-native y edit keeps (LAST_PORTER_SLOT ∷ x)) (held (same_path x y)) (kept k x scratch (altered-live y edit (k ∷ x) live))
    where
      held : (t : Bool) → is_held (λ q. v.body q) x ≡ true →
          holds (leads_to (LAST_PORTER_SLOT ∷ parent x)) (holder_of (if t then option_map (edited edit) (v.body x) else v.body x)) ≡ true
      held true h = rw (mapped-holder edit (v.body x) refl) h
      held false h = h

  -- ---- an object is made

  made-scratch : (j : ℕ) (y : Path) (new : Body) → v.body (j ∷ y) ≡ None → (is_scratch_slot j ≡ true → is_porters v y ≡ true) →
      (k : ℕ) (x : Path) → is_scratch_slot k ≡ true → IsSome (if same_path (k ∷ x) (j ∷ y) then Some new else v.body (k ∷ x)) →
      (holds is_native (if same_path (LAST_PORTER_SLOT ∷ x) (j ∷ y) then Some new else v.body (LAST_PORTER_SLOT ∷ x))
      || holds (leads_to (LAST_PORTER_SLOT ∷ parent x)) (holder_of (if same_path x (j ∷ y) then Some new else v.body x))) ≡ true
  made-scratch j y new empty porters k x scratch live = or-more (has_porter (λ q. v.body q) x) (is_held (λ q. v.body q) x) _ _
      (same (λ o. holds is_native o) refl (LAST_PORTER_SLOT ∷ x)) (same (λ o. holds (leads_to (LAST_PORTER_SLOT ∷ parent x)) (holder_of o)) refl x)
      (by (same_path (k ∷ x) (j ∷ y)) refl live)
    where
      same : (test : Option Body → Bool) → test None ≡ false → (q : Path) → test (v.body q) ≡ true
          → test (if same_path q (j ∷ y) then Some new else v.body q) ≡ true
      same test none q h = on (same_path q (j ∷ y)) refl
        where
          on : (t : Bool) → same_path q (j ∷ y) ≡ t → test (if t then Some new else v.body q) ≡ true
          on true e = let here = same_path_eq q (j ∷ y) e in let never : test None ≡ true = rw (here, empty) at h in absurd (clash never)
            where
              clash : test None ≡ true → ⊥
              clash h = let no = none in cc
          on false e = h

      by : (t : Bool) → same_path (k ∷ x) (j ∷ y) ≡ t → IsSome (if t then Some new else v.body (k ∷ x)) → is_porters v x ≡ true
      by true e live = let here = same_path_eq (k ∷ x) (j ∷ y) e in let slot : k ≡ j = cc in let space : x ≡ y = cc in rw space (porters (rw slot at scratch))
      by false e live = kept k x scratch live

  -- ---- an object is destroyed

  killed-scratch : (y : Path) → IsLastKill v y → ((k : ℕ) → v.body (k ∷ y) ≡ None) → ScratchKept (apply (Kill y) v)
  unfolding apply
  killed-scratch y last alone k x scratch live =
      or-more (has_porter (λ q. v.body q) x) (is_held (λ q. v.body q) x) _ _ native held (kept k x scratch was)
    where
      was : IsSome (v.body (k ∷ x))
      was = by (same_path (k ∷ x) y) live
        where
          by : (t : Bool) → IsSome (if t then None else option_map (through (death_sweep y) (k ∷ x)) (v.body (k ∷ x))) → IsSome (v.body (k ∷ x))
          by true live = cc
          by false live = was-some (through (death_sweep y) (k ∷ x)) (v.body (k ∷ x)) live

      -- where the porter goes nothing was left
      native : has_porter (λ q. v.body q) x ≡ true →
          holds is_native (if same_path (LAST_PORTER_SLOT ∷ x) y then None
          else option_map (through (death_sweep y) (LAST_PORTER_SLOT ∷ x)) (v.body (LAST_PORTER_SLOT ∷ x))) ≡ true
      native h = by (same_path (LAST_PORTER_SLOT ∷ x) y) refl
        where
          by : (t : Bool) → same_path (LAST_PORTER_SLOT ∷ x) y ≡ t → holds is_native (if t then None
              else option_map (through (death_sweep y) (LAST_PORTER_SLOT ∷ x)) (v.body (LAST_PORTER_SLOT ∷ x))) ≡ true
          by true e =
              let here = same_path_eq (LAST_PORTER_SLOT ∷ x) y e in
              let none = (last (rw here at h)).1 k (between k scratch).low in
              absurd (none-some (v.body (k ∷ x)) (rw (← here) at none) was)
          by false e = native-swept (death_sweep y) (LAST_PORTER_SLOT ∷ x) (v.body (LAST_PORTER_SLOT ∷ x)) h

      -- nor was what it held
      porter-there : (z : Path) → is_held (λ q. v.body q) z ≡ true → holds is_native (v.body (LAST_PORTER_SLOT ∷ parent z)) ≡ true
      porter-there z h = of (holder_of (v.body z)) refl h
        where
          of : (o : Option Ptr) → holder_of (v.body z) ≡ o → holds (leads_to (LAST_PORTER_SLOT ∷ parent z)) o ≡ true →
              holds is_native (v.body (LAST_PORTER_SLOT ∷ parent z)) ≡ true
          of None e h = cc
          of (Some p) e h = let to = leads_to_at (LAST_PORTER_SLOT ∷ parent z) p h in stands-porter v valid stand z (e ∙ ap (λ p. Some p) to)

      held : is_held (λ q. v.body q) x ≡ true → holds (leads_to (LAST_PORTER_SLOT ∷ parent x))
          (holder_of (if same_path x y then None else option_map (through (death_sweep y) x) (v.body x))) ≡ true
      held h = by (same_path x y) refl (same_path (LAST_PORTER_SLOT ∷ parent x) y) refl
        where
          gone : (z : Path) → z ≡ x → same_path (LAST_PORTER_SLOT ∷ parent z) y ≡ true → is_held (λ q. v.body q) z ≡ true → IsSome (v.body (k ∷ z)) → ⊥
          gone [] e same h its =
              let here = same_path_eq (LAST_PORTER_SLOT ∷ []) y same in
              let porter : holds is_native (v.body (LAST_PORTER_SLOT ∷ [])) ≡ true = porter-there [] h in
              let none = (last (rw here at porter)).1 k (between k scratch).low in
              none-some (v.body (k ∷ [])) (rw (← here) at none) its
          gone (j ∷ z) e same h its =
              let here = same_path_eq (LAST_PORTER_SLOT ∷ z) y same in
              let porter : holds is_native (v.body (LAST_PORTER_SLOT ∷ z)) ≡ true = porter-there (j ∷ z) h in
              let none = (last (rw here at porter)).1 j (space-low k j z its) in
              none-some (v.body (j ∷ z)) (rw (← here) at none) (space-there k (j ∷ z) its)

          stays : (o : Option Body) → same_path (LAST_PORTER_SLOT ∷ parent x) y ≡ false → holds (leads_to (LAST_PORTER_SLOT ∷ parent x)) (holder_of o) ≡ true →
              holds (leads_to (LAST_PORTER_SLOT ∷ parent x)) (holder_of (option_map (through (death_sweep y) x) o)) ≡ true
          stays (Some (Space birth (Some p))) apart h = on (leads_to y p) refl
            where
              on : (t : Bool) → leads_to y p ≡ t → holds (leads_to (LAST_PORTER_SLOT ∷ parent x)) (if t then None else Some p) ≡ true
              on true e =
                  let to = leads_to_at y p e in
                  let at = leads_to_at (LAST_PORTER_SLOT ∷ parent x) p h in
                  let one : y ≡ LAST_PORTER_SLOT ∷ parent x = cc in
                  let same : same_path (LAST_PORTER_SLOT ∷ parent x) (LAST_PORTER_SLOT ∷ parent x) ≡ false = rw one at apart in
                  let twice = same_path_refl (LAST_PORTER_SLOT ∷ parent x) in
                  cc
              on false e = h
          stays (Some (Space birth None)) apart h = cc
          stays (Some (Mutex locked)) apart h = cc
          stays (Some b) apart h = cc
          stays None apart h = cc

          by : (t : Bool) → same_path x y ≡ t → (r : Bool) → same_path (LAST_PORTER_SLOT ∷ parent x) y ≡ r →
              holds (leads_to (LAST_PORTER_SLOT ∷ parent x)) (holder_of (if t then None else option_map (through (death_sweep y) x) (v.body x))) ≡ true
          by true e r f = let here = same_path_eq x y e in absurd (none-some (v.body (k ∷ x)) (rw here (alone k)) was)
          by false e true f = absurd (gone x refl f h was)
          by false e false f = stays (v.body x) f h

  -- ---- an object is renamed

  moved-scratch : (i : ℕ) (s : Path) (j : ℕ) → nat_le i LAST_USER_SLOT ≡ true → nat_le j LAST_USER_SLOT ≡ true →
      v.body (j ∷ s) ≡ None → ((k : ℕ) → v.body (k ∷ i ∷ s) ≡ None) → ScratchKept (apply (Move (i ∷ s) j) v)
  unfolding apply
  moved-scratch i s j low there empty alone k x scratch live =
      or-more (has_porter (λ q. v.body q) x) (is_held (λ q. v.body q) x) _ _ native held (kept k x scratch was)
    where
      i-low : i < 240
      i-low = let few = leb-true i LAST_USER_SLOT low in omega (arith, few)

      j-low : j < 240
      j-low = let few = leb-true j LAST_USER_SLOT there in omega (arith, few)

      -- what stands in a higher slot is where it was
      apart : (n m : ℕ) → n < 240 → 239 < m → m ≡ n → ⊥
      apart n m low high same = omega (arith, low, high, same)

      was : IsSome (v.body (k ∷ x))
      was =
          let high = (between k scratch).high in
          let onto = slots-apart k j x s (apart j k j-low high) in
          let from = slots-apart k i x s (apart i k i-low high) in
          was-some (through (following (i ∷ s) (j ∷ s)) (k ∷ x)) (v.body (k ∷ x)) (rw (onto, from) at live)

      native : has_porter (λ q. v.body q) x ≡ true → has_porter (apply (Move (i ∷ s) j) v).body x ≡ true
      native h =
          let onto = slots-apart LAST_PORTER_SLOT j x s (apart j LAST_PORTER_SLOT j-low (omega arith)) in
          let from = slots-apart LAST_PORTER_SLOT i x s (apart i LAST_PORTER_SLOT i-low (omega arith)) in
          rw (onto, from) (native-swept (following (i ∷ s) (j ∷ s)) (LAST_PORTER_SLOT ∷ x) (v.body (LAST_PORTER_SLOT ∷ x)) h)

      held : is_held (λ q. v.body q) x ≡ true → is_held (apply (Move (i ∷ s) j) v).body x ≡ true
      held h = by (same_path x (j ∷ s)) refl (same_path x (i ∷ s)) refl
        where
          stays : (o : Option Body) → holds (leads_to (LAST_PORTER_SLOT ∷ parent x)) (holder_of o) ≡ true →
              holds (leads_to (LAST_PORTER_SLOT ∷ parent x)) (holder_of (option_map (through (following (i ∷ s) (j ∷ s)) x) o)) ≡ true
          stays (Some (Space birth (Some p))) h =
              let at = leads_to_at (LAST_PORTER_SLOT ∷ parent x) p h in
              let off = slots-apart LAST_PORTER_SLOT i (parent x) s (apart i LAST_PORTER_SLOT i-low (omega arith)) in
              rw (at, off) (same_path_refl (LAST_PORTER_SLOT ∷ parent x))
          stays (Some (Space birth None)) h = cc
          stays (Some (Mutex locked)) h = cc
          stays (Some b) h = cc
          stays None h = cc

          by : (t : Bool) → same_path x (j ∷ s) ≡ t → (r : Bool) → same_path x (i ∷ s) ≡ r → holds (leads_to (LAST_PORTER_SLOT ∷ parent x))
              (holder_of (if t then option_map (through (following (i ∷ s) (j ∷ s)) (j ∷ s)) (v.body (i ∷ s))
              else (if r then None else option_map (through (following (i ∷ s) (j ∷ s)) x) (v.body x)))) ≡ true
          by true e r f = let here = same_path_eq x (j ∷ s) e in absurd (none-some (v.body x) (rw here empty) (space-there k x was))
          by false e true f = let here = same_path_eq x (i ∷ s) f in absurd (none-some (v.body (k ∷ x)) (rw here (alone k)) was)
          by false e false f = stays (v.body x) h

  pub scratch-apply : (c : Change) → IsSafe v c → IsKept v c → ScratchKept (apply c v)
  unfolding apply
  scratch-apply (Alter y edit) safe keeps = altered-scratch y edit keeps
  scratch-apply (Make [] body) safe keeps = absurd safe
  scratch-apply (Make (j ∷ y) body) safe keeps = made-scratch j y body safe.place.empty keeps.2
  scratch-apply (MakeSpace [] holder) safe keeps = absurd safe
  scratch-apply (MakeSpace (j ∷ y) holder) safe keeps = made-scratch j y (Space v.next holder) safe.place.empty (λ scratch.
      let high = (between j scratch).high in let low = leb-true j LAST_USER_SLOT keeps.0 in absurd (omega (arith, high, low)))
  scratch-apply (Kill y) safe keeps = killed-scratch y keeps safe.empty
  scratch-apply (Move [] j) safe keeps = absurd safe
  scratch-apply (Move (i ∷ s) j) safe keeps = moved-scratch i s j keeps.0 keeps.1 safe.empty safe.alone
  scratch-apply (PutPage space page words) safe keeps = kept
  scratch-apply (DropPage space page) safe keeps = kept
