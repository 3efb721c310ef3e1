-- Kept changes leave each holder outside of what it holds.
use Rattle.std.proofs.Common.{◌≡◌, ℕ, Bool, true, false, if◌then◌else◌, IsSome, is_some, [], ◌∷◌, ◌++◌, Option, Some, None, option_map, refl, sym, ap, ◌∙◌}
use Rattle.fk_model.specs.declared.names.Kind.TheVariants as kinds
use Rattle.fk_model.specs.Places.{Path, same_path, strip, is_within, Ptr, leads_to}
use Rattle.fk_model.specs.Places.Ptr.{Null, At}
use Rattle.fk_model.specs.Objects.{Body, kind_of}
use Rattle.fk_model.specs.Objects.Body.{Mutex, Cond, Mapping, Region, Port, Portset, Space, Thread_of, Reference}
use Rattle.fk_model.specs.World.{World, Change, Edit, edited, through, death_sweep, following, follow, apply}
use Rattle.fk_model.specs.World.Change.{Alter, Make, MakeSpace, Kill, Move, PutPage, DropPage}
use Rattle.fk_model.specs.World.Edit.{SetLocked, SetHolder}
use Rattle.fk_model.specs.Holds.{holder_of}
use Rattle.fk_model.specs.Valid.{IsConsistent, kind_there, leads_there}
use Rattle.fk_model.proofs.walks.PlaceLaws.{same_path_eq, strip_some, strip-append}
use Rattle.fk_model.proofs.walks.WalkLaws.{live_above}
use Rattle.laws_moves.proofs.InMachine.safety.Safe.{is_plain, IsSafe}
use Rattle.laws_moves.proofs.InFrozen.Edited.{same_kind}
use Rattle.laws_moves.proofs.InSavable.Kept.{IsOutside, IsKept}

-- nobody holds the space in or beneath which it lives
abbrev pub HoldersOutside : World → Type 0
HoldersOutside v = (x y : Path) → holder_of (v.body x) ≡ Some (At y) → is_within x y ≡ false

-- ---- what becomes of a holder

abbrev pub is_holding : Edit → Bool
is_holding (SetHolder holder) = true
is_holding other = false

space-edited : (edit : Edit) (birth : ℕ) (holder : Option Ptr) → is_holding edit ≡ false → edited edit (Space birth holder) ≡ Space birth holder
unfolding edited
space-edited (SetHolder new) birth holder other = cc
space-edited (SetLocked locked) birth holder other = refl
space-edited edit birth holder other = refl

no_space : (b : Body) → (kind_of b ≡ kinds.Space → ⊥) → holder_of (Some b) ≡ None
no_space (Space birth holder) other = absurd (other refl)
no_space (Mutex locked) other = refl
no_space b other = refl

-- an edit that sets no holder leaves it
pub same-holder : (edit : Edit) (b : Body) → is_holding edit ≡ false → holder_of (Some (edited edit b)) ≡ holder_of (Some b)
same-holder edit (Space birth holder) other = ap (λ b. holder_of (Some b)) (space-edited edit birth holder other)
same-holder edit (Mutex locked) other = no_space (edited edit (Mutex locked)) (λ e. let k = same_kind edit (Mutex locked) in cc)
same-holder edit Cond other = no_space (edited edit Cond) (λ e. let k = same_kind edit Cond in cc)
same-holder edit (Mapping m) other = no_space (edited edit (Mapping m)) (λ e. let k = same_kind edit (Mapping m) in cc)
same-holder edit (Region r) other = no_space (edited edit (Region r)) (λ e. let k = same_kind edit (Region r) in cc)
same-holder edit (Port set served) other = no_space (edited edit (Port set served)) (λ e. let k = same_kind edit (Port set served) in cc)
same-holder edit Portset other = no_space (edited edit Portset) (λ e. let k = same_kind edit Portset in cc)
same-holder edit (Thread_of t) other = no_space (edited edit (Thread_of t)) (λ e. let k = same_kind edit (Thread_of t) in cc)
same-holder edit (Reference to) other = no_space (edited edit (Reference to)) (λ e. let k = same_kind edit (Reference to) in cc)

pub mapped-holder : (edit : Edit) (o : Option Body) → is_holding edit ≡ false → holder_of (option_map (edited edit) o) ≡ holder_of o
mapped-holder edit None other = refl
mapped-holder edit (Some b) other = same-holder edit b other

-- one that sets one has set it, or the object is no space
set-holder : (holder : Option Ptr) (o : Option Body) (p : Ptr) → holder_of (option_map (edited (SetHolder holder)) o) ≡ Some p → holder ≡ Some p
unfolding edited
set-holder holder None p h = cc
set-holder holder (Some (Space birth old)) p h = h
set-holder holder (Some b) p h = cc

-- who still holds after a death held before
death-holder : (x q : Path) (o : Option Body) (y : Path) → holder_of (option_map (through (death_sweep x) q) o) ≡ Some (At y) → holder_of o ≡ Some (At y)
death-holder x q None y h = cc
death-holder x q (Some (Space birth (Some p))) y h = by (leads_to x p) h
  where
    by : (t : Bool) → (if t then None else Some p) ≡ Some (At y) → Some p ≡ Some (At y)
    by true h = cc
    by false h = h
death-holder x q (Some (Space birth None)) y h = cc
death-holder x q (Some b) y h = cc

-- who holds after a renaming is one that held, renamed
record Followed (x z : Path) (o : Option Body) (y : Path) : Type 0 where
  was : Path
  held : holder_of o ≡ Some (At was)
  now : At y ≡ follow x z (At was)

follow-at : (x z : Path) (p : Ptr) (y : Path) → follow x z p ≡ At y → (was : Path) × (p ≡ At was)
follow-at x z (At was) y h = (was, refl)
follow-at x z Null y h = cc
follow-at x z p y h = cc

followed-holder : (x z q : Path) (o : Option Body) (y : Path) → holder_of (option_map (through (following x z) q) o) ≡ Some (At y) → Followed x z o y
followed-holder x z q None y h = cc
followed-holder x z q (Some (Space birth (Some p))) y h =
    let now : follow x z p ≡ At y = cc in
    let old = follow-at x z p y now in
    record { was = old.0; held = ap (λ p. Some p) old.1; now = sym now ∙ ap (follow x z) old.1 }
followed-holder x z q (Some (Space birth None)) y h = cc
followed-holder x z q (Some b) y h = cc

-- ---- paths

-- nothing stands beneath an empty place
all_above : (v : World) → IsConsistent v → (r x : Path) → IsSome (v.body (r ++ x)) → IsSome (v.body x)
all_above v valid [] x live = live
all_above v valid (k ∷ r) x live = all_above v valid r x (live_above v valid k (r ++ x) live)

none-live : (o : Option Body) → o ≡ None → IsSome o → ⊥
none-live None e live = cc
none-live (Some b) e live = cc

module _ (v : World) (valid : IsConsistent v) (outside : HoldersOutside v) where
  -- a holder is there
  holder-live : (x y : Path) → holder_of (v.body x) ≡ Some (At y) → IsSome (v.body y)
  unfolding kind_there
  holder-live x y h = by (v.body x) refl h
    where
      there : (o : Option Body) → leads_there (λ z. option_map kind_of (v.body z)) (kinds.Thread ∷ []) (At y) ≡ true → v.body y ≡ o → IsSome o
      there (Some b) leads e = refl
      there None leads e = let no = rw e at leads in cc

      by : (o : Option Body) → v.body x ≡ o → holder_of o ≡ Some (At y) → IsSome (v.body y)
      by (Some (Space birth (Some p))) e h =
          let to : p ≡ At y = cc in
          let good = valid.good x in
          there (v.body y) (rw (e, to) at good) refl
      by (Some (Space birth None)) e h = cc
      by (Some (Mutex locked)) e h = cc
      by (Some b) e h = cc
      by None e h = cc

  altered : (x : Path) (edit : Edit) → IsKept v (Alter x edit) → HoldersOutside (apply (Alter x edit) v)
  unfolding apply
  altered x (SetHolder holder) kept q y h = by (same_path q x) refl h
    where
      out : (o : Option Ptr) → o ≡ Some (At y) → IsOutside x o → is_within x y ≡ false
      out o e kept = rw e at kept

      by : (t : Bool) → same_path q x ≡ t → holder_of (if t then option_map (edited (SetHolder holder)) (v.body q) else v.body q) ≡ Some (At y) →
          is_within q y ≡ false
      by true e h = let here = same_path_eq q x e in rw here (out holder (set-holder holder (v.body q) (At y) h) kept.0)
      by false e h = outside q y h
  altered x edit kept q y h = by (same_path q x) h
    where
      by : (t : Bool) → holder_of (if t then option_map (edited edit) (v.body q) else v.body q) ≡ Some (At y) → is_within q y ≡ false
      by true h = outside q y (sym (mapped-holder edit (v.body q) refl) ∙ h)
      by false h = outside q y h

  made : (x : Path) (body : Body) → is_plain body ≡ true → HoldersOutside (apply (Make x body) v)
  unfolding apply
  made x body plain q y h = by (same_path q x) h
    where
      none : (b : Body) → is_plain b ≡ true → holder_of (Some b) ≡ Some (At y) → ⊥
      none (Space birth holder) plain h = cc
      none (Mutex locked) plain h = cc
      none b plain h = cc

      by : (t : Bool) → holder_of (if t then Some body else v.body q) ≡ Some (At y) → is_within q y ≡ false
      by true h = absurd (none body plain h)
      by false h = outside q y h

  spaced : (x : Path) (holder : Option Ptr) → IsOutside x holder → HoldersOutside (apply (MakeSpace x holder) v)
  unfolding apply
  spaced x holder out q y h = by (same_path q x) refl h
    where
      to : (o : Option Ptr) → o ≡ Some (At y) → IsOutside x o → is_within x y ≡ false
      to o e out = rw e at out

      by : (t : Bool) → same_path q x ≡ t → holder_of (if t then Some (Space v.next holder) else v.body q) ≡ Some (At y) → is_within q y ≡ false
      by true e h = let here = same_path_eq q x e in rw here (to holder h out)
      by false e h = outside q y h

  killed : (x : Path) → HoldersOutside (apply (Kill x) v)
  unfolding apply
  killed x q y h = by (same_path q x) h
    where
      by : (t : Bool) → holder_of (if t then None else option_map (through (death_sweep x) q) (v.body q)) ≡ Some (At y) → is_within q y ≡ false
      by true h = cc
      by false h = outside q y (death-holder x q (v.body q) y h)

  -- ---- an object is renamed

  within-itself : (x : Path) → is_within x x ≡ true
  within-itself x = rw (strip-append x []) refl

  within-more : (x r : Path) → is_within x (r ++ x) ≡ true
  within-more x r = rw (strip-append x r) refl

  off : (x y : Path) → ((r : Path) → y ≡ r ++ x → ⊥) → is_within x y ≡ false
  off x y apart = by (strip x y) refl
    where
      by : (o : Option Path) → strip x y ≡ o → is_some o ≡ false
      by None e = refl
      by (Some r) e = absurd (apart r (strip_some x y r e))

  module _ (i : ℕ) (s : Path) (j : ℕ) (empty : v.body (j ∷ s) ≡ None) where
    -- the renamed space itself: what holds it stays, and nothing was beneath its new place
    moved-space : (was : Path) → holder_of (v.body (i ∷ s)) ≡ Some (At was) → (y : Path) → At y ≡ follow (i ∷ s) (j ∷ s) (At was) →
        is_within (j ∷ s) y ≡ false
    moved-space was held y now = by (same_path was (i ∷ s)) refl now
      where
        by : (t : Bool) → same_path was (i ∷ s) ≡ t → At y ≡ (if t then At (j ∷ s) else At was) → is_within (j ∷ s) y ≡ false
        by true e now =
            let here = same_path_eq was (i ∷ s) e in
            let out = outside (i ∷ s) was held in
            let on = within-itself (i ∷ s) in
            let no : is_within (i ∷ s) (i ∷ s) ≡ false = rw here at out in
            cc
        by false e now = let same : y ≡ was = cc in off (j ∷ s) y (λ r at. none-live (v.body (j ∷ s)) empty
            (all_above v valid r (j ∷ s) (let live = holder-live (i ∷ s) was held in rw (← same, at) at live)))

    other-space : (q was : Path) → holder_of (v.body q) ≡ Some (At was) → (y : Path) → At y ≡ follow (i ∷ s) (j ∷ s) (At was) → is_within q y ≡ false
    other-space q was held y now = by (same_path was (i ∷ s)) refl now
      where
        held-live : (o : Option Body) → holder_of o ≡ Some (At was) → IsSome o
        held-live (Some b) h = refl
        held-live None h = cc

        -- what lies in the new place lay beside the old one
        beside : (r : Path) → was ≡ i ∷ s → j ∷ s ≡ r ++ q → ⊥
        beside [] here at = let same : q ≡ j ∷ s = sym at in none-live (v.body (j ∷ s)) empty (let live = held-live (v.body q) held in rw same at live)
        beside (k ∷ r) here at =
            let below : s ≡ r ++ q = cc in
            let out = outside q was held in
            let on = within-more q (i ∷ r) in
            let no : is_within q (i ∷ (r ++ q)) ≡ false = rw (here, below) at out in
            cc

        by : (t : Bool) → same_path was (i ∷ s) ≡ t → At y ≡ (if t then At (j ∷ s) else At was) → is_within q y ≡ false
        by true e now = let same : y ≡ j ∷ s = cc in off q y (λ r at. beside r (same_path_eq was (i ∷ s) e) (sym same ∙ at))
        by false e now = let same : y ≡ was = cc in rw same (outside q was held)

    renamed : HoldersOutside (apply (Move (i ∷ s) j) v)
    unfolding apply
    renamed q y h = by (same_path q (j ∷ s)) refl (same_path q (i ∷ s)) h
      where
        by : (t : Bool) → same_path q (j ∷ s) ≡ t → (r : Bool) →
            holder_of (if t then option_map (through (following (i ∷ s) (j ∷ s)) (j ∷ s)) (v.body (i ∷ s))
            else (if r then None else option_map (through (following (i ∷ s) (j ∷ s)) q) (v.body q))) ≡ Some (At y) → is_within q y ≡ false
        by true e r h =
            let here = same_path_eq q (j ∷ s) e in
            let was = followed-holder (i ∷ s) (j ∷ s) (j ∷ s) (v.body (i ∷ s)) y h in
            rw here (moved-space was.was was.held y was.now)
        by false e true h = cc
        by false e false h = let was = followed-holder (i ∷ s) (j ∷ s) q (v.body q) y h in other-space q was.was was.held y was.now

  pub outside-apply : (c : Change) → IsSafe v c → IsKept v c → HoldersOutside (apply c v)
  unfolding apply
  outside-apply (Alter x edit) safe kept = altered x edit kept
  outside-apply (Make [] body) safe kept = absurd safe
  outside-apply (Make (k ∷ s) body) safe kept = made (k ∷ s) body safe.plain
  outside-apply (MakeSpace x holder) safe kept = spaced x holder kept.1
  outside-apply (Kill x) safe kept = killed x
  outside-apply (Move [] j) safe kept = absurd safe
  outside-apply (Move (i ∷ s) j) safe kept = renamed i s j safe.empty
  outside-apply (PutPage space page words) safe kept = outside
  outside-apply (DropPage space page) safe kept = outside
