-- A space stays younger than the one in which it lies.
use Rattle.std.proofs.Common.{◌≡◌, ℕ, ◌<◌, Bool, true, false, if◌then◌else◌, IsSome, List, [], ◌∷◌, Option, Some, None, option_map, refl, sym, ap, ◌∙◌}
use Rattle.fk_model.specs.Places.{Path, same_path, Ptr}
use Rattle.fk_model.specs.Objects.{Body, kind_of, and_then}
use Rattle.fk_model.specs.Objects.Body.{Mutex, Space}
use Rattle.fk_model.specs.World.{World, Change, edited, through, death_sweep, following, apply, apply_all}
use Rattle.fk_model.specs.World.Change.{Alter, Make, MakeSpace, Kill, Move, PutPage, DropPage}
use Rattle.fk_model.specs.Outcomes.{Outcome, listed}
use Rattle.fk_model.specs.Outcomes.Outcome.{Refused, Waits, Goes}
use Rattle.fk_model.specs.Moves.{outcome, step, stepped}
use Rattle.fk_model.specs.Valid.{IsConsistent, kind_there, birth_of, birth_at}
use Rattle.fk_model.specs.Whole.{IsYounger}
use Rattle.fk_model.proofs.walks.PlaceLaws.{same_path_eq, same_path_above}
use Rattle.laws_moves.proofs.InMachine.validity.Outlines.{Outline, outline_of, outline-birth}
use Rattle.laws_moves.proofs.InMachine.validity.Edits.{outline-edited}
use Rattle.laws_moves.proofs.InMachine.validity.Kills.{outline-without}
use Rattle.laws_moves.proofs.InMachine.validity.Renames.{outline-following}
use Rattle.laws_moves.proofs.InMachine.validity.Changes.{valid-apply}
use Rattle.laws_moves.proofs.InMachine.validity.Steps.{facts_of}
use Rattle.laws_moves.proofs.InMachine.safety.Safe.{is_plain, IsSafe, AreSafe}
use Rattle.laws_moves.proofs.InMachine.safety.Outcomes.{SafeOutcome}
use Rattle.laws_moves.proofs.InMachine.safety.Moves.{outcome-safe}
use Rattle.laws_moves.specs.Whole.Runnable.{makes_space, FitMoveKeepsYounger, OnlySpacesAreNumbered}

-- ---- births

-- what leaves an outline leaves the birth number
same_birth : (f : Body → Body) → ((o : Option Body) → option_map outline_of (option_map f o) ≡ option_map outline_of o) → (o : Option Body) →
    and_then birth_of (option_map f o) ≡ and_then birth_of o
same_birth f same o = outline-birth (option_map f o) ∙ ap (and_then (λ (t : Outline). t.birth)) (same o) ∙ sym (outline-birth o)

each : (f : Body → Body) → ((b : Body) → outline_of (f b) ≡ outline_of b) → (o : Option Body) → option_map outline_of (option_map f o) ≡ option_map outline_of o
each f same None = refl
each f same (Some b) = ap (λ (t : Outline). Some t) (same b)

unborn : (b : Body) → is_plain b ≡ true → birth_of b ≡ None
unborn (Space birth holder) plain = cc
unborn (Mutex locked) plain = refl
unborn b plain = refl

-- a space that is there
live : (o : Option Body) (birth : ℕ) → and_then birth_of o ≡ Some birth → IsSome o
live (Some b) birth h = refl
live None birth h = cc

same-younger : (u v : World) → ((q : Path) → birth_at u q ≡ birth_at v q) → IsYounger v → IsYounger u
same-younger u v same young k x birth above h g = young k x birth above (sym (same (k ∷ x)) ∙ h) (sym (same x) ∙ g)

module _ (v : World) (valid : IsConsistent v) (young : IsYounger v) where
  -- nothing lies in an empty place
  childless : (k : ℕ) (x : Path) (birth : ℕ) → v.body x ≡ None → birth_at v (k ∷ x) ≡ Some birth → ⊥
  unfolding kind_there
  childless k x birth empty h =
      let space = valid.parents k x (live (v.body (k ∷ x)) birth h) in
      let none : option_map kind_of (v.body x) ≡ None = rw empty refl in
      cc

  altered : (y : Path) (f : Body → Body) → ((o : Option Body) → option_map outline_of (option_map f o) ≡ option_map outline_of o) → (q : Path) →
      and_then birth_of (if same_path q y then option_map f (v.body q) else v.body q) ≡ and_then birth_of (v.body q)
  altered y f same q = by (same_path q y)
    where
      by : (t : Bool) → and_then birth_of (if t then option_map f (v.body q) else v.body q) ≡ and_then birth_of (v.body q)
      by true = same_birth f same (v.body q)
      by false = refl

  made : (y : Path) (b : Body) → v.body y ≡ None → is_plain b ≡ true → (q : Path) →
      and_then birth_of (if same_path q y then Some b else v.body q) ≡ and_then birth_of (v.body q)
  made y b empty plain q = by (same_path q y) refl
    where
      by : (t : Bool) → same_path q y ≡ t → and_then birth_of (if t then Some b else v.body q) ≡ and_then birth_of (v.body q)
      by true e = let same = same_path_eq q y e in rw (same, empty) (unborn b plain)
      by false e = refl

  spaced : (j : ℕ) (s : Path) (holder : Option Ptr) → v.body (j ∷ s) ≡ None → IsYounger (apply (MakeSpace (j ∷ s) holder) v)
  unfolding apply
  spaced j s holder empty k x birth above h g = by (same_path (k ∷ x) (j ∷ s)) refl (same_path x (j ∷ s)) refl h g
    where
      by : (t : Bool) → same_path (k ∷ x) (j ∷ s) ≡ t → (r : Bool) → same_path x (j ∷ s) ≡ r →
          and_then birth_of (if t then Some (Space v.next holder) else v.body (k ∷ x)) ≡ Some birth →
          and_then birth_of (if r then Some (Space v.next holder) else v.body x) ≡ Some above → above < birth
      by true e true d h g =
          let first = same_path_eq (k ∷ x) (j ∷ s) e in
          let here : x ≡ s = cc in
          let off = same_path_above j [] s in
          let on : same_path s (j ∷ s) ≡ true = rw here at d in
          cc
      by true e false d h g = let number : v.next ≡ birth = cc in rw (← number) (valid.born x above g)
      by false e true d h g = let here = same_path_eq x (j ∷ s) d in absurd (childless k x birth (rw here empty) h)
      by false e false d h g = young k x birth above h g

  killed : (y : Path) → IsYounger (apply (Kill y) v)
  unfolding apply
  killed y k x birth above h g = young k x birth above (was (k ∷ x) birth (same_path (k ∷ x) y) h) (was x above (same_path x y) g)
    where
      was : (q : Path) (n : ℕ) (t : Bool) → and_then birth_of (if t then None else option_map (through (death_sweep y) q) (v.body q)) ≡ Some n →
          and_then birth_of (v.body q) ≡ Some n
      was q n true h = cc
      was q n false h = sym (same_birth (through (death_sweep y) q) (outline-without y q) (v.body q)) ∙ h

  renamed : (i : ℕ) (s : Path) (j : ℕ) → ((k : ℕ) → v.body (k ∷ i ∷ s) ≡ None) → v.body (j ∷ s) ≡ None → IsYounger (apply (Move (i ∷ s) j) v)
  unfolding apply
  renamed i s j alone empty k x birth above h g =
      by (same_path (k ∷ x) (j ∷ s)) refl (same_path (k ∷ x) (i ∷ s)) (same_path x (j ∷ s)) refl (same_path x (i ∷ s)) refl h g
    where
      f : Path → Body → Body
      f q = through (following (i ∷ s) (j ∷ s)) q

      was : (q : Path) (o : Option Body) (n : ℕ) → and_then birth_of (option_map (through (following (i ∷ s) (j ∷ s)) q) o) ≡ Some n →
          and_then birth_of o ≡ Some n
      was q o n h = sym (same_birth (through (following (i ∷ s) (j ∷ s)) q) (outline-following (i ∷ s) (j ∷ s) q) o) ∙ h

      up : (m : ℕ) → x ≡ s → same_path x (m ∷ s) ≡ true → ⊥
      up m here d = let off = same_path_above m [] s in let on : same_path s (m ∷ s) ≡ true = rw here at d in cc

      by : (t : Bool) → same_path (k ∷ x) (j ∷ s) ≡ t → (a : Bool) (r : Bool) → same_path x (j ∷ s) ≡ r → (b : Bool) → same_path x (i ∷ s) ≡ b →
          and_then birth_of (if t then option_map (through (following (i ∷ s) (j ∷ s)) (j ∷ s)) (v.body (i ∷ s))
          else (if a then None else option_map (through (following (i ∷ s) (j ∷ s)) (k ∷ x)) (v.body (k ∷ x)))) ≡ Some birth →
          and_then birth_of (if r then option_map (through (following (i ∷ s) (j ∷ s)) (j ∷ s)) (v.body (i ∷ s))
          else (if b then None else option_map (through (following (i ∷ s) (j ∷ s)) x) (v.body x))) ≡ Some above → above < birth
      by true e a true d b c h g = let first = same_path_eq (k ∷ x) (j ∷ s) e in absurd (up j (let here : x ≡ s = cc in here) d)
      by true e a false d true c h g = cc
      by true e a false d false c h g =
          let first = same_path_eq (k ∷ x) (j ∷ s) e in
          let here : x ≡ s = cc in
          young i s birth above (was (j ∷ s) (v.body (i ∷ s)) birth h) (rw here at (was x (v.body x) above g))
      by false e true r d b c h g = cc
      by false e false true d b c h g = let here = same_path_eq x (j ∷ s) d in
          absurd (childless k x birth (rw here empty) (was (k ∷ x) (v.body (k ∷ x)) birth h))
      by false e false false d true c h g = cc
      by false e false false d false c h g = young k x birth above (was (k ∷ x) (v.body (k ∷ x)) birth h) (was x (v.body x) above g)

  younger-apply : (c : Change) → IsSafe v c → IsYounger (apply c v)
  unfolding apply
  younger-apply (Alter y edit) safe = same-younger (apply (Alter y edit) v) v (altered y (edited edit) (each (edited edit) (outline-edited edit))) young
  younger-apply (Make [] body) safe = absurd safe
  younger-apply (Make (j ∷ s) body) safe = same-younger (apply (Make (j ∷ s) body) v) v (made (j ∷ s) body safe.place.empty safe.plain) young
  younger-apply (MakeSpace [] holder) safe = absurd safe
  younger-apply (MakeSpace (j ∷ s) holder) safe = spaced j s holder safe.place.empty
  younger-apply (Kill y) safe = killed y
  younger-apply (Move [] j) safe = absurd safe
  younger-apply (Move (i ∷ s) j) safe = renamed i s j safe.alone safe.empty
  younger-apply (PutPage space page words) safe = young
  younger-apply (DropPage space page) safe = young

pub younger-all : (cs : List Change) (v : World) → IsConsistent v → IsYounger v → AreSafe v cs → IsYounger (apply_all cs v)
unfolding apply_all
younger-all [] v valid young safe = young
younger-all (c ∷ cs) v valid young safe = younger-all cs (apply c v) (valid-apply c v valid safe.0) (younger-apply v valid young c safe.0) safe.1

younger-stepped : (w : World) (o : Outcome) → IsConsistent w → IsYounger w → SafeOutcome w o → IsYounger (stepped w o).world
younger-stepped w (Goes cs said) valid young safe = younger-all cs w valid young safe.safe
younger-stepped w (Refused status) valid young safe = young
younger-stepped w Waits valid young safe = young

pub keeps_younger : FitMoveKeepsYounger
unfolding step
keeps_younger w e valid few fit young =
    younger-stepped w (outcome w e.mover e.pick e.ask) valid.consistent young (outcome-safe w e.mover e.pick e.ask (facts_of w valid few) fit)

-- ---- the next number

numbered : (c : Change) (cs : List Change) (w : World) → makes_space (c ∷ cs) ≡ false → ((apply c w).next ≡ w.next) × (makes_space cs ≡ false)
unfolding apply
numbered (Alter x edit) cs w none = (refl, none)
numbered (Make x body) cs w none = (refl, none)
numbered (MakeSpace x holder) cs w none = cc
numbered (Kill x) cs w none = (refl, none)
numbered (Move x slot) cs w none = (refl, none)
numbered (PutPage space page words) cs w none = (refl, none)
numbered (DropPage space page) cs w none = (refl, none)

next_same : (cs : List Change) (w : World) → makes_space cs ≡ false → (apply_all cs w).next ≡ w.next
unfolding apply_all
next_same [] w none = refl
next_same (c ∷ cs) w none = let one = numbered c cs w none in next_same cs (apply c w) one.1 ∙ one.0

next_stepped : (w : World) (o : Outcome) → makes_space (listed o) ≡ false → (stepped w o).world.next ≡ w.next
next_stepped w (Goes cs said) none = next_same cs w none
next_stepped w (Refused status) none = refl
next_stepped w Waits none = refl

pub only_spaces_numbered : OnlySpacesAreNumbered
unfolding step
only_spaces_numbered w e none = next_stepped w (outcome w e.mover e.pick e.ask) none
