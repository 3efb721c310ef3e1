-- A space that stands where one stood before the move is that one: a row makes a space, or renames, as its first change alone, and nothing stood in the place
-- to which that comes.
use Rattle.std.proofs.Common.{◌≡◌, ℕ, Bool, true, false, if◌then◌else◌, List, [], ◌∷◌, Option, Some, None, option_map, refl, sym, ap, ◌∙◌}
use Rattle.fk_model.specs.Moves.{stepped, outcome, step}
use Rattle.fk_model.specs.Outcomes.{Outcome}
use Rattle.fk_model.specs.Outcomes.Outcome.{Refused, Waits, Goes}
use Rattle.fk_model.specs.Places.{Path, same_path, Ptr}
use Rattle.fk_model.specs.Objects.{Body, and_then}
use Rattle.fk_model.specs.Objects.Body.{Mutex, Cond, Mapping, Region, Port, Portset, Space, Thread_of, Reference}
use Rattle.fk_model.specs.World.{World, Change, apply, apply_all, death_sweep, edited, following, through}
use Rattle.fk_model.specs.World.Change.{Alter, Make, MakeSpace, Kill, Move, PutPage, DropPage}
use Rattle.fk_model.specs.Valid.{birth_of, birth_at}
use Rattle.fk_model.proofs.walks.PlaceLaws.{same_path_eq}
use Rattle.laws_moves.proofs.InMachine.safety.Moves.{outcome-safe}
use Rattle.laws_moves.proofs.InMachine.safety.Outcomes.{SafeOutcome}
use Rattle.laws_moves.proofs.InMachine.safety.Safe.{is_plain, IsSafe, AreSafe}
use Rattle.laws_moves.proofs.InMachine.safety.Staying.{same_birth, each}
use Rattle.laws_moves.proofs.InMachine.validity.Edits.{outline-edited}
use Rattle.laws_moves.proofs.InMachine.validity.Kills.{outline-without}
use Rattle.laws_moves.proofs.InMachine.validity.Renames.{outline-following}
use Rattle.laws_moves.proofs.InMachine.validity.Steps.{facts_of}
use Rattle.laws_subtrees.specs.Uncut.Placed.{SpacesAreNotReplaced}
use Rattle.laws_subtrees.proofs.InUncut.Outcomes.{SetsOurs, SetOurs, IsOursRow, OursOutcome}
use Rattle.laws_subtrees.proofs.InUncut.Moves.{outcome-ours}

-- what is made, and is no space, has no number
plain_birth : (b : Body) → is_plain b ≡ true → birth_of b ≡ None
plain_birth (Space birth holder) h = cc
plain_birth (Mutex locked) h = refl
plain_birth Cond h = refl
plain_birth (Mapping m) h = refl
plain_birth (Region r) h = refl
plain_birth (Port set served) h = refl
plain_birth Portset h = refl
plain_birth (Thread_of t) h = refl
plain_birth (Reference to) h = refl

no_birth : (o : Option Body) (n : ℕ) → o ≡ None → and_then birth_of o ≡ Some n → ⊥
no_birth None n e h = cc
no_birth (Some b) n e h = cc

-- ---- from the number behind a change to the one before it

module _ (y : Path) (other : ℕ) where
  -- a change that makes no space and renames nothing gives no number
  back_one : (c : Change) (v : World) → SetsOurs c → IsSafe v c → birth_at (apply c v) y ≡ Some other → birth_at v y ≡ Some other
  unfolding apply
  back_one (Alter x edit) v ours safe h = by (same_path y x) h
    where
      by : (t : Bool) → and_then birth_of (if t then option_map (edited edit) (v.body y) else v.body y) ≡ Some other → birth_at v y ≡ Some other
      by true h = sym (same_birth (edited edit) (each (edited edit) (outline-edited edit)) (v.body y)) ∙ h
      by false h = h
  back_one (Make [] body) v ours safe h = absurd safe
  back_one (Make (k ∷ s) body) v ours safe h = by (same_path y (k ∷ s)) h
    where
      by : (t : Bool) → and_then birth_of (if t then Some body else v.body y) ≡ Some other → birth_at v y ≡ Some other
      by true h = let off = plain_birth body safe.plain in let both = sym off ∙ h in cc
      by false h = h
  back_one (MakeSpace x holder) v ours safe h = absurd ours
  back_one (Kill x) v ours safe h = by (same_path y x) h
    where
      by : (t : Bool) → and_then birth_of (if t then None else option_map (through (death_sweep x) y) (v.body y)) ≡ Some other → birth_at v y ≡ Some other
      by true h = cc
      by false h = sym (same_birth (through (death_sweep x) y) (outline-without x y) (v.body y)) ∙ h
  back_one (Move x slot) v ours safe h = absurd ours
  back_one (PutPage space page words) v ours safe h = h
  back_one (DropPage space page) v ours safe h = h

  back_all : (cs : List Change) (v : World) → SetOurs cs → AreSafe v cs → birth_at (apply_all cs v) y ≡ Some other → birth_at v y ≡ Some other
  unfolding apply_all
  back_all [] v ours safe h = h
  back_all (c ∷ cs) v ours safe h = back_one c v ours.0 safe.0 (back_all cs (apply c v) ours.1 safe.1 h)

  same_number : (v : World) (birth : ℕ) → birth_at v y ≡ Some birth → birth_at v y ≡ Some other → other ≡ birth
  same_number v birth one two = let both : Some other ≡ Some birth = sym two ∙ one in cc

  -- ---- the first change: it comes to a place where nothing stood

  apart : (x : Path) (v : World) (birth : ℕ) → v.body x ≡ None → birth_at v y ≡ Some birth → same_path y x ≡ false
  apart x v birth none named = by (same_path y x) refl
    where
      by : (t : Bool) → same_path y x ≡ t → t ≡ false
      by false e = refl
      by true e = let here = same_path_eq y x e in absurd (no_birth (v.body y) birth (ap v.body here ∙ none) named)

  after_space : (k : ℕ) (s : Path) (holder : Option Ptr) (v : World) (birth : ℕ) → v.body (k ∷ s) ≡ None → birth_at v y ≡ Some birth
      → birth_at (apply (MakeSpace (k ∷ s) holder) v) y ≡ Some other → birth_at v y ≡ Some other
  unfolding apply
  after_space k s holder v birth none named h = by (same_path y (k ∷ s)) (apart (k ∷ s) v birth none named) h
    where
      by : (t : Bool) → t ≡ false → and_then birth_of (if t then Some (Space v.next holder) else v.body y) ≡ Some other → birth_at v y ≡ Some other
      by false off h = h
      by true off h = cc

  after_move : (k : ℕ) (s : Path) (slot : ℕ) (v : World) (birth : ℕ) → v.body (slot ∷ s) ≡ None → birth_at v y ≡ Some birth
      → birth_at (apply (Move (k ∷ s) slot) v) y ≡ Some other → birth_at v y ≡ Some other
  unfolding apply
  after_move k s slot v birth none named h = by (same_path y (slot ∷ s)) (same_path y (k ∷ s)) (apart (slot ∷ s) v birth none named) h
    where
      by : (t u : Bool) → t ≡ false → and_then birth_of (if t then option_map (through (following (k ∷ s) (slot ∷ s)) (slot ∷ s)) (v.body (k ∷ s))
          else (if u then None else option_map (through (following (k ∷ s) (slot ∷ s)) y) (v.body y))) ≡ Some other → birth_at v y ≡ Some other
      by true u off h = cc
      by false true off h = cc
      by false false off h =
          sym (same_birth (through (following (k ∷ s) (slot ∷ s)) y) (outline-following (k ∷ s) (slot ∷ s) y) (v.body y)) ∙ h

  -- ---- a row

  row : (cs : List Change) (v : World) (birth : ℕ) → IsOursRow v cs → AreSafe v cs → birth_at v y ≡ Some birth
      → birth_at (apply_all cs v) y ≡ Some other → other ≡ birth
  unfolding apply_all
  row [] v birth ours safe named h = same_number v birth named h
  row (Move [] slot ∷ cs) v birth ours safe named h = absurd safe.0
  row (Move (k ∷ s) slot ∷ cs) v birth ours safe named h =
      same_number v birth named (after_move k s slot v birth safe.0.empty named (back_all cs (apply (Move (k ∷ s) slot) v) ours.2 safe.1 h))
  row (MakeSpace [] holder ∷ cs) v birth ours safe named h = absurd safe.0
  row (MakeSpace (k ∷ s) holder ∷ cs) v birth ours safe named h =
      same_number v birth named (after_space k s holder v birth safe.0.place.empty named (back_all cs (apply (MakeSpace (k ∷ s) holder) v) ours.1 safe.1 h))
  row (Alter x edit ∷ cs) v birth ours safe named h = same_number v birth named (back_all (Alter x edit ∷ cs) v ours safe h)
  row (Make x body ∷ cs) v birth ours safe named h = same_number v birth named (back_all (Make x body ∷ cs) v ours safe h)
  row (Kill x ∷ cs) v birth ours safe named h = same_number v birth named (back_all (Kill x ∷ cs) v ours safe h)
  row (PutPage space page words ∷ cs) v birth ours safe named h = same_number v birth named (back_all (PutPage space page words ∷ cs) v ours safe h)
  row (DropPage space page ∷ cs) v birth ours safe named h = same_number v birth named (back_all (DropPage space page ∷ cs) v ours safe h)

  by_outcome : (w : World) (o : Outcome) (birth : ℕ) → OursOutcome w o → SafeOutcome w o → birth_at w y ≡ Some birth
      → birth_at (stepped w o).world y ≡ Some other → other ≡ birth
  by_outcome w (Goes cs said) birth ours safe named h = row cs w birth ours.ours safe.safe named h
  by_outcome w (Refused status) birth ours safe named h = same_number w birth named h
  by_outcome w Waits birth ours safe named h = same_number w birth named h

pub spaces_are_not_replaced : SpacesAreNotReplaced
unfolding step
spaces_are_not_replaced w e uncut valid few fit y birth other named h =
    by_outcome y other w (outcome w e.mover e.pick e.ask) birth (outcome-ours w e.mover e.pick e.ask uncut)
    (outcome-safe w e.mover e.pick e.ask (facts_of w valid few) fit) named h
