-- A space's number was there before a move, or is the next one.
use Rattle.std.proofs.Common.{◌≡◌, ℕ, ◌<◌, Bool, true, false, if◌then◌else◌, List, [], ◌∷◌, Option, Some, None, option_map, refl, sym, ap, arith, ne_eqb, ◌∙◌}
use Rattle.fk_model.specs.Moves.{outcome, step, stepped}
use Rattle.fk_model.specs.Outcomes.{Outcome}
use Rattle.fk_model.specs.Outcomes.Outcome.{Refused, Waits, Goes}
use Rattle.fk_model.specs.Places.{Path, same_path}
use Rattle.fk_model.specs.Objects.{Body, and_then}
use Rattle.fk_model.specs.Objects.Body.{Mutex, Cond, Mapping, Region, Port, Portset, Space, Thread_of, Reference}
use Rattle.fk_model.specs.World.{World, Change, apply, apply_all, death_sweep, edited, following, through, birth_after}
use Rattle.fk_model.specs.World.Change.{Alter, Make, MakeSpace, Kill, Move, PutPage, DropPage}
use Rattle.fk_model.specs.Valid.{birth_of, birth_at}
use Rattle.laws_moves.proofs.InMachine.safety.Moves.{outcome-safe}
use Rattle.laws_moves.proofs.InMachine.safety.Outcomes.{SafeOutcome}
use Rattle.laws_moves.proofs.InMachine.safety.Safe.{is_plain, IsSafe, AreSafe}
use Rattle.laws_moves.proofs.InMachine.validity.Edits.{outline-edited}
use Rattle.laws_moves.proofs.InMachine.validity.Kills.{outline-without}
use Rattle.laws_moves.proofs.InMachine.validity.Renames.{outline-following}
use Rattle.laws_moves.proofs.InMachine.validity.Outlines.{Outline, outline_of, outline-birth}
use Rattle.laws_moves.proofs.InMachine.validity.Steps.{facts_of}
use Rattle.laws_migrate.specs.Births.{SpentStays}

-- a map that keeps outlines keeps numbers
abbrev numbered : Option Outline → Option ℕ
numbered o = and_then (λ (f : Outline). f.birth) o

pub kept_birth : (a b : Option Body) → option_map outline_of a ≡ option_map outline_of b → and_then birth_of a ≡ and_then birth_of b
kept_birth a b e = outline-birth a ∙ ap numbered e ∙ sym (outline-birth b)

pub each : (f : Body → Body) → ((b : Body) → outline_of (f b) ≡ outline_of b) → (o : Option Body)
    → option_map outline_of (option_map f o) ≡ option_map outline_of o
each f same None = refl
each f same (Some b) = ap (λ (x : Outline). Some x) (same b)

plain_birth : (b : Body) → is_plain b ≡ true → birth_of b ≡ None
plain_birth (Space birth holder) h = cc
plain_birth (Mutex locked) h = refl
plain_birth Cond h = refl
plain_birth (Mapping m) h = refl
plain_birth (Region r) h = refl
plain_birth (Port set served) h = refl
plain_birth Portset h = refl
plain_birth (Thread_of t) h = refl
plain_birth (Reference to) h = refl

abbrev Had : World → ℕ → Type 0
Had v birth = (x : Path) × (birth_at v x ≡ Some birth)

module _ (v : World) (birth : ℕ) (given : birth < v.next) where
  back_one : (c : Change) → IsSafe v c → (y : Path) → birth_at (apply c v) y ≡ Some birth → Had v birth
  unfolding apply
  back_one (Alter x edit) safe y h = (y, by (same_path y x) h)
    where
      by : (t : Bool) → and_then birth_of (if t then option_map (edited edit) (v.body y) else v.body y) ≡ Some birth → birth_at v y ≡ Some birth
      by true h = sym (kept_birth (option_map (edited edit) (v.body y)) (v.body y) (each (edited edit) (outline-edited edit) (v.body y))) ∙ h
      by false h = h
  back_one (Make [] body) safe y h = absurd safe
  back_one (Make (k ∷ s) body) safe y h = by (same_path y (k ∷ s)) h
    where
      by : (t : Bool) → and_then birth_of (if t then Some body else v.body y) ≡ Some birth → Had v birth
      by true h = let off = plain_birth body safe.plain in let both = sym off ∙ h in cc
      by false h = (y, h)
  back_one (MakeSpace [] holder) safe y h = absurd safe
  back_one (MakeSpace (k ∷ s) holder) safe y h = by (same_path y (k ∷ s)) h
    where
      by : (t : Bool) → and_then birth_of (if t then Some (Space v.next holder) else v.body y) ≡ Some birth → Had v birth
      by true h = let same : v.next ≡ birth = cc in absurd (omega (arith, given, same))
      by false h = (y, h)
  back_one (Kill x) safe y h = by (same_path y x) h
    where
      by : (t : Bool) → and_then birth_of (if t then None else option_map (through (death_sweep x) y) (v.body y)) ≡ Some birth → Had v birth
      by true h = cc
      by false h = (y, sym (kept_birth (option_map (through (death_sweep x) y) (v.body y)) (v.body y) (outline-without x y (v.body y))) ∙ h)
  back_one (Move [] slot) safe y h = absurd safe
  back_one (Move (k ∷ s) slot) safe y h = by (same_path y (slot ∷ s)) (same_path y (k ∷ s)) h
    where
      f : Path → Body → Body
      f q = through (following (k ∷ s) (slot ∷ s)) q

      by : (t u : Bool) → and_then birth_of (if t then option_map (through (following (k ∷ s) (slot ∷ s)) (k ∷ s)) (v.body (k ∷ s))
          else (if u then None else option_map (through (following (k ∷ s) (slot ∷ s)) y) (v.body y))) ≡ Some birth → Had v birth
      by true u h = (k ∷ s, sym (kept_birth _ (v.body (k ∷ s)) (outline-following (k ∷ s) (slot ∷ s) (k ∷ s) (v.body (k ∷ s)))) ∙ h)
      by false true h = cc
      by false false h = (y, sym (kept_birth _ (v.body y) (outline-following (k ∷ s) (slot ∷ s) y (v.body y))) ∙ h)
  back_one (PutPage space page words) safe y h = (y, h)
  back_one (DropPage space page) safe y h = (y, h)

  later : (c : Change) → birth < (apply c v).next
  unfolding apply
  later (MakeSpace x holder) = after_next v.next given
    where
      after_next : (n : ℕ) → birth < n → birth < birth_after n
      after_next n low = rw (ne_eqb n 0 (λ e. omega (arith, e, low))) (omega (arith, low))
  later (Alter x edit) = given
  later (Make x body) = given
  later (Kill x) = given
  later (Move x slot) = given
  later (PutPage space page words) = given
  later (DropPage space page) = given

back : (cs : List Change) (v : World) (birth : ℕ) → birth < v.next → AreSafe v cs → (y : Path) → birth_at (apply_all cs v) y ≡ Some birth → Had v birth
unfolding apply_all
back [] v birth given safe y h = (y, h)
back (c ∷ cs) v birth given safe y h =
    let before = back cs (apply c v) birth (later v birth given c) safe.1 y h in
    back_one v birth given c safe.0 before.0 before.1

pub on : (cs : List Change) (v : World) (birth : ℕ) → birth < v.next → birth < (apply_all cs v).next
unfolding apply_all
on [] v birth given = given
on (c ∷ cs) v birth given = on cs (apply c v) birth (later v birth given c)

abbrev SpentIn : World → ℕ → World → Type 0
SpentIn w birth v = (birth < v.next) × ((y : Path) → birth_at v y ≡ Some birth → Had w birth)

by_outcome : (w : World) (birth : ℕ) → birth < w.next → (o : Outcome) → SafeOutcome w o → SpentIn w birth (stepped w o).world
by_outcome w birth given (Goes cs said) safe = (on cs w birth given, λ y h. back cs w birth given safe.safe y h)
by_outcome w birth given (Refused status) safe = (given, λ y h. (y, h))
by_outcome w birth given Waits safe = (given, λ y h. (y, h))

pub spent_stays : SpentStays
unfolding step
spent_stays w e birth valid few fit spent =
    let its = by_outcome w birth spent.0 (outcome w e.mover e.pick e.ask) (outcome-safe w e.mover e.pick e.ask (facts_of w valid few) fit) in
    (its.0, λ y h. let had = its.1 y h in spent.1 had.0 had.1)
