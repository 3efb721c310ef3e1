-- A space in which something stays is the one that was there: one safe change leaves it.
use Rattle.std.proofs.Common.{◌≡◌, ℕ, Bool, true, false, if◌then◌else◌, IsSome, ◌∷◌, [], Option, Some, None, option_map, refl, sym, ap, ◌∙◌}
use Rattle.fk_model.specs.Places.{Path, same_path}
use Rattle.fk_model.specs.Objects.{Body, and_then}
use Rattle.fk_model.specs.World.{World, Change, edited, through, death_sweep, following, apply}
use Rattle.fk_model.specs.World.Change.{Alter, Make, MakeSpace, Kill, Move, PutPage, DropPage}
use Rattle.fk_model.specs.Valid.{IsConsistent, birth_of, birth_at}
use Rattle.fk_model.proofs.walks.WalkLaws.{live_above}
use Rattle.fk_model.proofs.walks.PlaceLaws.{same_path_eq}
use Rattle.laws_moves.proofs.InMachine.validity.Outlines.{Outline, outline_of, outline-birth}
use Rattle.laws_moves.proofs.InMachine.validity.Edits.{outline-edited}
use Rattle.laws_moves.proofs.InMachine.validity.Kills.{outline-without}
use Rattle.laws_moves.proofs.InMachine.validity.Renames.{outline-following}
use Rattle.laws_moves.proofs.InMachine.safety.Safe.{IsSafe}

pub same_birth : (f : Body → Body) → ((o : Option Body) → option_map outline_of (option_map f o) ≡ option_map outline_of o) → (o : Option Body) →
    and_then birth_of (option_map f o) ≡ and_then birth_of o
same_birth f same o = outline-birth (option_map f o) ∙ ap (and_then (λ (t : Outline). t.birth)) (same o) ∙ sym (outline-birth o)

pub each : (f : Body → Body) → ((b : Body) → outline_of (f b) ≡ outline_of b) → (o : Option Body) → option_map outline_of (option_map f o)
    ≡ option_map outline_of o
each f same None = refl
each f same (Some b) = ap (λ (t : Outline). Some t) (same b)

nothing : (o : Option Body) → o ≡ None → IsSome o → ⊥
nothing None e h = cc
nothing (Some b) e h = cc

-- ---- one safe change, where something lies in the space

module _ (v : World) (valid : IsConsistent v) (k : ℕ) (x : Path) (live : IsSome (v.body (k ∷ x))) where
  filled : IsSome (v.body x)
  filled = live_above v valid k x live

  not_empty : (y : Path) → v.body y ≡ None → (b : Bool) → same_path x y ≡ b → b ≡ false
  not_empty y empty false e = refl
  not_empty y empty true e = let here = same_path_eq x y e in absurd (nothing (v.body x) (rw here empty) filled)

  not_alone : (y : Path) → ((j : ℕ) → v.body (j ∷ y) ≡ None) → (b : Bool) → same_path x y ≡ b → b ≡ false
  not_alone y alone false e = refl
  not_alone y alone true e = let here = same_path_eq x y e in absurd (nothing (v.body (k ∷ x)) (rw here (alone k)) live)

  pub birth_one : (c : Change) → IsSafe v c → birth_at (apply c v) x ≡ birth_at v x
  unfolding apply
  birth_one (Alter y edit) safe = by (same_path x y)
    where
      by : (t : Bool) → and_then birth_of (if t then option_map (edited edit) (v.body x) else v.body x) ≡ and_then birth_of (v.body x)
      by true = same_birth (edited edit) (each (edited edit) (outline-edited edit)) (v.body x)
      by false = refl
  birth_one (Make [] body) safe = absurd safe
  birth_one (Make (j ∷ s) body) safe = rw (not_empty (j ∷ s) safe.place.empty (same_path x (j ∷ s)) refl) refl
  birth_one (MakeSpace [] holder) safe = absurd safe
  birth_one (MakeSpace (j ∷ s) holder) safe = rw (not_empty (j ∷ s) safe.place.empty (same_path x (j ∷ s)) refl) refl
  birth_one (Kill y) safe = rw (not_alone y safe.empty (same_path x y) refl) (same_birth (through (death_sweep y) x) (outline-without y x) (v.body x))
  birth_one (Move [] j) safe = absurd safe
  birth_one (Move (i ∷ s) j) safe =
      rw (not_empty (j ∷ s) safe.empty (same_path x (j ∷ s)) refl, not_alone (i ∷ s) safe.alone (same_path x (i ∷ s)) refl)
      (same_birth (through (following (i ∷ s) (j ∷ s)) x) (outline-following (i ∷ s) (j ∷ s) x) (v.body x))
  birth_one (PutPage space page words) safe = refl
  birth_one (DropPage space page) safe = refl
