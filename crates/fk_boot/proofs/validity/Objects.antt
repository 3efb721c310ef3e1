-- Objects are made safely, and are what they are at first.
use Rattle.std.proofs.Common.{◌≡◌, ℕ, ◌+◌, ◌-◌, ◌≤◌, Bool, true, false, if◌then◌else◌, List, [], ◌∷◌, ◌++◌, append_assoc, append-nil, length, get_or}
use Rattle.std.proofs.Common.{reverse, Option, Some, None, option_map, refl, subst, arith}
use Rattle.std.proofs.lemmas.Bool.{le-leb, lt-ltb}
use Rattle.std.proofs.lemmas.List.Elements.{All-nil, All-cons, All-head, All-tail, All-push}
use Rattle.std.specs.List.{All, flat_map}
use Rattle.fk_model.specs.Places.{Path, same_path}
use Rattle.fk_model.specs.Objects.{Body}
use Rattle.fk_model.specs.World.{World, apply, apply_all}
use Rattle.fk_model.specs.World.Change.{Make}
use Rattle.fk_model.specs.Records.{is_page_range}
use Rattle.fk_model.specs.Valid.{kind_there, is_good}
use Rattle.fk_model.proofs.walks.PlaceLaws.{same_path_refl, same_path_eq}
use Rattle.laws_moves.proofs.InMachine.safety.Safe.{is_plain, AreSafe}
use Rattle.laws_moves.proofs.InMachine.validity.Outlines.{Outline, outline_of}
use Rattle.fk_scenario.specs.declared.entries.types.SpaceEntry.{SpaceEntry}
use Rattle.fk_scenario.specs.declared.entries.types.ObjectEntry.{ObjectEntry}
use Rattle.fk_scenario.specs.declared.entries.types.Spec.{Spec}
use Rattle.fk_scenario.specs.declared.entries.types.Spec.TheVariants as specs
use Rattle.fk_scenario.specs.Entries.Kept.{IsSpecInRange}
use Rattle.fk_scenario.specs.Fields.Paths.{enclosing}
use Rattle.fk_scenario.specs.Sections.Kept.{EachAfter, KeepsObject}
use Rattle.fk_scenario.specs.Scenario.Servers.{has_key}
use Rattle.fk_boot.specs.FirstWorld.{first_body, object_changes}
use Rattle.fk_boot.specs.MadeSoFar.{HasObjects}
use Rattle.fk_boot.proofs.MadeSoFar.{object-stands, object-place}
use Rattle.fk_boot.proofs.Walks.{last}
use Rattle.fk_boot.proofs.validity.Pages.{safe-append, place-vacant}

-- ---- what an object is at first

plain-first : (served : Bool) (spec : Spec) → is_plain (first_body served spec) ≡ true
plain-first served (specs.Thread entry regs stops) = refl
plain-first served (specs.Mutex locked) = refl
plain-first served specs.Cond = refl
plain-first served specs.Portset = refl
plain-first served (specs.Mapping region first count offset write) = refl
plain-first served (specs.Region first count write keeper) = refl
plain-first served (specs.Port set) = refl
plain-first served (specs.Reference to) = refl

window-sized : (first count : ℕ) → 1 ≤ count → first + count ≤ 256 → is_page_range first count ≡ true
window-sized first count some most =
    rw (le-leb 1 count some, le-leb count 256 (omega (arith, most)), le-leb (first + count) 256 most) refl

good-first : (w : World) (x : Path) (served : Bool) (spec : Spec) → IsSpecInRange spec → is_good (kind_there w) x (first_body served spec) ≡ true
good-first w x served (specs.Thread entry regs stops) range = refl
good-first w x served (specs.Mutex locked) range = refl
good-first w x served specs.Cond range = refl
good-first w x served specs.Portset range = refl
good-first w x served (specs.Mapping region first count offset write) range =
    let low = range.2 in
    rw (window-sized first count range.0 range.1, lt-ltb offset 256 (omega (arith, low))) refl
good-first w x served (specs.Region first count write keeper) range = rw (window-sized first count range.0 range.1) refl
good-first w x served (specs.Port set) range = refl
good-first w x served (specs.Reference to) range = refl

-- what edits leave of the object at a path
abbrev pub outline_at : World → Path → Option Outline
outline_at w x = option_map outline_of (w.body x)

-- the ports of these servers are served
module _ (ports : List (List ℕ)) where
  object-safe : (spaces : List SpaceEntry) (done : List ObjectEntry) (o : ObjectEntry) (w : World) →
      HasObjects w spaces done → KeepsObject spaces done o → AreSafe w (object_changes ports o)
  object-safe spaces done o w h keeps =
      let ends = last o.path keeps.inside in
      rw ends (
        record {
          place = place-vacant w o.path keeps.inside keeps.slots (object-place spaces done o w h keeps);
          plain = plain-first (has_key ports o.path) o.spec;
          good = good-first w (get_or o.path (length o.path - 1) 0 ∷ reverse (enclosing o.path)) (has_key ports o.path) o.spec keeps.in_range;
        },
        tt,
      )

  -- ---- outlines

  -- an object of a scenario stands as it was made, but for where it leads
  abbrev pub IsAsMade : (Path → Option Outline) → ObjectEntry → Type 0
  IsAsMade there o = there (reverse o.path) ≡ Some (outline_of (first_body (has_key ports o.path) o.spec))

  made-still : (w : World) (x : Path) (b : Body) (o : ObjectEntry) → w.body x ≡ None → IsAsMade (outline_at w) o
      → IsAsMade (outline_at (apply (Make x b) w)) o
  unfolding apply
  made-still w x b o empty is = by (same_path (reverse o.path) x) refl
    where
      by : (t : Bool) → same_path (reverse o.path) x ≡ t
          → option_map outline_of (if t then Some b else w.body (reverse o.path)) ≡ Some (outline_of (first_body (has_key ports o.path) o.spec))
      by true e =
          let here : reverse o.path ≡ x = same_path_eq (reverse o.path) x e in
          let none : option_map outline_of (w.body (reverse o.path)) ≡ None = rw (here, empty) refl in
          absurd (cc)
      by false e = is

  all-still : (w : World) (x : Path) (b : Body) (os : List ObjectEntry) → w.body x ≡ None → All (IsAsMade (outline_at w)) os
      → All (IsAsMade (outline_at (apply (Make x b) w))) os
  all-still w x b [] empty all = All-nil (IsAsMade (outline_at (apply (Make x b) w)))
  all-still w x b (o ∷ os) empty all =
      All-cons (IsAsMade (outline_at (apply (Make x b) w))) o os (made-still w x b o empty (All-head (IsAsMade (outline_at w)) o os all))
      (all-still w x b os empty (All-tail (IsAsMade (outline_at w)) o os all))

  -- the new one is as it was made
  made-itself : (w : World) (o : ObjectEntry) → IsAsMade (outline_at (apply (Make (reverse o.path) (first_body (has_key ports o.path) o.spec)) w)) o
  unfolding apply
  made-itself w o = rw (same_path_refl (reverse o.path)) refl

  -- ---- all objects

  -- what is known once objects are made
  pub record Made (w : World) (spaces : List SpaceEntry) (objects : List ObjectEntry) : Type 0 where
    pub stands : HasObjects w spaces objects
    pub as_made : All (IsAsMade (outline_at w)) objects

  next-made : (spaces : List SpaceEntry) (done : List ObjectEntry) (o : ObjectEntry) (w : World) →
      Made w spaces done → KeepsObject spaces done o → Made (apply_all (object_changes ports o) w) spaces (done ++ o ∷ [])
  unfolding apply_all
  next-made spaces done o w made keeps =
      let empty = (object-place spaces done o w made.stands keeps).empty in
      let v = apply (Make (reverse o.path) (first_body (has_key ports o.path) o.spec)) w in
      record {
        stands = object-stands ports spaces done o w made.stands keeps;
        as_made = All-push (IsAsMade (outline_at v)) done o (all-still w (reverse o.path)
            (first_body (has_key ports o.path) o.spec) done empty made.as_made) (made-itself w o);
      }

  pub objects-safe : (spaces : List SpaceEntry) (done os : List ObjectEntry) (w : World) →
      Made w spaces done → EachAfter (KeepsObject spaces) done os
      → AreSafe w (flat_map (object_changes ports) os) × Made (apply_all (flat_map (object_changes ports) os) w) spaces (done ++ os)
  unfolding apply_all
  objects-safe spaces done [] w made each = (tt, rw append-nil made)
  objects-safe spaces done (o ∷ os) w made each =
      let rest = objects-safe spaces (done ++ o ∷ []) os (apply_all (object_changes ports o) w) (next-made spaces done o w made each.0) each.1 in (
        safe-append (object_changes ports o) (flat_map (object_changes ports) os) w (object-safe spaces done o w made.stands each.0) rest.0,
        subst (λ (all : List ObjectEntry). Made (apply_all (flat_map (object_changes ports) (o ∷ os)) w) spaces all) (append_assoc done (o ∷ []) os) rest.1,
      )
