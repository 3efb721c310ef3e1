-- Renamed: when the freezing rule lets an object get another slot, and the stage of who renames it be done.
use Rattle.std.proofs.Common.{◌≡◌, ◌↔◌, ℕ, Bool, true, false, List, [], ◌∷◌, cond, refl, ap, subst}
use Rattle.fk_model.specs.declared.names.Who.{Who}
use Rattle.fk_model.specs.Freezing.{MayAlter, MayMove}
use Rattle.fk_model.specs.Holds.{is_frozen, holder_of}
use Rattle.fk_model.specs.Moves.{closed, GoesAllowed}
use Rattle.fk_model.specs.ObjectRows.{renamed}
use Rattle.fk_model.specs.Outcomes as outcomes
use Rattle.fk_model.specs.Places.{Path, same_path, parent}
use Rattle.fk_model.specs.World.Edit.{Finish}
use Rattle.fk_store.specs.Store.Contents.{Contents}
use Rattle.fk_store.specs.Store.Paths.{path, place}
use Rattle.fk_store.specs.Store.Threads.{is_free_at}
use Rattle.fk_store.specs.Store.World.{world}
use Rattle.fk_store.proofs.InStore.finding.Freedom.{free_itself, free_space, unfrozen_object, may_alter, IsPlain}
use Rattle.fk_store.proofs.InStore.finding.Walks.{same_path_true}
use Rattle.fk_changes.specs.declared.readers.caller.Caller.{Caller}
use Rattle.fk_plans.specs.Plans.Plans.{caller_by}
use Rattle.fk_plans.specs.Plans.Renames.{renames, IsMoving}

finishes_plainly : IsPlain (Finish [])
finishes_plainly = record { changed = λ b. refl; made = refl }

module _ (m : Contents) (c : Caller) (words : List ℕ) (free : c.is_porter ≡ false → is_free_at (world m) (place (path m) c.who) ≡ true)
    (object : Who) (slot : ℕ) (fits : IsMoving m object slot) where
  abbrev me : Path
  me = place (path m) c.who

  abbrev x : Path
  x = place (path m) object

  abbrev y : Path
  y = slot ∷ path m object.space

  abbrev caller : outcomes.Caller
  caller = caller_by (path m) c words

  -- the caller's own part, in its slot afterwards
  own_done : c.is_porter ≡ false → MayAlter (world m) me (renamed x y me) (Finish [])
  own_done user = by (same_path me x) refl
    where
      by : (b : Bool) → same_path me x ≡ b → MayAlter (world m) me (cond b y me) (Finish [])
      by true e =
          let same : path m c.who.space ≡ path m object.space = ap parent (same_path_true me x e) in
          let unfrozen : is_frozen (world m) (path m object.space) ≡ false = subst (λ s. is_frozen (world m) s ≡ false)
          same (free_space (world m) c.who.slot (path m c.who.space) (free user)) in
          may_alter (world m) me y (Finish []) finishes_plainly
          (unfrozen_object (world m) me slot (path m object.space) unfrozen (ap holder_of fits.2))
      by false e = may_alter (world m) me me (Finish []) finishes_plainly (free_itself (world m) c.who.slot (path m c.who.space) (free user))

  pub renames_iff : MayMove (world m) me x ↔ GoesAllowed (world m) me (closed caller (renames caller x slot))
  renames_iff = by c.is_porter refl
    where
      by : (b : Bool) → c.is_porter ≡ b →
          MayMove (world m) me x ↔ GoesAllowed (world m) me (closed (record caller { is_porter = b }) (renames (record caller { is_porter = b }) x slot))
      by true e = ((λ h. (h, tt)), (λ h. h.0))
      by false e = ((λ h. (h, (own_done e, tt))), (λ h. h.0))
