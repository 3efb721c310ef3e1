-- What is near: inside the new space, or scratch.
use Rattle.std.proofs.Common.{◌≡◌, ℕ, Bool, true, false, ◌||◌, List, [], ◌∷◌, ◌++◌, map, refl}
use Rattle.fk_model.specs.declared.names.Kind.{Kind}
use Rattle.fk_model.specs.declared.names.Kind.TheVariants as kinds
use Rattle.fk_model.specs.Places.{Path, is_within}
use Rattle.fk_model.specs.Objects.{Body}
use Rattle.fk_model.specs.Objects.Body.{Mutex, Cond, Mapping, Region, Port, Portset, Space, Thread_of, Reference}
use Rattle.fk_model.specs.Records.{set_edits}
use Rattle.fk_model.specs.World.Change.{Alter}
use Rattle.fk_model.specs.ObjectRows.{is_scratch}
use Rattle.fk_model.proofs.walks.PlaceLaws.{strip-append}
use Rattle.laws_jobs.specs.Calls.{fresh}
use Rattle.laws_restore.specs.Sites.Near.{is_near, IsNearChange, AreNear}

module _ (nester : Path) (slot : ℕ) where
  abbrev root : Path
  root = slot ∷ nester

  either_near : (a b : Bool) → b ≡ true → (a || b) ≡ true
  either_near true b h = refl
  either_near false b h = h

  pub inside_near : (q : Path) → is_near nester slot (q ++ root) ≡ true
  inside_near q = rw (strip-append root q) refl

  pub scratch_near : (r : ℕ) → is_scratch nester (r ∷ nester) ≡ true → is_near nester slot (r ∷ nester) ≡ true
  scratch_near r is = either_near (is_within root (r ∷ nester)) (is_scratch nester (r ∷ nester)) is

  -- the edits that set a record
  pub edits_near : (x : ℕ) (q : Path) (b : Body) (words : List ℕ) → AreNear nester slot (map (Alter (x ∷ (q ++ root))) (set_edits b words))
  edits_near x q (Mutex locked) words = ((inside_near (x ∷ q), tt), tt)
  edits_near x q Cond words = tt
  edits_near x q (Mapping m) words = ((inside_near (x ∷ q), tt), tt)
  edits_near x q (Region r) words = ((inside_near (x ∷ q), tt), tt)
  edits_near x q (Port set served) words = ((inside_near (x ∷ q), tt), tt)
  edits_near x q Portset words = tt
  edits_near x q (Space birth holder) words = tt
  edits_near x q (Thread_of t) words = ((inside_near (x ∷ q), tt), ((inside_near (x ∷ q), tt), tt))
  edits_near x q (Reference to) words = tt

  pub fresh_near : (x : ℕ) (q : Path) (kind : Kind) → IsNearChange nester slot (fresh (x ∷ (q ++ root)) kind)
  fresh_near x q kinds.Mutex = (inside_near (x ∷ q), tt)
  fresh_near x q kinds.Cond = (inside_near (x ∷ q), tt)
  fresh_near x q kinds.Mapping = (inside_near (x ∷ q), tt)
  fresh_near x q kinds.Region = (inside_near (x ∷ q), tt)
  fresh_near x q kinds.Port = (inside_near (x ∷ q), tt)
  fresh_near x q kinds.Portset = (inside_near (x ∷ q), tt)
  fresh_near x q kinds.Space = inside_near (x ∷ q)
  fresh_near x q kinds.Thread = (inside_near (x ∷ q), refl)
  fresh_near x q kinds.Reference = (inside_near (x ∷ q), tt)

  pub page_near : (q : Path) → is_within root (q ++ root) ≡ true
  page_near q = rw (strip-append root q) refl
