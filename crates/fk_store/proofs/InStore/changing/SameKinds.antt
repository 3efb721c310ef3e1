-- Kinds: a body of the kind of what stands under its name, and of its path if it is a space, has its birth number.
use Rattle.std.proofs.Common.{◌≡◌, ℕ, Bool, true, false, Option, Some, None, option_map, refl, sym, ap, ◌∙◌, arith}
use Rattle.std.specs.FinMap.{get}
use Rattle.fk_model.specs.declared.names.Kind.{Kind}
use Rattle.fk_model.specs.declared.names.Kind.TheVariants as kinds
use Rattle.fk_model.specs.declared.names.Who.{Who}
use Rattle.fk_model.specs.declared.body.Body.{Body}
use Rattle.fk_model.specs.declared.body.Body.TheVariants.{Mutex, Cond, Mapping, Region, Port, Portset, Space, Thread, Reference}
use Rattle.fk_model.specs.Places.{Path, slot_of}
use Rattle.fk_model.specs.Objects.{kind_of}
use Rattle.fk_model.specs.Valid.{kind_there}
use Rattle.fk_store.specs.Store.Contents.{Contents, stored_birth, birth_there, is_live}
use Rattle.fk_store.specs.Store.Paths.{place, path, space_at, IsAtHome}
use Rattle.fk_store.specs.Store.Bodies.{body_by}
use Rattle.fk_store.specs.Store.World.{world}
use Rattle.fk_store.specs.Store.WellFormed.{IsWellFormed}
use Rattle.fk_store.proofs.InStore.finding.Walks.{space_at-path, path-home, path-lost, live-home, there-birth}
use Rattle.fk_store.proofs.InStore.finding.LookUps.{body-place}

no_birth : (p : ℕ → Path) (b : Body) → (kind_of (body_by p b) ≡ kinds.Space → ⊥) → stored_birth b ≡ None
no_birth p (Mutex locked) h = refl
no_birth p Cond h = refl
no_birth p (Mapping first count offset write region) h = refl
no_birth p (Region first count write keeper) h = refl
no_birth p (Port set served) h = refl
no_birth p Portset h = refl
no_birth p (Space birth holder) h = absurd (h refl)
no_birth p (Thread thread) h = refl
no_birth p (Reference to) h = refl

some_birth : (p : ℕ → Path) (b : Body) → kind_of (body_by p b) ≡ kinds.Space → (n : ℕ) × (stored_birth b ≡ Some n)
some_birth p (Mutex locked) h = absurd (cc)
some_birth p Cond h = absurd (cc)
some_birth p (Mapping first count offset write region) h = absurd (cc)
some_birth p (Region first count write keeper) h = absurd (cc)
some_birth p (Port set served) h = absurd (cc)
some_birth p Portset h = absurd (cc)
some_birth p (Space birth holder) h = (birth, refl)
some_birth p (Thread thread) h = absurd (cc)
some_birth p (Reference to) h = absurd (cc)

module _ (m : Contents) (kept : IsWellFormed m) (who : Who) where
  -- what has a kind is there
  pub kind-there : (k : Kind) →
      kind_there (world m) (place (path m) who) ≡ Some k → (old : Body) × (get m.bodies who ≡ Some old) × (kind_of (body_by (path m) old) ≡ k)
  unfolding kind_there
  kind-there k h = by (get m.bodies who) refl
    where
      by : (o : Option Body) → get m.bodies who ≡ o → (old : Body) × (get m.bodies who ≡ Some old) × (kind_of (body_by (path m) old) ≡ k)
      by None e = let found = body-place m kept who in
          let none : (world m).body (place (path m) who) ≡ None = found ∙ ap (option_map (body_by (path m))) e in absurd (cc)
      by (Some old) e = let found = body-place m kept who in
          let some : (world m).body (place (path m) who) ≡ Some (body_by (path m) old) = found ∙ ap (option_map (body_by (path m))) e in
          (old, e, let kind : Some (kind_of (body_by (path m) old)) ≡ Some k = sym (ap (option_map kind_of) some) ∙ h in cc)

  -- the space with a birth number stands under the name at its path
  pub at-home : (n q : ℕ) → birth_there m who ≡ Some q → path m n ≡ place (path m) who → n ≡ q
  at-home n q there home = by (is_live m n) refl
    where
      up : path m q ≡ place (path m) who
      up = path-home m kept q who (kept.alone who q there)

      by : (b : Bool) → is_live m n ≡ b → n ≡ q
      by true live =
          let here : space_at m (path m n) ≡ Some n = space_at-path m kept n live in
          let other : space_at m (path m q) ≡ Some q = space_at-path m kept q (live-home m kept q who (kept.alone who q there)) in
          let same : space_at m (path m n) ≡ space_at m (path m q) = ap (space_at m) (home ∙ sym up) in
          cc
      by false lost =
          let slot : 256 ≡ who.slot = ap slot_of (sym (path-lost m kept n lost) ∙ home) in
          let low = kept.slots who (there-birth m kept who q there) in
          absurd (omega arith)

  pub same-birth : (old b : Body) →
      get m.bodies who ≡ Some old → kind_of (body_by (path m) old) ≡ kind_of (body_by (path m) b) → IsAtHome (path m) who b → stored_birth b ≡ stored_birth old
  same-birth old (Mutex locked) there kind home = sym (no_birth (path m) old (λ e. absurd (cc)))
  same-birth old Cond there kind home = sym (no_birth (path m) old (λ e. absurd (cc)))
  same-birth old (Mapping first count offset write region) there kind home = sym (no_birth (path m) old (λ e. absurd (cc)))
  same-birth old (Region first count write keeper) there kind home = sym (no_birth (path m) old (λ e. absurd (cc)))
  same-birth old (Port set served) there kind home = sym (no_birth (path m) old (λ e. absurd (cc)))
  same-birth old Portset there kind home = sym (no_birth (path m) old (λ e. absurd (cc)))
  same-birth old (Space birth holder) there kind home =
      let number = some_birth (path m) old kind in
      rw number.1 (ap Some (at-home birth number.0 (rw there number.1) home))
  same-birth old (Thread thread) there kind home = sym (no_birth (path m) old (λ e. absurd (cc)))
  same-birth old (Reference to) there kind home = sym (no_birth (path m) old (λ e. absurd (cc)))
