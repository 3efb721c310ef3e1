-- Objects that bar a pager, by their names; and objects of the root.
use Rattle.std.proofs.Common.{◌≡◌, ℕ, Bool, true, false, not, ◌&&◌, ◌==◌, nat_eq, is_some, IsSome, IfSome, IfNone, ◌∷◌, Option, Some, None, option_map, refl, sym, ap, subst, ◌∙◌, eqb-true, eq-eqb, Bor}
use Rattle.std.specs.Option.{option_copied}
use Rattle.fk_model.specs.declared.body.Body as bodies_of
use Rattle.fk_model.specs.declared.body.Body.TheVariants as bodies
use Rattle.fk_model.specs.declared.names.Ptr.{Ptr as StoredPtr}
use Rattle.fk_model.specs.declared.names.Ptr.TheVariants as pointers
use Rattle.fk_model.specs.declared.names.Who.{Who}
use Rattle.fk_model.specs.Objects.{Body, space_of, and_then}
use Rattle.fk_model.specs.Objects.Body.{Space}
use Rattle.fk_model.specs.Places.{same_path}
use Rattle.fk_model.specs.Valid.{birth_of, birth_at}
use Rattle.fk_store.specs.Store.Contents.{Contents}
use Rattle.fk_store.specs.Store.Named.{OnNamed}
use Rattle.fk_store.specs.Store.Paths.{path, place, path_by, HasOwnPath}
use Rattle.fk_store.specs.Store.World.{world, body_of, place_of, IsLive, IsSpace}
use Rattle.fk_store.proofs.InStore.finding.Walks.{path-root, same_path_refl, same_path_true}
use Rattle.fk_pager.specs.Desks.{root}
use Rattle.fk_pager.specs.Seen.{is_set, is_hindrance}
use Rattle.fk_pager.proofs.Searching.{root-place}

pub any-none : {A : Type 0} (o : Option A) (P : Type 0) → P → IfNone o P
any-none None P p = p
any-none (Some a) P p = tt

-- what is there is found
pub found-some : {A : Type 0} (f : bodies_of.Body → A) (there : Option A) (found : Option (Bor bodies_of.Body)) →
    there ≡ option_map f (option_copied found) → IsSome there → IsSome found
found-some f there found is some = by found (ap is_some (sym is) ∙ some)
  where
    by : (o : Option (Bor bodies_of.Body)) → is_some (option_map f (option_copied o)) ≡ true → is_some o ≡ true
    by None h = h
    by (Some b) h = refl

-- ---- spaces by their birth numbers

pub root-space : (m : Contents) → IsSpace m 0
unfolding world path path_by
root-space m = refl

pub spaces-by-birth : (m : Contents) (a b : ℕ) → IsSpace m a → IsSpace m b → same_path (path m a) (path m b) ≡ (a == b)
spaces-by-birth m a b there other = by (a == b) refl (same_path (path m a) (path m b)) refl
  where
    by : (n : Bool) → (a == b) ≡ n → (p : Bool) → same_path (path m a) (path m b) ≡ p → p ≡ n
    by true e true f = refl
    by false e false f = refl
    by true e false f =
        let number = eqb-true a b e in
        let same : path m a ≡ path m b = ap (path m) number in
        let no : same_path (path m b) (path m b) ≡ false = subst (λ x. same_path x (path m b) ≡ false) same f in
        let is = same_path_refl (path m b) in
        absurd (cc)
    by false e true f =
        let same = same_path_true (path m a) (path m b) f in
        let found : birth_at (world m) (path m b) ≡ Some a = subst (λ x. birth_at (world m) x ≡ Some a) same there in
        let numbers : Some a ≡ Some b = sym found ∙ other in
        let number : a ≡ b = cc in
        let test = eq-eqb a b number in
        absurd (cc)

pub at-the-root : (m : Contents) (a : ℕ) → IsSpace m a → same_path (path m a) root ≡ (a == 0)
at-the-root m a there = ap (same_path (path m a)) (sym (path-root m)) ∙ spaces-by-birth m a 0 there (root-space m)

-- ---- who bars a pager

module _ (m : Contents) (space port set : ℕ) (who : Who) where
  abbrev Bars : Bool → Type 0
  Bars b = b ≡ is_hindrance (path m space) port set (path m who.space) who.slot ((world m).body (place_of m who))

  bars-by : (o : Option Body) (b : Bool) → (world m).body (place_of m who) ≡ o →
      b ≡ is_hindrance (path m space) port set (path m who.space) who.slot o → Bars b
  bars-by o b e is = is ∙ ap (is_hindrance (path m space) port set (path m who.space) who.slot) (sym e)

  module _ (b : bodies_of.Body) (there : (world m).body (place_of m who) ≡ Some (body_of m b)) where
    known : (c : bodies_of.Body) → b ≡ c → (world m).body (place_of m who) ≡ Some (body_of m c)
    known c is = there ∙ ap (λ (x : bodies_of.Body). Some (body_of m x)) is

    pub mapping-bars : (first count offset : ℕ) (write : Bool) (region : StoredPtr) → b ≡ bodies.Mapping first count offset write region →
        IsSpace m space → IsSpace m who.space → Bars (nat_eq who.space space)
    mapping-bars first count offset write region is base here =
        bars-by (Some (body_of m (bodies.Mapping first count offset write region))) (nat_eq who.space space) (known _ is)
        (sym (spaces-by-birth m who.space space here base))

    pub port-bars : (its : Option ℕ) (served : Bool) → b ≡ bodies.Port its served → IsSpace m who.space →
        Bars (nat_eq who.space 0 && is_set set its && not (nat_eq who.slot port))
    port-bars its served is here =
        bars-by (Some (body_of m (bodies.Port its served))) _ (known _ is)
        (ap (λ (top : Bool). top && is_set set its && not (who.slot == port)) (sym (at-the-root m who.space here)))

    pub region-bars : (first count : ℕ) (write : Bool) (to : StoredPtr) (keeper : Who) → b ≡ bodies.Region first count write to → to ≡ pointers.At keeper →
        IsSpace m space → IsSpace m who.space → HasOwnPath (path m) keeper →
        Bars (not (nat_eq who.space space) && (nat_eq keeper.space 0 && nat_eq keeper.slot port))
    region-bars first count write to keeper is leads base here apart =
        bars-by (Some (body_of m (bodies.Region first count write (pointers.At keeper)))) _ (known _ (is ∙ ap (bodies.Region first count write) leads))
        (outside ∙ at-port)
      where
        outside : (not (who.space == space) && (keeper.space == 0 && keeper.slot == port))
            ≡ (not (same_path (path m who.space) (path m space)) && (keeper.space == 0 && keeper.slot == port))
        outside = ap (λ (other : Bool). not other && (keeper.space == 0 && keeper.slot == port)) (sym (spaces-by-birth m who.space space here base))

        at-port : (not (same_path (path m who.space) (path m space)) && (keeper.space == 0 && keeper.slot == port))
            ≡ (not (same_path (path m who.space) (path m space)) && same_path (place_of m keeper) (port ∷ root))
        at-port = ap (λ (ours : Bool). not (same_path (path m who.space) (path m space)) && ours)
            (sym (apart (record { space = 0; slot = port })).1 ∙ ap (same_path (place_of m keeper)) (root-place m port))

-- the keeper of a region is there
pub keeper-there : (m : Contents) (b : bodies_of.Body) (first count : ℕ) (write : Bool) (to : StoredPtr) (keeper : Who) →
    b ≡ bodies.Region first count write to → to ≡ pointers.At keeper → OnNamed (IsLive m) b → IsLive m keeper
keeper-there m b first count write to keeper is leads named =
    subst (OnNamed (IsLive m)) (is ∙ ap (bodies.Region first count write) leads) named

-- ---- the space in a slot of the root

pub stands-there : (m : Contents) (slot : ℕ) (found : Option ℕ) → birth_at (world m) (slot ∷ root) ≡ found →
    IfSome found (λ birth. path m birth ≡ slot ∷ root) → IfSome found (IsSpace m)
stands-there m slot None is home = tt
stands-there m slot (Some birth) is home = ap (birth_at (world m)) home ∙ is

pub root-home : (m : Contents) (slot : ℕ) (found : Option ℕ) → IfSome found (λ birth. path m birth ≡ place (path m) (record { space = 0; slot = slot })) →
    IfSome found (λ birth. path m birth ≡ slot ∷ root)
root-home m slot None home = tt
root-home m slot (Some birth) home = home ∙ root-place m slot

-- who has a birth number is a space
pub born-space : (o : Option Body) → is_some (and_then birth_of o) ≡ is_some (and_then space_of o)
born-space None = refl
born-space (Some (Space birth holder)) = refl
born-space (Some b) = refl
