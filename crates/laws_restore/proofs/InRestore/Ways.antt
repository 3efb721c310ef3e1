-- Orders that may be given one after another, and the ways of scratch references.
use Rattle.std.proofs.Common.{◌≡◌, ℕ, Bool, true, false, eqb, IsSome, List, [], ◌∷◌, ◌++◌, Option, Some, None, option_map, refl, sym, ap, subst, eq-eqb, ◌∙◌}
use Rattle.std.specs.List.{list_any}
use Rattle.fk_model.specs.declared.names.Kind.TheVariants as kinds
use Rattle.fk_model.specs.Places.{Path, strip}
use Rattle.fk_model.specs.Places.Ptr.{At}
use Rattle.fk_model.specs.Objects.{Body, kind_of, same_kind}
use Rattle.fk_model.specs.Objects.Body.{Mutex, Cond, Mapping, Region, Port, Portset, Space, Thread_of, Reference}
use Rattle.fk_model.specs.World.{World}
use Rattle.fk_model.specs.StateRows.{referable}
use Rattle.fk_model.proofs.walks.PlaceLaws.{strip_some}
use Rattle.laws_restore.specs.Sites.Orders.{Site, Order, does, does_all, May, MayAll, is_space, is_ref_slot, Named, IsPlace}
use Rattle.laws_restore.specs.Sites.Orders.Spot.{To}
use Rattle.laws_restore.specs.Sites.Orders.Named.{ByRoot, ByScratch}
use Rattle.laws_restore.specs.Sites.Orders.Order.{Leads, LeadsTop, Pins, Takes, Checks}
use Rattle.laws_restore.specs.Sites.Owed.{Suits, SuitsAll}
use Rattle.laws_restore.specs.Restore.Fits.{there, is_referable, IsWay}
use Rattle.laws_restore.specs.Restore.Script.{P, down, root_down, from_root, goes_by, goes_to, leads_by, leads_to_at}

-- ---- runs of orders

does_append : (os ps : List Order) (g : Site) → does_all (os ++ ps) g ≡ does_all ps (does_all os g)
unfolding does_all
does_append [] ps g = refl
does_append (o ∷ os) ps g = does_append os ps (does o g)

may_append : (slot : ℕ) (os ps : List Order) (g : Site) → MayAll slot os g → MayAll slot ps (does_all os g) → MayAll slot (os ++ ps) g
unfolding does_all
may_append slot [] ps g first then = then
may_append slot (o ∷ os) ps g first then = (first.0, may_append slot os ps (does o g) first.1 then)

pub space_kind : (o : Option Body) → option_map kind_of o ≡ Some kinds.Space → is_space o ≡ true
space_kind (Some (Space birth holder)) h = refl
space_kind (Some (Mutex locked)) h = cc
space_kind (Some Cond) h = cc
space_kind (Some (Mapping m)) h = cc
space_kind (Some (Region r)) h = cc
space_kind (Some (Port set served)) h = cc
space_kind (Some Portset) h = cc
space_kind (Some (Thread_of t)) h = cc
space_kind (Some (Reference to)) h = cc
space_kind None h = cc

record IsObject (c : World) (y : Path) : Type 0 where
  pub body : Body
  pub there : c.body y ≡ Some body
  pub leads : list_any (same_kind (kind_of body)) referable ≡ true

object_of : (c : World) (y : Path) (o : Option Body) → c.body y ≡ o → is_referable (option_map kind_of o) ≡ true → IsObject c y
object_of c y None e h = cc
object_of c y (Some b) e h = record { body = b; there = e; leads = h }

suits_append : (os ps : List Order) (g : Site) → SuitsAll os g → SuitsAll ps (does_all os g) → SuitsAll (os ++ ps) g
unfolding does_all
suits_append [] ps g first then = then
suits_append (o ∷ os) ps g first then = (first.0, suits_append os ps (does o g) first.1 then)

-- ---- a port is looked for by three orders, one after another

abbrev pub is_look : Order → Bool
is_look (Pins i) = true
is_look (Takes r) = true
is_look (Checks r i) = true
is_look other = false

pub data Grouped : List Order → Type 0 where
  NoMore : Grouped []
  Other : (o : Order) (os : List Order) → is_look o ≡ false → Grouped os → Grouped (o ∷ os)
  Look : (r j : ℕ) (os : List Order) → Grouped os → Grouped (Pins j ∷ Takes r ∷ Checks r j ∷ os)

grouped_append : (os ps : List Order) → Grouped os → Grouped ps → Grouped (os ++ ps)
grouped_append _ ps NoMore then = then
grouped_append _ ps (Other o os off first) then = Other o (os ++ ps) off (grouped_append os ps first then)
grouped_append _ ps (Look r j os first) then = Look r j (os ++ ps) (grouped_append os ps first then)

-- what is to hold of each site at which a port is asked for in a slot of the nester
module _ (Safe : ℕ → Site → Type 0) where
  abbrev pub SafeAt : Order → Site → Type 0
  SafeAt (Pins i) g = Safe i g
  SafeAt (Checks r i) g = Safe i g
  SafeAt other g = Unit {0}

  safe_else : (o : Order) (g : Site) → is_look o ≡ false → SafeAt o g
  safe_else (Pins i) g off = cc
  safe_else (Checks r i) g off = cc
  safe_else o g off = tt

  abbrev pub SafeAll : List Order → Site → Type 0
  SafeAll [] g = Unit {0}
  SafeAll (o ∷ os) g = SafeAt o g × SafeAll os (does o g)

  safe_append : (os ps : List Order) (g : Site) → SafeAll os g → SafeAll ps (does_all os g) → SafeAll (os ++ ps) g
  unfolding does_all
  safe_append [] ps g first then = then
  safe_append (o ∷ os) ps g first then = (first.0, safe_append os ps (does o g) first.1 then)

module _ (slot : ℕ) (Safe : ℕ → Site → Type 0) where
  pub record Runs (g h : Site) (os : List Order) : Type 0 where
    pub may : MayAll slot os g
    pub suits : SuitsAll os g
    pub safe : SafeAll Safe os g
    pub grouped : Grouped os
    pub end : does_all os g ≡ h

  pub none : (g : Site) → Runs g g []
  unfolding does_all
  none g = record { may = tt; suits = tt; safe = tt; grouped = NoMore; end = refl }

  pub one : (g : Site) (o : Order) → May slot o g → Suits g o → is_look o ≡ false → Runs g (does o g) (o ∷ [])
  unfolding does_all
  one g o may suits off = record { may = (may, tt); suits = (suits, tt); safe = (safe_else Safe o g off, tt); grouped = Other o [] off NoMore; end = refl }

  pub on : (g h k : Site) (os ps : List Order) → Runs g h os → Runs h k ps → Runs g k (os ++ ps)
  on g h k os ps first second = record {
    may = may_append slot os ps g first.may (subst (λ (s : Site). MayAll slot ps s) (sym first.end) second.may);
    suits = suits_append os ps g first.suits (subst (λ (s : Site). SuitsAll ps s) (sym first.end) second.suits);
    safe = safe_append Safe os ps g first.safe (subst (λ (s : Site). SafeAll Safe ps s) (sym first.end) second.safe);
    grouped = grouped_append os ps first.grouped second.grouped;
    end = does_append os ps g ∙ ap (does_all ps) first.end ∙ second.end;
  }

  -- ---- ways

  -- a scratch reference has come somewhere, and all else is as it was
  pub record Walked (g : Site) (r : ℕ) (z : Path) (os : List Order) : Type 0 where
    pub site : Site
    pub runs : Runs g site os
    pub built : site.built ≡ g.built
    pub pin : site.pin ≡ g.pin
    pub at : site.spot r ≡ Some (To (At z))
    pub others : (k : ℕ) → eqb k r ≡ false → site.spot k ≡ g.spot k

  pub top : (g : Site) (r : ℕ) → is_ref_slot r ≡ true → IsSome (g.spot r) → Walked g r [] (LeadsTop r ∷ [])
  top g r is ready = record {
    site = does (LeadsTop r) g;
    runs = one g (LeadsTop r) (is, ready) tt refl;
    built = refl;
    pin = refl;
    at = rw (eq-eqb r r refl) refl;
    others = λ k off. rw off refl;
  }

  -- one step down, from a space that is named
  first_step : (g : Site) (r s k : ℕ) (q : Path) → is_ref_slot r ≡ true → IsSome (g.spot r) → Named g slot s q → IsWay (there g.built) (k ∷ q)
      → Walked g r (k ∷ q) (Leads r s q k ∷ [])
  first_step g r s k q is ready named way =
      let object = object_of g.built (k ∷ q) (g.built.body (k ∷ q)) refl way.0 in
      let place : IsPlace g slot s q = record { named = named; space = space_kind (g.built.body q) way.2 } in
      record {
        site = does (Leads r s q k) g;
        runs = one g (Leads r s q k) (record {
          scratch = is;
          ready = ready;
          place = place;
          low = way.1;
          object = object.body;
          there = object.there;
          leads = object.leads;
        }) tt refl;
        built = refl;
        pin = refl;
        at = rw (eq-eqb r r refl) refl;
        others = λ k off. rw off refl;
      }

  deeper : (g : Site) (r k : ℕ) (q : Path) (os : List Order) → is_ref_slot r ≡ true → Walked g r q os → IsWay (there g.built) (k ∷ q)
      → Walked g r (k ∷ q) (os ++ Leads r r q k ∷ [])
  deeper g r k q os is up way =
      let next = first_step up.site r r k q is (rw up.at refl) (ByScratch r q is up.at) (subst (λ (c : World). IsWay (there c) (k ∷ q)) (sym up.built) way) in
      record {
        site = next.site;
        runs = on g up.site next.site os (Leads r r q k ∷ []) up.runs next.runs;
        built = next.built ∙ up.built;
        pin = next.pin ∙ up.pin;
        at = next.at;
        others = λ j off. next.others j off ∙ up.others j off;
      }

  pub downs : (g : Site) (r s : ℕ) (q : Path) (k : ℕ) (w : Path) → is_ref_slot r ≡ true → IsSome (g.spot r) → Named g slot s q
      → IsWay (there g.built) ((k ∷ w) ++ q) → Walked g r ((k ∷ w) ++ q) (down r s q (k ∷ w))
  unfolding down
  downs g r s q k [] is ready named way = first_step g r s k q is ready named way
  downs g r s q k (j ∷ w) is ready named way = deeper g r k ((j ∷ w) ++ q) (down r s q (j ∷ w)) is (downs g r s q j w is ready named way.3) way

  pub root_downs : (g : Site) (r k : ℕ) (z : Path) → is_ref_slot r ≡ true → IsSome (g.spot r) → IsWay (there g.built) (k ∷ z)
      → Walked g r (k ∷ z) (root_down slot r (k ∷ z))
  unfolding root_down
  root_downs g r k [] is ready way = first_step g r slot k [] is ready ByRoot way
  root_downs g r k (j ∷ z) is ready way = deeper g r k (j ∷ z) (root_down slot r (j ∷ z)) is (root_downs g r j z is ready way.3) way

  pub from_roots : (g : Site) (r : ℕ) (z : Path) → is_ref_slot r ≡ true → IsSome (g.spot r) → IsWay (there g.built) z → Walked g r z (from_root slot r z)
  from_roots g r [] is ready way = top g r is ready
  from_roots g r (k ∷ z) is ready way = root_downs g r k z is ready way

  stays_there : (g : Site) (z : Path) → g.spot P ≡ Some (To (At z)) → Walked g P z []
  stays_there g z at = record { site = g; runs = none g; built = refl; pin = refl; at = at; others = λ k off. refl }

  -- P goes on from where it stands
  pub goes : (g : Site) (p q : Path) → g.spot P ≡ Some (To (At p)) → IsWay (there g.built) q → Walked g P q (goes_to slot p q)
  unfolding down
  goes g p q at way = by (strip p q) refl
    where
      by : (o : Option Path) → strip p q ≡ o → Walked g P q (goes_by slot p q o)
      by None e = from_roots g P q refl (rw at refl) way
      by (Some []) e = let is = strip_some p q [] e in subst (λ (z : Path). Walked g P z []) (sym is) (stays_there g p at)
      by (Some (k ∷ w)) e =
          let is = strip_some p q (k ∷ w) e in
          subst (λ (z : Path). Walked g P z (down P P p (k ∷ w))) (sym is)
          (downs g P P p k w refl (rw at refl) (ByScratch P p refl at) (subst (λ (z : Path). IsWay (there g.built) z) is way))

  -- another scratch reference is led somewhere, from where P stands if it lies beneath
  pub leads : (g : Site) (r : ℕ) (p z : Path) → is_ref_slot r ≡ true → IsSome (g.spot r) → g.spot P ≡ Some (To (At p)) → IsWay (there g.built) z
      → Walked g r z (leads_to_at slot r p z)
  leads g r p z is ready at way = by (strip p z) refl
    where
      by : (o : Option Path) → strip p z ≡ o → Walked g r z (leads_by slot r p z o)
      by None e = from_roots g r z is ready way
      by (Some []) e = from_roots g r z is ready way
      by (Some (k ∷ w)) e =
          let to = strip_some p z (k ∷ w) e in
          subst (λ (y : Path). Walked g r y (down r P p (k ∷ w))) (sym to)
          (downs g r P p k w is ready (ByScratch P p refl at) (subst (λ (y : Path). IsWay (there g.built) y) to way))
