-- Holding: the tests of pointers find what each field may hold.
use Rattle.std.proofs.Common.{◌≡◌, ℕ, zero, suc, ◌+◌, ◌-◌, ◌<◌, ◌⊎◌, inl, inr, Bool, true, false, not, ◌||◌, ◌==◌, List, [], ◌∷◌, length, drop}
use Rattle.std.proofs.Common.{Option, Some, None, refl, sym, ap, subst, ◌∙◌, arith, eqb-true, eq-eqb}
use Rattle.std.specs.Prelude.{slice_get}
use Rattle.std.specs.List.{list_any}
use Rattle.fk_model.specs.declared.names.Kind.{Kind}
use Rattle.fk_model.specs.declared.names.Kind.TheVariants as kinds
use Rattle.fk_image.specs.declared.image.image.Link.{Link}
use Rattle.fk_image.specs.declared.image.image.Link.TheVariants.{Null, Dead, In, Out, Root, Outside}
use Rattle.fk_image.specs.declared.image.image.ObjectRec.{ObjectRec}
use Rattle.fk_image.specs.declared.image.image.SpaceRec.{SpaceRec}
use Rattle.fk_image.specs.Image.Objects.{kind_in}
use Rattle.fk_image.specs.Image.Links.{kind_in_space, lies_in, has_space_at, is_space_within, is_thread_kind, is_portset_kind, is_region_kind, is_port_kind}
use Rattle.fk_image.specs.Image.Links.{is_referable}
use Rattle.fk_image.specs.Image.Links.{may_hold, leads_to_region, leads_to_keeper, may_refer, leads_to_port, serves_port, is_set_of}
use Rattle.fk_image.specs.Form.Order.{LiesIn, IsWithin, AreInOrder}
use Rattle.fk_image.specs.Form.Holding.{PointerField, IsThere, IsReferable, MayHold, MayBeSet}
use Rattle.fk_image.specs.Form.Holding.PointerField.{Holder, MappedRegion, Keeper, Target, AtPort, Server}
use Rattle.fk_image.specs.Form.Holding.IsReferable.{AMapping, ARegion, APort, AThread}
use Rattle.fk_image.specs.Form.Holding.MayHold.{HeldByNone, HeldBy, NoRegion, DeadRegion, RegionThere, NoKeeper, DeadKeeper, KeeperOut, KeeperThere}
use Rattle.fk_image.specs.Form.Holding.MayHold.{PortOut, PortThere, ServedOutside, ServedThere, ToNothing, ToDead, ToOut, ToRoot, ToObject, ToSpace}
use Rattle.fk_image.specs.Form.Holding.MayBeSet.{NoSet, SetThere}
use Rattle.fk_image.proofs.InFormat.Basics.{both, and2, not_true, not_false}
use Rattle.laws_image_faults.proofs.Order.{get-low, counted, within-counted}
use Rattle.laws_image_faults.proofs.Paths.{not-both}

-- ---- kinds

thread-is : (o : Option Kind) → is_thread_kind o ≡ true → o ≡ Some kinds.Thread
thread-is (Some kinds.Thread) e = refl
thread-is (Some kinds.Mutex) e = absurd cc
thread-is (Some kinds.Cond) e = absurd cc
thread-is (Some kinds.Mapping) e = absurd cc
thread-is (Some kinds.Region) e = absurd cc
thread-is (Some kinds.Port) e = absurd cc
thread-is (Some kinds.Portset) e = absurd cc
thread-is (Some kinds.Space) e = absurd cc
thread-is (Some kinds.Reference) e = absurd cc
thread-is None e = absurd cc

portset-is : (o : Option Kind) → is_portset_kind o ≡ true → o ≡ Some kinds.Portset
portset-is (Some kinds.Portset) e = refl
portset-is (Some kinds.Mutex) e = absurd cc
portset-is (Some kinds.Cond) e = absurd cc
portset-is (Some kinds.Mapping) e = absurd cc
portset-is (Some kinds.Region) e = absurd cc
portset-is (Some kinds.Port) e = absurd cc
portset-is (Some kinds.Thread) e = absurd cc
portset-is (Some kinds.Space) e = absurd cc
portset-is (Some kinds.Reference) e = absurd cc
portset-is None e = absurd cc

region-is : (o : Option Kind) → is_region_kind o ≡ true → o ≡ Some kinds.Region
region-is (Some kinds.Region) e = refl
region-is (Some kinds.Mutex) e = absurd cc
region-is (Some kinds.Cond) e = absurd cc
region-is (Some kinds.Mapping) e = absurd cc
region-is (Some kinds.Portset) e = absurd cc
region-is (Some kinds.Port) e = absurd cc
region-is (Some kinds.Thread) e = absurd cc
region-is (Some kinds.Space) e = absurd cc
region-is (Some kinds.Reference) e = absurd cc
region-is None e = absurd cc

port-is : (o : Option Kind) → is_port_kind o ≡ true → o ≡ Some kinds.Port
port-is (Some kinds.Port) e = refl
port-is (Some kinds.Mutex) e = absurd cc
port-is (Some kinds.Cond) e = absurd cc
port-is (Some kinds.Mapping) e = absurd cc
port-is (Some kinds.Portset) e = absurd cc
port-is (Some kinds.Region) e = absurd cc
port-is (Some kinds.Thread) e = absurd cc
port-is (Some kinds.Space) e = absurd cc
port-is (Some kinds.Reference) e = absurd cc
port-is None e = absurd cc

referable-is : (o : Option Kind) → is_referable o ≡ true → (kind : Kind) × IsReferable kind × (o ≡ Some kind)
referable-is (Some kinds.Mapping) e = (kinds.Mapping, AMapping, refl)
referable-is (Some kinds.Region) e = (kinds.Region, ARegion, refl)
referable-is (Some kinds.Port) e = (kinds.Port, APort, refl)
referable-is (Some kinds.Thread) e = (kinds.Thread, AThread, refl)
referable-is (Some kinds.Mutex) e = absurd cc
referable-is (Some kinds.Cond) e = absurd cc
referable-is (Some kinds.Portset) e = absurd cc
referable-is (Some kinds.Space) e = absurd cc
referable-is (Some kinds.Reference) e = absurd cc
referable-is None e = absurd cc

is-referable : (kind : Kind) → IsReferable kind → is_referable (Some kind) ≡ true
is-referable _ AMapping = refl
is-referable _ ARegion = refl
is-referable _ APort = refl
is-referable _ AThread = refl

-- ---- what is where

kind-low : (spaces : List SpaceRec) (number slot : ℕ) (kind : Kind) → IsThere spaces number slot kind → number < length spaces
kind-low spaces number slot kind there = by (slice_get spaces number) refl there
  where
    by : (o : Option SpaceRec) → slice_get spaces number ≡ o → elim o [ None ↦ None | Some s ↦ kind_in s.objects slot ] ≡ Some kind → number < length spaces
    by None is e = absurd cc
    by (Some s) is e = get-low spaces number s is

any-lies : (p slot n : ℕ) (ss : List SpaceRec) (s : SpaceRec) → slice_get ss n ≡ Some s → s.parent ≡ p → s.slot ≡ slot → list_any (lies_in p slot) ss ≡ true
any-lies p slot n [] s e parent at = absurd cc
any-lies p slot zero (t ∷ ss) s e parent at =
    let same : t ≡ s = cc in
    ap (λ b. b || list_any (lies_in p slot) ss)
    (both (t.parent == p) (t.slot == slot) (eq-eqb t.parent p (ap (λ (s : SpaceRec). s.parent) same ∙ parent))
    (eq-eqb t.slot slot (ap (λ (s : SpaceRec). s.slot) same ∙ at)))
any-lies p slot (suc n) (t ∷ ss) s e parent at = by (lies_in p slot t) (any-lies p slot n ss s e parent at)
  where
    by : (b : Bool) → list_any (lies_in p slot) ss ≡ true → (b || list_any (lies_in p slot) ss) ≡ true
    by true is = refl
    by false is = is

lies-any : (p slot : ℕ) (ss : List SpaceRec) → list_any (lies_in p slot) ss ≡ true
    → (n : ℕ) × (s : SpaceRec) × (slice_get ss n ≡ Some s) × (s.parent ≡ p) × (s.slot ≡ slot)
lies-any p slot [] e = absurd cc
lies-any p slot (t ∷ ss) e = by (lies_in p slot t) refl (lies-any p slot ss) e
  where
    by : (b : Bool) → lies_in p slot t ≡ b
        → (list_any (lies_in p slot) ss ≡ true → (n : ℕ) × (s : SpaceRec) × (slice_get ss n ≡ Some s) × (s.parent ≡ p) × (s.slot ≡ slot))
        → (b || list_any (lies_in p slot) ss) ≡ true → (n : ℕ) × (s : SpaceRec) × (slice_get (t ∷ ss) n ≡ Some s) × (s.parent ≡ p) × (s.slot ≡ slot)
    by true is more e = let h = and2 (t.parent == p) (t.slot == slot) is in (0, t, refl, eqb-true t.parent p h.0, eqb-true t.slot slot h.1)
    by false is more e = let h = more e in (suc h.0, h.1, h.2, h.3, h.4)

drop-one : {X : Type 0} (xs : List X) (n : ℕ) → slice_get (drop 1 xs) n ≡ slice_get xs (suc n)
drop-one [] n = refl
drop-one (x ∷ xs) n = refl

has-space : (spaces : List SpaceRec) (p slot number : ℕ) → LiesIn spaces p slot number → has_space_at spaces p slot ≡ true
unfolding has_space_at
has-space spaces p slot zero l = let none = l.inner in absurd (omega (arith, none))
has-space spaces p slot (suc n) l = any-lies p slot n (drop 1 spaces) l.space (drop-one spaces n ∙ l.there) l.parent_is l.slot_is

space-there : (spaces : List SpaceRec) (p slot : ℕ) → has_space_at spaces p slot ≡ true → (number : ℕ) × LiesIn spaces p slot number
unfolding has_space_at
space-there spaces p slot e =
    let h = lies-any p slot (drop 1 spaces) e in
    (suc h.0, record { space = h.1; inner = omega arith; there = sym (drop-one spaces h.0) ∙ h.2; parent_is = h.3; slot_is = h.4 })

either : (a b : Bool) → (a || b) ≡ true → (a ≡ true) ⊎ (b ≡ true)
either true b e = inl refl
either false b e = inr e

or-first : (a b : Bool) → a ≡ true → (a || b) ≡ true
or-first a b e = rw e refl

or-second : (a b : Bool) → b ≡ true → (a || b) ≡ true
or-second true b e = refl
or-second false b e = e

-- ---- each field

abbrev pub may : List SpaceRec → PointerField → Link → Bool
may spaces (Holder number) to = may_hold spaces number to
may spaces MappedRegion to = leads_to_region spaces to
may spaces Keeper to = leads_to_keeper spaces to
may spaces Target to = may_refer spaces to
may spaces AtPort to = leads_to_port spaces to
may spaces (Server port) to = serves_port spaces port to

module _ (spaces : List SpaceRec) (order : AreInOrder spaces) where
  held : (number slot other : ℕ) → may_hold spaces number (In slot other) ≡ true → MayHold spaces (Holder number) (In slot other)
  held number slot other e =
      let parts = and2 (is_thread_kind (kind_in_space spaces other slot)) (not (is_space_within spaces number other)) e in
      let there = thread-is (kind_in_space spaces other slot) parts.0 in
      HeldBy number slot other there (λ w. not-both (is_space_within spaces number other)
      (counted spaces order number other (kind-low spaces other slot kinds.Thread there) w) (not_true _ parts.1))

  holds : (number slot other : ℕ) → IsThere spaces other slot kinds.Thread → (IsWithin spaces number other → ⊥)
      → may_hold spaces number (In slot other) ≡ true
  holds number slot other there out = both (is_thread_kind (kind_in_space spaces other slot)) (not (is_space_within spaces number other))
      (ap is_thread_kind there) (not_false _ (by (is_space_within spaces number other) refl))
    where
      by : (b : Bool) → is_space_within spaces number other ≡ b → b ≡ false
      by true is = absurd (out (within-counted spaces order number other (kind-low spaces other slot kinds.Thread there) is))
      by false is = refl

  served : (port slot there other : ℕ) → serves_port spaces (In port there) (In slot other) ≡ true → MayHold spaces (Server (In port there)) (In slot other)
  served port slot there other e =
      let parts = and2 (other == there) (is_thread_kind (kind_in_space spaces other slot)) e in
      subst (λ n. MayHold spaces (Server (In port n)) (In slot other)) (eqb-true other there parts.0)
      (ServedThere port slot other (thread-is (kind_in_space spaces other slot) parts.1))

  refers : (slot other : ℕ) → may_refer spaces (In slot other) ≡ true → MayHold spaces Target (In slot other)
  refers slot other e = by (either (is_referable (kind_in_space spaces other slot)) (has_space_at spaces other slot) e)
    where
      by : (is_referable (kind_in_space spaces other slot) ≡ true) ⊎ (has_space_at spaces other slot ≡ true) → MayHold spaces Target (In slot other)
      by (inl h) = let r = referable-is (kind_in_space spaces other slot) h in ToObject r.0 slot other r.1 r.2
      by (inr h) = let l = space-there spaces other slot h in ToSpace slot other l.0 l.1

  -- what a test lets through may be held
  pub may-hold : (f : PointerField) (to : Link) → may spaces f to ≡ true → MayHold spaces f to
  may-hold (Holder number) Null e = HeldByNone number
  may-hold (Holder number) (In slot other) e = held number slot other e
  may-hold (Holder number) Dead e = absurd cc
  may-hold (Holder number) (Out slot) e = absurd cc
  may-hold (Holder number) Root e = absurd cc
  may-hold (Holder number) Outside e = absurd cc
  may-hold MappedRegion Null e = NoRegion
  may-hold MappedRegion Dead e = DeadRegion
  may-hold MappedRegion (In slot other) e = RegionThere slot other (region-is (kind_in_space spaces other slot) e)
  may-hold MappedRegion (Out slot) e = absurd cc
  may-hold MappedRegion Root e = absurd cc
  may-hold MappedRegion Outside e = absurd cc
  may-hold Keeper Null e = NoKeeper
  may-hold Keeper Dead e = DeadKeeper
  may-hold Keeper (In slot other) e = KeeperThere slot other (port-is (kind_in_space spaces other slot) e)
  may-hold Keeper (Out slot) e = KeeperOut slot
  may-hold Keeper Root e = absurd cc
  may-hold Keeper Outside e = absurd cc
  may-hold Target Null e = ToNothing
  may-hold Target Dead e = ToDead
  may-hold Target (In slot other) e = refers slot other e
  may-hold Target (Out slot) e = ToOut slot
  may-hold Target Root e = ToRoot
  may-hold Target Outside e = absurd cc
  may-hold AtPort Null e = absurd cc
  may-hold AtPort Dead e = absurd cc
  may-hold AtPort (In slot other) e = PortThere slot other (port-is (kind_in_space spaces other slot) e)
  may-hold AtPort (Out slot) e = PortOut slot
  may-hold AtPort Root e = absurd cc
  may-hold AtPort Outside e = absurd cc
  may-hold (Server Null) to e = absurd cc
  may-hold (Server Dead) to e = absurd cc
  may-hold (Server Root) to e = absurd cc
  may-hold (Server Outside) to e = absurd cc
  may-hold (Server (Out port)) Null e = absurd cc
  may-hold (Server (Out port)) Dead e = absurd cc
  may-hold (Server (Out port)) (In slot other) e = absurd cc
  may-hold (Server (Out port)) (Out slot) e = absurd cc
  may-hold (Server (Out port)) Root e = absurd cc
  may-hold (Server (Out port)) Outside e = ServedOutside port
  may-hold (Server (In port there)) Null e = absurd cc
  may-hold (Server (In port there)) Dead e = absurd cc
  may-hold (Server (In port there)) (In slot other) e = served port slot there other e
  may-hold (Server (In port there)) (Out slot) e = absurd cc
  may-hold (Server (In port there)) Root e = absurd cc
  may-hold (Server (In port there)) Outside e = absurd cc

  -- and what may be held is let through
  pub hold-may : (f : PointerField) (to : Link) → MayHold spaces f to → may spaces f to ≡ true
  hold-may _ _ (HeldByNone number) = refl
  hold-may _ _ (HeldBy number slot other there out) = holds number slot other there out
  hold-may _ _ NoRegion = refl
  hold-may _ _ DeadRegion = refl
  hold-may _ _ (RegionThere slot other there) = ap is_region_kind there
  hold-may _ _ NoKeeper = refl
  hold-may _ _ DeadKeeper = refl
  hold-may _ _ (KeeperOut slot) = refl
  hold-may _ _ (KeeperThere slot other there) = ap is_port_kind there
  hold-may _ _ (PortOut slot) = refl
  hold-may _ _ (PortThere slot other there) = ap is_port_kind there
  hold-may _ _ (ServedOutside slot) = refl
  hold-may _ _ (ServedThere port slot other there) =
      both (other == other) (is_thread_kind (kind_in_space spaces other slot)) (eq-eqb other other refl) (ap is_thread_kind there)
  hold-may _ _ ToNothing = refl
  hold-may _ _ ToDead = refl
  hold-may _ _ (ToOut slot) = refl
  hold-may _ _ ToRoot = refl
  hold-may _ _ (ToObject kind slot other is there) =
      or-first (is_referable (kind_in_space spaces other slot)) (has_space_at spaces other slot) (ap is_referable there ∙ is-referable kind is)
  hold-may _ _ (ToSpace slot other number lies) =
      or-second (is_referable (kind_in_space spaces other slot)) (has_space_at spaces other slot) (has-space spaces other slot number lies)

-- ---- sets

pub set-may : (objects : List ObjectRec) (set : ℕ) → is_set_of objects set ≡ true → MayBeSet objects set
set-may objects zero e = NoSet
set-may objects (suc slot) e = by (either (suc slot == 0) (is_portset_kind (kind_in objects (suc slot - 1))) e)
  where
    less : suc slot - 1 ≡ slot
    less = omega arith

    more : slot + 1 ≡ suc slot
    more = omega arith

    by : ((suc slot == 0) ≡ true) ⊎ (is_portset_kind (kind_in objects (suc slot - 1)) ≡ true) → MayBeSet objects (suc slot)
    by (inl h) = let none = eqb-true (suc slot) 0 h in absurd (omega (arith, none))
    by (inr h) = subst (MayBeSet objects) more (SetThere slot (ap (kind_in objects) (sym less) ∙ portset-is (kind_in objects (suc slot - 1)) h))

pub may-set : (objects : List ObjectRec) (set : ℕ) → MayBeSet objects set → is_set_of objects set ≡ true
may-set objects _ NoSet = refl
may-set objects _ (SetThere slot there) =
    let less : slot + 1 - 1 ≡ slot = omega arith in
    or-second (slot + 1 == 0) (is_portset_kind (kind_in objects (slot + 1 - 1))) (ap is_portset_kind (ap (kind_in objects) less ∙ there))
