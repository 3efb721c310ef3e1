-- Who has a fault of a pager's is found: it leads to the pager's port, and it is an object with a name.
use Rattle.std.proofs.Common.{◌≡◌, ◌≢◌, ◌⊎◌, inl, inr, ℕ, ◌+◌, ◌-◌, ◌*◌, ◌<◌, true, cond, is_some, IsTrue, IsSome, List, [], ◌∷◌, ◌++◌, count_by, Option, Some, None, option_map, refl, sym, ap, subst, ◌∙◌, arith}
use Rattle.std.proofs.lemmas.Bool.{and_parts}
use Rattle.std.proofs.lemmas.List.Sums.{sum_by-append, sum_by-cons}
use Rattle.std.proofs.lemmas.Map.Lookups.{exact_unsigned}
use Rattle.std.specs.declared.cmp.Ordering.{Ordering}
use Rattle.std.specs.declared.cmp.Ordering.TheVariants.{Less, Equal, Greater}
use Rattle.std.specs.Ordering.{is_le, nat_cmp, ordering_then}
use Rattle.fk_model.specs.declared.names.Who.{Who}
use Rattle.fk_model.specs.Places.{Path, Ptr, leads_to}
use Rattle.fk_model.specs.Places.Ptr.{At}
use Rattle.fk_model.specs.Objects.{Fault, Thread, Body, kind_of, thread_of, and_then, holds}
use Rattle.fk_model.specs.Objects.Body.{Thread_of}
use Rattle.fk_model.specs.World.{World}
use Rattle.fk_model.specs.Searches.{thread_at, fault_at, pointers_to, option_list, talk_pointers, fault_pointers, peer_pointer}
use Rattle.fk_model.specs.Valid.{kind_there}
use Rattle.fk_model.proofs.walks.Members.{IsIn}
use Rattle.fk_model.proofs.walks.PlaceLaws.{same_path_refl, leads_to_at}
use Rattle.fk_store.specs.Store.Contents.{Contents}
use Rattle.fk_store.specs.Store.Names.{who_cmp, rank}
use Rattle.fk_store.specs.Store.Orders.{IsFirstAfter}
use Rattle.fk_store.specs.Store.World.{world, place_of, IsLive}
use Rattle.laws_filled.specs.Filled.{is_paged}
use Rattle.laws_filled.specs.Pager.{Desk, State, paging, IsPick, IsOwn}
use Rattle.laws_filled.specs.Pager.Phase.{Waiting}
use Rattle.fk_store.proofs.InStore.finding.Walks.{path-root}
use Rattle.fk_pager.specs.Desks.{root}

-- ---- a scan of all objects

-- each object of which a fact holds comes at this one or after it
abbrev pub IsAhead : Contents → (Who → Type 0) → Option Who → Type 0
IsAhead m P None = (other : Who) → IsLive m other → P other → ⊥
IsAhead m P (Some who) = (other : Who) → IsLive m other → P other → IsTrue (is_le (who_cmp who other))

who_same : (a b : Who) → who_cmp a b ≡ Equal → a ≡ b
who_same a b = by (nat_cmp a.space b.space) refl
  where
    by : (r : Ordering) → nat_cmp a.space b.space ≡ r → ordering_then r (nat_cmp a.slot b.slot) ≡ Equal → a ≡ b
    by Less e is = absurd (cc)
    by Greater e is = absurd (cc)
    by Equal e is = let spaces = exact_unsigned a.space b.space e in
        let slots = exact_unsigned a.slot b.slot is in λ i. record { space = spaces i; slot = slots i }

pub ahead_first : (m : Contents) (P : Who → Type 0) (first : Option Who) → IsFirstAfter who_cmp (IsLive m) None first → IsAhead m P first
ahead_first m P None first = λ other live is. first other live refl
ahead_first m P (Some at) first = λ other live is. first.2 other live refl

none_ahead : (m : Contents) (P : Who → Type 0) (who : Who) → IsAhead m P (Some who) → (P who → ⊥) →
    IsFirstAfter who_cmp (IsLive m) (Some who) None → (other : Who) → IsLive m other → P other → ⊥
none_ahead m P who ahead here first other live is = by (who_cmp who other) refl (ahead other live is)
  where
    by : (r : Ordering) → who_cmp who other ≡ r → IsTrue (is_le r) → ⊥
    by Less e le = first other live (rw e refl)
    by Equal e le = here (subst P (sym (who_same who other e)) is)
    by Greater e le = absurd (cc)

some_ahead : (m : Contents) (P : Who → Type 0) (who at : Who) → IsAhead m P (Some who) → (P who → ⊥) →
    IsFirstAfter who_cmp (IsLive m) (Some who) (Some at) → (other : Who) → IsLive m other → P other → IsTrue (is_le (who_cmp at other))
some_ahead m P who at ahead here first other live is = by (who_cmp who other) refl (ahead other live is)
  where
    by : (r : Ordering) → who_cmp who other ≡ r → IsTrue (is_le r) → IsTrue (is_le (who_cmp at other))
    by Less e le = first.2 other live (rw e refl)
    by Equal e le = absurd (here (subst P (sym (who_same who other e)) is))
    by Greater e le = absurd (cc)

pub ahead_next : (m : Contents) (P : Who → Type 0) (who : Who) (next : Option Who) → IsAhead m P (Some who) → (P who → ⊥) →
    IsFirstAfter who_cmp (IsLive m) (Some who) next → IsAhead m P next
ahead_next m P who None ahead here first = none_ahead m P who ahead here first
ahead_next m P who (Some at) ahead here first = some_ahead m P who at ahead here first

-- how many names are left to look at
abbrev pub left_from : Contents → Option Who → ℕ
left_from m None = 0
left_from m (Some who) = 1 + ((world m).next * 256 - rank (Some who))

-- ---- who has a fault leads to its port

hits_behind : (x : Path) (ps qs : List Ptr) → 0 < count_by (leads_to x) qs → 0 < count_by (leads_to x) (ps ++ qs)
hits_behind x ps qs some = let all = sum_by-append (λ p. cond {A = ℕ} (leads_to x p) 1 0) ps qs in omega (arith, some, all)

hits_first : (x : Path) (p : Ptr) (ps : List Ptr) → p ≡ At x → 0 < count_by (leads_to x) (p ∷ ps)
hits_first x p ps is =
    let all = sum_by-cons (λ p. cond {A = ℕ} (leads_to x p) 1 0) p ps in
    let hit : cond {A = ℕ} (leads_to x p) 1 0 ≡ 1 = rw (is, same_path_refl x) refl in
    omega (arith, hit, all)

fault_leads : (x : Path) (t : Thread) (fault : Fault) → t.fault ≡ Some fault → fault.port ≡ At x → 0 < pointers_to x (Some (Thread_of t))
fault_leads x t fault is leads =
    rw is (hits_behind x (option_list talk_pointers t.talk) (fault_pointers fault) (hits_first x fault.port (option_list peer_pointer fault.taker) leads))

pub paged-leads : (d : Desk) (s : State) (w : World) (y : Path) → holds (is_paged (paging d s)) (fault_at w y) ≡ true →
    pointers_to (d.port ∷ d.nester) (w.body y) ≢ 0
paged-leads d s w y paged none = by (w.body y) refl paged
  where
    at-fault : (t : Thread) (o : Option Fault) → t.fault ≡ o → holds (is_paged (paging d s)) o ≡ true → w.body y ≡ Some (Thread_of t) → ⊥
    at-fault t None e is there = cc
    at-fault t (Some fault) e is there =
        let some = fault_leads (d.port ∷ d.nester) t fault e (leads_to_at (d.port ∷ d.nester) fault.port (and_parts _ _ is).0) in
        let zero = rw there at none in
        absurd (omega (arith, some, zero))

    by : (o : Option Body) → w.body y ≡ o → holds (is_paged (paging d s)) (and_then (λ (t : Thread). t.fault) (and_then thread_of o)) ≡ true → ⊥
    by None e is = cc
    by (Some (Thread_of t)) e is = at-fault t t.fault refl is e
    by (Some b) e is = cc

-- ---- and has a name

pub paged-there : (d : Desk) (s : State) (w : World) (y : Path) → holds (is_paged (paging d s)) (fault_at w y) ≡ true → IsSome (kind_there w y)
unfolding kind_there
paged-there d s w y paged = by (w.body y) paged
  where
    by : (o : Option Body) → holds (is_paged (paging d s)) (and_then (λ (t : Thread). t.fault) (and_then thread_of o)) ≡ true →
        is_some (option_map kind_of o) ≡ true
    by None is = cc
    by (Some b) is = refl

pub rootless : (m : Contents) → thread_at (world m) [] ≡ None
unfolding world
rootless m = refl

-- ---- while a pager waits its call picks somebody

-- each whose fault may be taken is among these
abbrev pub AreToCome : Desk → Contents → State → List Who → Type 0
AreToCome d m s whos = (y : Path) → IsOwn d (world m) s (Some y) → (from : Who) × (place_of m from ≡ y) × IsIn from whos

-- what leads to an object is among these
abbrev pub AreLeaders : Contents → Path → List Who → Type 0
AreLeaders m port whos = (x : Path) → pointers_to port ((world m).body x) ≢ 0 → (from : Who) × (place_of m from ≡ x) × IsIn from whos

-- an object of the root
pub root-place : (m : Contents) (slot : ℕ) → place_of m (record { space = 0; slot = slot }) ≡ slot ∷ root
root-place m slot = ap (λ (s : Path). slot ∷ s) (path-root m)

pub come-next : (d : Desk) (m : Contents) (s : State) (who : Who) (whos : List Who) → AreToCome d m s (who ∷ whos) →
    (IsOwn d (world m) s (Some (place_of m who)) → ⊥) → AreToCome d m s whos
come-next d m s who whos come none y own = let found = come y own in by found.0 found.1 found.2
  where
    by : (from : Who) → place_of m from ≡ y → (who ≡ from) ⊎ IsIn from whos → (from : Who) × (place_of m from ≡ y) × IsIn from whos
    by from at (inl same) = absurd (none (subst (λ x. IsOwn d (world m) s (Some x)) (sym (ap (place_of m) same ∙ at)) own))
    by from at (inr later) = (from, at, later)

pub more-come : (d : Desk) (m : Contents) (s : State) (who : Who) (whos more : List Who) → whos ≡ who ∷ more → AreToCome d m s whos →
    (IsOwn d (world m) s (Some (place_of m who)) → ⊥) → AreToCome d m s more
more-come d m s who whos more is come none = come-next d m s who more (subst (AreToCome d m s) is come) none

module _ (d : Desk) (m : Contents) (s : State) (waits : s.phase ≡ Waiting) where
  picks-paged : (pick : Option Path) → IsOwn d (world m) s pick → (y : Path) × (pick ≡ Some y) × (holds (is_paged (paging d s)) (fault_at (world m) y) ≡ true)
  picks-paged pick own = by pick refl (subst (λ phase. IsPick d s (world m) phase pick) waits own.picks)
    where
      by : (o : Option Path) → pick ≡ o → IsPick d s (world m) Waiting o →
          (y : Path) × (pick ≡ Some y) × (holds (is_paged (paging d s)) (fault_at (world m) y) ≡ true)
      by None e p = absurd p
      by (Some y) e p = (y, e, p)

  -- where the scan finds nobody no call is ready
  pub none-any : ((k : ℕ) (x : Path) → IsSome (kind_there (world m) (k ∷ x)) → (other : Who) × (place_of m other ≡ k ∷ x)) →
      IsAhead m (λ other. IsOwn d (world m) s (Some (place_of m other))) None → (pick : Option Path) × IsOwn d (world m) s pick → ⊥
  none-any named none ready = let found = picks-paged ready.0 ready.1 in by found.0 found.2 (subst (IsOwn d (world m) s) found.1 ready.1)
    where
      by : (y : Path) → holds (is_paged (paging d s)) (fault_at (world m) y) ≡ true → IsOwn d (world m) s (Some y) → ⊥
      by [] paged own = let nobody = rw (rootless m) at paged in cc
      by (k ∷ x) paged own =
          let there = paged-there d s (world m) (k ∷ x) paged in
          let other = named k x there in
          none other.0 (rw other.1 there) (rw other.1 own)

  -- whose fault may be taken leads to the port
  pub come-first : d.nester ≡ root → (whos : List Who) → AreLeaders m (place_of m (record { space = 0; slot = d.port })) whos → AreToCome d m s whos
  come-first nester whos leads y own =
      let its : pointers_to (d.port ∷ d.nester) ((world m).body y) ≢ 0 =
      paged-leads d s (world m) y (subst (λ phase. IsPick d s (world m) phase (Some y)) waits own.picks) in
      leads y (subst (λ x. pointers_to x ((world m).body y) ≢ 0) (ap (λ (x : Path). d.port ∷ x) nester ∙ sym (root-place m d.port)) its)

  pub none-comes : AreToCome d m s [] → (pick : Option Path) × IsOwn d (world m) s pick → ⊥
  none-comes come ready =
      let found = picks-paged ready.0 ready.1 in
      let among = come found.0 (subst (IsOwn d (world m) s) found.1 ready.1) in
      among.2

-- the same where the store and the port are known by equations
pub leaders-come : (d : Desk) (m n : Contents) (s : State) → s.phase ≡ Waiting → d.nester ≡ root → (port : Who) (whos : List Who) → n ≡ m →
    port ≡ record { space = 0; slot = d.port } → AreLeaders n (place_of n port) whos → AreToCome d m s whos
leaders-come d m n s waits nester port whos same is leads =
    come-first d m s waits nester whos
    (subst (λ (q : Who). AreLeaders m (place_of m q) whos) is (subst (λ (k : Contents). AreLeaders k (place_of k port) whos) same leads))
