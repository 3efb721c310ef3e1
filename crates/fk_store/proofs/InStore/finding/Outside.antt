-- Outside: the pointers of objects that lie outside a space.
use Rattle.std.proofs.Common.{◌≡◌, ◌≢◌, ℕ, ◌+◌, ◌<◌, ◌≤◌, Bool, true, false, cond, ◌&&◌, List, [], ◌∷◌, ◌++◌, length, filter, Option, Some, None}
use Rattle.std.proofs.Common.{is_some, IsSome, option_map, refl, sym, ap, subst, ◌∙◌, arith}
use Rattle.std.specs.List.{sum_by}
use Rattle.std.proofs.lemmas.List.Sums.{sum_by-cons, sum_by-append}
use Rattle.std.specs.FinMap.{get, entries}
use Rattle.fk_model.specs.declared.names.Who.{Who}
use Rattle.fk_model.specs.declared.names.Ptr.TheVariants as stored
use Rattle.fk_model.specs.declared.thread.Peer as peers_of
use Rattle.fk_model.specs.declared.thread.Peer.TheVariants as peers
use Rattle.fk_model.specs.declared.thread.Talk as talks_of
use Rattle.fk_model.specs.declared.thread.Fault as faults_of
use Rattle.fk_model.specs.declared.body.Body as bodies_of
use Rattle.fk_model.specs.declared.body.Body.TheVariants as bodies
use Rattle.fk_model.specs.ObjectRows.{counts_from, pointer_count}
use Rattle.fk_model.specs.Objects.{Body, kind_of, and_then}
use Rattle.fk_model.specs.Valid.{kind_there}
use Rattle.fk_model.specs.Places.{Path, Ptr, leads_to, same_path, slot_of}
use Rattle.fk_model.specs.Places.Ptr.{At}
use Rattle.fk_model.specs.Searches.{depth, objects, pointers_to, option_list, peer_pointer, talk_pointers, fault_pointers}
use Rattle.fk_model.specs.World.{World}
use Rattle.fk_model.proofs.walks.Members.{IsIn}
use Rattle.fk_store.specs.Freezing.Held.{one_if}
use Rattle.fk_store.specs.Freezing.Pointers.{body_hits, hits_in}
use Rattle.fk_store.specs.Store.Bodies.{peer_by, talk_by, fault_by, body_by}
use Rattle.fk_store.specs.Store.Contents.{Contents, home}
use Rattle.fk_store.specs.Store.Names.{at}
use Rattle.fk_store.specs.Store.Paths.{path, place, space_at, HasOwnPath}
use Rattle.fk_store.specs.Store.World.{world, IsSpace}
use Rattle.fk_store.specs.Store.WellFormed.{is_there, IsWellFormed}
use Rattle.fk_store.proofs.InFreezing.Lists.{sum_same, sum_none, sum_filtered, sum_mapped}
use Rattle.fk_store.proofs.InStore.finding.LookUps.{body-place}
use Rattle.fk_store.proofs.InStore.finding.NamedLaws.{OnNamed-map}
use Rattle.fk_store.proofs.InStore.finding.Enumerated.{named-object}
use Rattle.fk_store.proofs.InStore.finding.PointerLaws.{body_hits-by, kind_some, place_at, there, sum-objects}
use Rattle.fk_store.proofs.InStore.finding.Walks.{path-home, place-apart}
use Rattle.fk_store.proofs.InStore.finding.Within.{root_path}

-- ---- of one object

pub hits-there : (m : Contents) → IsWellFormed m → (to from : Who) →
    hits_in (body_hits to) (get m.bodies from) ≡ pointers_to (place (path m) to) ((world m).body (place (path m) from))
hits-there m kept to from = by (get m.bodies from) refl ∙ ap (pointers_to (place (path m) to)) (sym (body-place m kept from))
  where
    by : (o : Option bodies_of.Body) → get m.bodies from ≡ o → hits_in (body_hits to) o ≡ pointers_to (place (path m) to) (option_map (body_by (path m)) o)
    by None e = refl
    by (Some b) e = body_hits-by (path m) to b (OnNamed-map (λ q. is_there m q ≡ true)
        (HasOwnPath (path m)) (λ q g. place-apart m kept q (kept.housed q g)) b (kept.leads from b e))

-- whoever leads there is among those whose bodies have a pointer to it
pub leaders-there : (m : Contents) → IsWellFormed m → (who : Who) (whos : List Who) →
    ((q : Who) (b : bodies_of.Body) → get m.bodies q ≡ Some b → body_hits who b ≢ 0 → IsIn q whos) →
    (x : Path) → pointers_to (place (path m) who) ((world m).body x) ≢ 0 → (from : Who) × (place (path m) from ≡ x) × IsIn from whos
unfolding world
leaders-there m kept who whos all x leads = by x refl leads
  where
    here : (q : Who) (o : Option bodies_of.Body) → get m.bodies q ≡ o → hits_in (body_hits who) o ≢ 0 → IsIn q whos
    here q None e hits = absurd (hits refl)
    here q (Some b) e hits = all q b e hits

    live : (k : ℕ) (s : Path) (o : Option Body) → (world m).body (k ∷ s) ≡ o → pointers_to (place (path m) who) o ≢ 0 → IsSome o
    live k s None e leads = absurd (leads refl)
    live k s (Some b) e leads = refl

    by : (y : Path) → y ≡ x → pointers_to (place (path m) who) ((world m).body y) ≢ 0 → (from : Who) × (place (path m) from ≡ x) × IsIn from whos
    by [] is leads = absurd (leads refl)
    by (k ∷ s) is leads =
        let some = kind_some m k s (live k s ((world m).body (k ∷ s)) refl leads) in
        let found = named-object m kept k s some in
        let q = found.0 in
        let same = hits-there m kept who q in
        let at_place : pointers_to (place (path m) who) ((world m).body (k ∷ s)) ≡ pointers_to (place (path m) who) ((world m).body (place (path m) q)) =
        ap (λ y. pointers_to (place (path m) who) ((world m).body y)) (sym found.1) in
        (q, found.1 ∙ is, here q (get m.bodies q) refl (λ none. leads (at_place ∙ sym same ∙ none)))

-- what is there is in one of 256 slots
pub slots-live : (m : Contents) → IsWellFormed m → ((q : Who) (b : bodies_of.Body) → get m.bodies q ≡ Some b → q.slot < 256) →
    (k : ℕ) (s : Path) → IsSome (kind_there (world m) (k ∷ s)) → k < 256
unfolding kind_there
slots-live m kept low k s live = by (get m.bodies who) refl (subst (λ b. IsSome (option_map kind_of b)) (body-place m kept who) there)
  where
    found : (who : Who) × (place (path m) who ≡ k ∷ s)
    found = named-object m kept k s live

    who : Who
    who = found.0

    there : IsSome (option_map kind_of ((world m).body (place (path m) who)))
    there = subst (λ x. IsSome (option_map kind_of ((world m).body x))) (sym found.1) live

    by : (o : Option bodies_of.Body) → get m.bodies who ≡ o → IsSome (option_map kind_of (option_map (body_by (path m)) (get m.bodies who))) → k < 256
    by None e live = let none : IsSome (option_map kind_of (option_map (body_by (path m)) None)) = rw e at live in absurd (cc)
    by (Some b) e live = subst (λ n. n < 256) (ap slot_of found.1) (low who b e)

-- ---- of all

-- how many pointers of what stands at a path count
abbrev pub weight : World → Path → Path → Path → Path → ℕ
weight w base nester x q = cond (counts_from base nester q) (pointers_to x (w.body q)) 0

pub no_weight : (b : Bool) → cond {A = ℕ} b 0 0 ≡ 0
no_weight true = refl
no_weight false = refl

-- the root has no pointer
pub count-is : (m : Contents) (base nester x : Path) →
    pointer_count (world m) base nester x ≡ sum_by (weight (world m) base nester x) (objects (world m))
unfolding world
count-is m base nester x =
    let all = sum_filtered (λ q. pointers_to x ((world m).body q)) (counts_from base nester) ([] ∷ objects (world m)) in
    let first = sum_by-cons (weight (world m) base nester x) [] (objects (world m)) in
    let none = no_weight (counts_from base nester []) in
    omega (arith, all, first, none)

-- ---- counted along the ring

-- 1 for an object that is there, and is one of those that count
abbrev pub counts_there : Contents → Path → Path → Who → Bool
counts_there m base nester q = is_some ((world m).body (place (path m) q)) && counts_from base nester (place (path m) q)

abbrev pub one_there : Contents → Path → Path → Who → ℕ
one_there m base nester q = one_if (counts_there m base nester q)

pub weights-begin : (m : Contents) (kept : IsWellFormed m) → m.next ≤ depth → (base nester : Path) (who : Who) (whos : List Who) →
    ((test : Who → Bool) → sum_by (λ q. one_if (test q)) whos ≡ sum_by (λ e. cond (test e.0) (body_hits who e.1) 0) (entries m.bodies)) →
    0 + sum_by (one_there m base nester) whos ≡ pointer_count (world m) base nester (place (path m) who)
weights-begin m kept few base nester who whos sums =
    let heavy : Path → ℕ = weight (world m) base nester (place (path m) who) in
    let all = sums (counts_there m base nester)
    ∙ sum_same (λ (e : Who × bodies_of.Body). cond (counts_there m base nester e.0) (body_hits who e.1) 0)
    (λ e. heavy (place (path m) e.0)) (entries m.bodies) same
    ∙ sym (sum_mapped (place_at m kept) heavy (entries m.bodies))
    ∙ sym (sum-objects m kept few heavy)
    ∙ sym (count-is m base nester (place (path m) who)) in
    omega (arith, all)
  where
    same : (e : Who × bodies_of.Body) → IsIn e (entries m.bodies) →
        cond (counts_there m base nester e.0) (body_hits who e.1) 0 ≡ weight (world m) base nester (place (path m) who) (place (path m) e.0)
    same e h =
        let here = there m kept e h in
        let hits = ap (hits_in (body_hits who)) (sym here) ∙ hits-there m kept who e.0 in
        let live : is_some ((world m).body (place (path m) e.0)) ≡ true = ap is_some (body-place m kept e.0 ∙ ap (option_map (body_by (path m))) here) in
        λ i. cond (live i && counts_from base nester (place (path m) e.0)) (hits i) 0

pub weights-go : (f : Who → ℕ) (from : Who) (whos more : List Who) (count one all : ℕ) → whos ≡ from ∷ more → one ≡ f from →
    count + sum_by f whos ≡ all → (count + one) + sum_by f more ≡ all
weights-go f from whos more count one all is here so_far =
    let sums : sum_by f whos ≡ f from + sum_by f more = ap (sum_by f) is ∙ sum_by-cons f from more in
    omega (arith, sums, here, so_far)

pub weights-room : (from : Who) (whos more : List Who) (count one most : ℕ) → whos ≡ from ∷ more → one ≤ 1 →
    count + length whos ≤ most → (count + one) + length more ≤ most
weights-room from whos more count one most is few room =
    let long : length whos ≡ length (from ∷ more) = ap length is in omega (arith, long, few, room)

pub weights-end : (f : Who → ℕ) (whos : List Who) (count all : ℕ) → whos ≡ [] → count + sum_by f whos ≡ all → count ≡ all
weights-end f whos count all none so_far =
    let gone : sum_by f whos ≡ 0 = ap (sum_by f) none in omega (arith, gone, so_far)

-- ---- nothing leads to the root

abbrev to_root : Ptr → ℕ
to_root ptr = cond (leads_to [] ptr) 1 0

both_none : (ps qs : List Ptr) → sum_by to_root ps ≡ 0 → sum_by to_root qs ≡ 0 → sum_by to_root (ps ++ qs) ≡ 0
both_none ps qs p q = sum_by-append to_root ps qs ∙ (λ i. p i + q i)

module _ (p : ℕ → Path) where
  peer_none : (peer : peers_of.Peer) → sum_by to_root (peer_pointer (peer_by p peer)) ≡ 0
  unfolding same_path
  peer_none (peers.Thread who) = refl
  peer_none peers.Service = refl
  peer_none peers.Parked = refl

  taker_none : (o : Option peers_of.Peer) → sum_by to_root (option_list peer_pointer (option_map (peer_by p) o)) ≡ 0
  taker_none None = refl
  taker_none (Some peer) = peer_none peer

  port_none : (port : Who) (ps : List Ptr) → sum_by to_root ps ≡ 0 → sum_by to_root (At (place p port) ∷ ps) ≡ 0
  unfolding same_path
  port_none port ps none =
      let one = sum_by-cons to_root (At (place p port)) ps in
      let gone : to_root (At (place p port)) ≡ 0 = refl in
      omega (arith, one, gone, none)

  talk_none : (o : Option talks_of.Talk) → sum_by to_root (option_list talk_pointers (option_map (talk_by p) o)) ≡ 0
  talk_none None = refl
  talk_none (Some talk) = port_none talk.port (peer_pointer (peer_by p talk.peer)) (peer_none talk.peer)

  fault_none : (o : Option faults_of.Fault) → sum_by to_root (option_list fault_pointers (option_map (fault_by p) o)) ≡ 0
  fault_none None = refl
  fault_none (Some fault) = port_none fault.port (option_list peer_pointer (option_map (peer_by p) fault.taker)) (taker_none fault.taker)

  body_none : (b : bodies_of.Body) → pointers_to [] (Some (body_by p b)) ≡ 0
  unfolding same_path
  body_none (bodies.Mutex locked) = refl
  body_none bodies.Cond = refl
  body_none (bodies.Mapping first count offset write stored.Null) = refl
  body_none (bodies.Mapping first count offset write stored.Dead) = refl
  body_none (bodies.Mapping first count offset write (stored.At who)) = refl
  body_none (bodies.Region first count write stored.Null) = refl
  body_none (bodies.Region first count write stored.Dead) = refl
  body_none (bodies.Region first count write (stored.At who)) = refl
  body_none (bodies.Port set served) = refl
  body_none bodies.Portset = refl
  body_none (bodies.Space birth None) = refl
  body_none (bodies.Space birth (Some holder)) = refl
  body_none (bodies.Thread thread) =
      both_none (option_list talk_pointers (option_map (talk_by p) thread.talk)) (option_list fault_pointers (option_map (fault_by p) thread.fault))
      (talk_none thread.talk) (fault_none thread.fault)
  body_none (bodies.Reference stored.Null) = refl
  body_none (bodies.Reference stored.Dead) = refl
  body_none (bodies.Reference (stored.At who)) = refl

root-none : (m : Contents) (q : Path) → pointers_to [] ((world m).body q) ≡ 0
unfolding world
root-none m [] = refl
root-none m (k ∷ s) = by (space_at m s)
  where
    there : (o : Option bodies_of.Body) → pointers_to [] (option_map (body_by (path m)) o) ≡ 0
    there None = refl
    there (Some b) = body_none (path m) b

    by : (o : Option ℕ) → pointers_to [] (and_then (λ n. option_map (body_by (path m)) (get m.bodies (at n k))) o) ≡ 0
    by None = refl
    by (Some n) = there (get m.bodies (at n k))

count-root : (m : Contents) (base nester : Path) → 0 ≡ pointer_count (world m) base nester []
count-root m base nester = sym (sum_none (λ q. pointers_to [] ((world m).body q)) (filter (counts_from base nester) ([] ∷ objects (world m))) (root-none m))

pub count-to_root : (m : Contents) → IsWellFormed m → (base nester : Path) (space : ℕ) → IsSpace m space → home m space ≡ None →
    0 ≡ pointer_count (world m) base nester (path m space)
count-to_root m kept base nester space there none =
    count-root m base nester ∙ ap (pointer_count (world m) base nester) (sym (root_path m kept space there none))

pub count-to_space : (m : Contents) → IsWellFormed m → (base nester : Path) (space : ℕ) (who : Who) (n : ℕ) → home m space ≡ Some who →
    n ≡ pointer_count (world m) base nester (place (path m) who) → n ≡ pointer_count (world m) base nester (path m space)
count-to_space m kept base nester space who n here is = is ∙ ap (pointer_count (world m) base nester) (sym (path-home m kept space who here))
