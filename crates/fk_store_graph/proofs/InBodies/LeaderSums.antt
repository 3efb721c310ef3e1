-- LeaderSums: how many pointers lead to an object, counted along its ring.
use Rattle.std.proofs.Common.{◌≡◌, ◌≢◌, ◌⊎◌, inl, inr, ℕ, ◌+◌, ◌*◌, ◌/◌, ◌%◌, ◌<◌, ◌≤◌, Bool, true, false, cond, ◌==◌, List, [], ◌∷◌, ◌++◌, filter}
use Rattle.std.proofs.Common.{filter_map, length, Option, Some, None, IsSome, is_some, option_map, refl, sym, ap, subst, ◌∙◌, arith, T}
use Rattle.std.proofs.lemmas.Bool.Decides.{nat_tests}
use Rattle.std.proofs.lemmas.Cmp.{tied_itself}
use Rattle.std.proofs.lemmas.List.Sums.{sum_by-cons, sum_by-append}
use Rattle.std.specs.declared.cmp.Ordering.TheVariants.{Less, Equal}
use Rattle.std.specs.List.{sum_by}
use Rattle.std.specs.FinMap.Entries.{below_all}
use Rattle.std.specs.FinMap.{FinMap, is_sorted, entries, entries_sorted, get, get-entries}
use Rattle.fk_model.specs.declared.names.Who.{Who}
use Rattle.fk_model.specs.declared.names.Ptr.{Ptr}
use Rattle.fk_model.specs.declared.names.Ptr.TheVariants.{Null, Dead, At}
use Rattle.fk_model.specs.declared.thread.Peer.{Peer}
use Rattle.fk_model.specs.declared.thread.Peer.TheVariants as peers
use Rattle.fk_model.specs.declared.thread.Talk.{Talk}
use Rattle.fk_model.specs.declared.thread.Fault.{Fault}
use Rattle.fk_model.specs.declared.body.Body.{Body}
use Rattle.fk_model.specs.declared.body.Body.TheVariants.{Mutex, Cond, Mapping, Region, Port, Portset, Space, Thread, Reference}
use Rattle.fk_model.specs.Objects.{and_then}
use Rattle.fk_model.proofs.walks.Members.{IsIn, in_left, in_right, in_either, in_filter, of_filter}
use Rattle.fk_store_graph.specs.Linked.Tabled.{of_cell}
use Rattle.fk_store_graph.specs.Linked.Shapes.{Pointer}
use Rattle.fk_store_graph.specs.Linked.Leads.{lead_by, pointer, peer, led, of_talk, of_fault, of_thread}
use Rattle.fk_store_graph.specs.Linked.Nodes.{is_head, node_of}
use Rattle.fk_store_graph.specs.Linked.Walks.{AreLeaders}
use Rattle.fk_store_graph.specs.Linked.Filed.{Filed, IsFiled, key_of, name_under}
use Rattle.fk_store_graph.specs.Linked.Bodied.{body_under, bodies, head_by, head_led, owner, AreThere, names_of, LeadersOf, AreLeadersOf}
use Rattle.fk_store_graph.specs.Linked.Leading.{leading, pointed, target}
use Rattle.fk_store_graph.specs.Linked.Names.{same_who, who_cmp}
use Rattle.fk_store_graph.specs.Linked.Pointers.{hit, hits_in, pointer_hits, peer_hits, talk_hits, fault_hits, body_hits}
use Rattle.fk_store_graph.proofs.InLinked.AlikeLaws.{own_nodes}
use Rattle.fk_store_graph.proofs.InLinked.BodyLaws.{get_at, get_under, keys_apart, name_there}
use Rattle.fk_store_graph.proofs.InLinked.Found.{found-member, member-found, first_apart, second}
use Rattle.fk_store_graph.proofs.InBodies.Lists.{Differ, same_sum, differ-append, differ-filter, sum_filtered, sum_same, sum_none}
use Rattle.fk_store_graph.proofs.InLinked.NameLaws.{who_total, who_tied, same_who_eq, same_who_refl}
use Rattle.fk_store_graph.proofs.InLinked.PointerLaws.{hits-led, not_nonzero}
use Rattle.fk_store_graph.proofs.InLinked.SweepLaws.{leads_there, leads_by}

-- ---- the pointers of one body

-- a pointer leads to the object
abbrev leads : Who → Option Who → Bool
leads who None = false
leads who (Some w) = same_who w who

leads-some : (who : Who) (o : Option Who) → leads who o ≡ true → o ≡ Some who
leads-some who None h = absurd (cc)
leads-some who (Some w) h = ap Some (same_who_eq w who h)

some-leads : (who : Who) (o : Option Who) → o ≡ Some who → leads who o ≡ true
some-leads who o is = ap (leads who) is ∙ same_who_refl who

-- those of its fields, and all of them
module _ (who : Who) where
  abbrev one : Option Who → ℕ
  one o = hits_in (hit who) o

  peer-is : (p : Peer) → one (and_then pointed (peer Pointer p)) ≡ peer_hits who p
  peer-is (peers.Thread w) = refl
  peer-is peers.Service = refl
  peer-is peers.Parked = refl

  taker-is : (o : Option Peer) → one (and_then pointed (and_then (peer Pointer) o)) ≡ hits_in (peer_hits who) o
  taker-is None = refl
  taker-is (Some p) = peer-is p

  talk-is : (o : Option Talk) → one (and_then pointed (and_then (of_talk 0) o)) + one (and_then pointed (and_then (of_talk 1) o)) ≡ hits_in (talk_hits who) o
  unfolding of_talk
  talk-is None = refl
  talk-is (Some talk) = ap (λ n. hit who talk.port + n) (peer-is talk.peer)

  fault-is : (o : Option Fault) →
      one (and_then pointed (and_then (of_fault 3) o)) + one (and_then pointed (and_then (of_fault 4) o)) ≡ hits_in (fault_hits who) o
  unfolding of_fault
  fault-is None = refl
  fault-is (Some fault) = ap (λ n. hit who fault.port + n) (taker-is fault.taker)

  alone : (n : ℕ) → (n + 0) + (0 + 0) ≡ n
  alone n = omega arith

  pointer-is : (p : Ptr) → (one (and_then pointed (pointer p)) + 0) + (0 + 0) ≡ pointer_hits who p
  pointer-is Null = refl
  pointer-is Dead = refl
  pointer-is (At w) = alone (hit who w)

  leading-is : (b : Body) → leading who b ≡ body_hits who b
  unfolding leading target led of_thread
  leading-is (Mutex locked) = refl
  leading-is Cond = refl
  leading-is (Mapping page count offset write region) = pointer-is region
  leading-is (Region page count write keeper) = pointer-is keeper
  leading-is (Port set served) = refl
  leading-is Portset = refl
  leading-is (Space birth None) = refl
  leading-is (Space birth (Some holder)) = alone (hit who holder)
  leading-is (Thread thread) = λ i. talk-is thread.talk i + fault-is thread.fault i
  leading-is (Reference to) = pointer-is to

-- ---- the nodes of an object

abbrev nodes4 : ℕ → List ℕ
nodes4 k = node_of k 0 ∷ node_of k 1 ∷ node_of k 3 ∷ node_of k 4 ∷ []

in4 : (k : ℕ) (y : ℕ) → IsIn y (nodes4 k) → (i : ℕ) × (i < 5) × (i ≢ 2) × (node_of k i ≡ y)
in4 k y (inl e) = (0, omega arith, λ two. absurd (omega (arith, two)), e)
in4 k y (inr (inl e)) = (1, omega arith, λ two. absurd (omega (arith, two)), e)
in4 k y (inr (inr (inl e))) = (3, omega arith, λ two. absurd (omega (arith, two)), e)
in4 k y (inr (inr (inr (inl e)))) = (4, omega arith, λ two. absurd (omega (arith, two)), e)
in4 k y (inr (inr (inr (inr h)))) = absurd h

differ4 : (k : ℕ) → Differ (nodes4 k)
differ4 k = (first, (then_, (last, (λ h. h, tt))))
  where
    first : IsIn (node_of k 0) (node_of k 1 ∷ node_of k 3 ∷ node_of k 4 ∷ []) → ⊥
    first (inl e) = absurd (omega (arith, e))
    first (inr (inl e)) = absurd (omega (arith, e))
    first (inr (inr (inl e))) = absurd (omega (arith, e))
    first (inr (inr (inr h))) = h

    then_ : IsIn (node_of k 1) (node_of k 3 ∷ node_of k 4 ∷ []) → ⊥
    then_ (inl e) = absurd (omega (arith, e))
    then_ (inr (inl e)) = absurd (omega (arith, e))
    then_ (inr (inr h)) = h

    last : IsIn (node_of k 3) (node_of k 4 ∷ []) → ⊥
    last (inl e) = absurd (omega (arith, e))
    last (inr h) = h

own4 : (n : ℕ) → is_head n ≡ false → IsIn n (nodes4 (n / 5))
own4 n field = by (n % 5 == 0) refl (n % 5 == 1) refl (n % 5 == 3) refl
  where
    at_field : (i : ℕ) → (n % 5 == i) ≡ true → node_of (n / 5) i ≡ n
    at_field i e = let rest : n % 5 ≡ i = grind (arith, nat_tests) in omega (arith, rest)

    by : (a : Bool) → (n % 5 == 0) ≡ a → (b : Bool) → (n % 5 == 1) ≡ b → (c : Bool) → (n % 5 == 3) ≡ c → IsIn n (nodes4 (n / 5))
    by true e b f c g = inl (at_field 0 e)
    by false e true f c g = inr (inl (at_field 1 f))
    by false e false f true g = inr (inr (inl (at_field 3 g)))
    by false e false f false g =
        let low : n % 5 < 5 = omega arith in
        let last : (n % 5 == 4) ≡ true = grind (arith, nat_tests) in
        inr (inr (inr (inl (at_field 4 last))))

module _ (k i : ℕ) (few : i < 5) where
  node-key : node_of k i / 5 ≡ k
  node-key = omega (arith, few)

  node-field : node_of k i % 5 ≡ i
  node-field = omega (arith, few)

  node-pointer : i ≢ 2 → is_head (node_of k i) ≡ false
  node-pointer apart = let rest = node-field in grind (arith, nat_tests)

-- ---- the nodes of all that lead there

abbrev entry : Type 0
entry = Who × Body

-- the key of what is there
abbrev num : Option ℕ → ℕ
num None = 0
num (Some k) = k

-- an entry stands under its key
record Stands (o : Filed) (e : entry) : Type 0 where
  key : ℕ
  keyed : key_of o e.0 ≡ Some key
  named : name_under o key ≡ Some e.0
  there : body_under o key ≡ Some e.1

-- a node whose object isn't there has no name, and another is the first
name_skipped : (o : Filed) (n : ℕ) (nodes : List ℕ) → name_under o (n / 5) ≡ None → names_of o (n ∷ nodes) ≡ names_of o nodes
name_skipped o n nodes e = rw e refl

name_first : (o : Filed) (n : ℕ) (w : Who) (nodes : List ℕ) → name_under o (n / 5) ≡ Some w → names_of o (n ∷ nodes) ≡ w ∷ names_of o nodes
name_first o n w nodes e = rw e refl

module _ (o : Filed) (who : Who) where
  abbrev key_at : entry → ℕ
  key_at e = num (key_of o e.0)

  key_is : (e : entry) (s : Stands o e) → key_at e ≡ s.key
  key_is e s = ap num s.keyed

  abbrev leads_at : Body → ℕ → Bool
  leads_at b n = leads who (target (n % 5) b)

  abbrev nodes_of : entry → List ℕ
  nodes_of e = filter (leads_at e.1) (nodes4 (key_at e))

  abbrev all_nodes : List entry → List ℕ
  all_nodes [] = []
  all_nodes (e ∷ es) = nodes_of e ++ all_nodes es

  of_nodes : (e : entry) → (y : ℕ) → IsIn y (nodes_of e) → (y / 5 ≡ key_at e) × (is_head y ≡ false) × (target (y % 5) e.1 ≡ Some who)
  of_nodes e y h =
      let passed = of_filter (leads_at e.1) y (nodes4 (key_at e)) h in
      let found = in4 (key_at e) y passed.0 in
      let i = found.0 in (
        ap (λ n. n / 5) (sym found.3) ∙ node-key (key_at e) i found.1,
        ap is_head (sym found.3) ∙ node-pointer (key_at e) i found.1 found.2,
        leads-some who (target (y % 5) e.1) passed.1,
      )

  of_all : (es : List entry) (y : ℕ) → IsIn y (all_nodes es) → (e : entry) × IsIn e es × IsIn y (nodes_of e)
  of_all [] y h = absurd h
  of_all (e ∷ es) y h = by (in_either y (nodes_of e) (all_nodes es) h) (of_all es y)
    where
      by : IsIn y (nodes_of e) ⊎ IsIn y (all_nodes es) → (IsIn y (all_nodes es) → (d : entry) × IsIn d es × IsIn y (nodes_of d)) →
          (d : entry) × IsIn d (e ∷ es) × IsIn y (nodes_of d)
      by (inl a) rest = (e, inl refl, a)
      by (inr b) rest = let found = rest b in (found.0, inr found.1, found.2)

  in_all : (es : List entry) (e : entry) (y : ℕ) → IsIn e es → IsIn y (nodes_of e) → IsIn y (all_nodes es)
  in_all [] e y is h = absurd is
  in_all (d ∷ es) e y (inl same) h = in_left y (nodes_of d) (all_nodes es) (subst (λ x. IsIn y (nodes_of x)) (sym same) h)
  in_all (d ∷ es) e y (inr is) h = in_right y (nodes_of d) (all_nodes es) (in_all es e y is h)

  all-differ : IsFiled o → (es : List entry) → T (is_sorted who_cmp es) → ((e : entry) → IsIn e es → Stands o e) → Differ (all_nodes es)
  all-differ filed [] s stands = tt
  all-differ filed (d ∷ es) s stands =
      differ-append (nodes_of d) (all_nodes es) (differ-filter (leads_at d.1) (nodes4 (key_at d)) (differ4 (key_at d)))
      (all-differ filed es (second (below_all who_cmp d.0 es) (is_sorted who_cmp es) s) (λ e h. stands e (inr h))) apart
    where
      apart : (y : ℕ) → IsIn y (nodes_of d) → IsIn y (all_nodes es) → ⊥
      apart y a b =
          let found = of_all es y b in
          let e = found.0 in
          let d_stands = stands d (inl refl) in
          let e_stands = stands e (inr found.1) in
          let here : y / 5 ≡ d_stands.key = (of_nodes d y a).0 ∙ key_is d d_stands in
          let there : y / 5 ≡ e_stands.key = (of_nodes e y found.2).0 ∙ key_is e e_stands in
          let one : key_of o e.0 ≡ Some d_stands.key = e_stands.keyed ∙ ap Some (sym there ∙ here) in
          let same : e.0 ≡ d.0 = keys_apart o filed e.0 d.0 d_stands.key one d_stands.keyed in
          let low : who_cmp d.0 e.0 ≡ Less = first_apart who_total d es e s found.1 in
          let less : who_cmp d.0 d.0 ≡ Less = subst (λ w. who_cmp d.0 w ≡ Less) same low in
          let both : Less ≡ Equal = sym less ∙ tied_itself who_total d.0 in
          absurd (cc)

  -- ---- sums over those that pass a test

  module _ (test : Who → Bool) where
    abbrev one_name : Who → ℕ
    one_name w = cond {A = ℕ} (test w) 1 0

    abbrev at_node : ℕ → ℕ
    at_node n = of_cell one_name (name_under o (n / 5))

    abbrev at_entry : entry → ℕ
    at_entry e = cond (test e.0) (body_hits who e.1) 0

    flip : (t : Option Who) (b : Bool) → cond (leads who t) (cond {A = ℕ} b 1 0) 0 ≡ cond b (one who t) 0
    flip None true = refl
    flip None false = refl
    flip (Some w) true = refl
    flip (Some w) false = by (same_who w who)
      where
        by : (b : Bool) → cond {A = ℕ} b 0 0 ≡ 0
        by true = refl
        by false = refl

    sum-node : (e : entry) → Stands o e → (i : ℕ) → i < 5 →
        cond (leads_at e.1 (node_of (key_at e) i)) (at_node (node_of (key_at e) i)) 0 ≡ cond (test e.0) (one who (target i e.1)) 0
    sum-node e s i few =
        (λ j. cond (leads who (target (node-field (key_at e) i few j) e.1)) (of_cell one_name (name_under o (node-key (key_at e) i few j))) 0)
        ∙ ap (λ x. cond (leads who (target i e.1)) (of_cell one_name x) 0) (ap (name_under o) (key_is e s) ∙ s.named)
        ∙ flip (target i e.1) (test e.0)

    spread : (b : Body) (t : Bool) → cond t (one who (target 0 b)) 0 + (cond t (one who (target 1 b)) 0 + (cond t (one who (target 3 b)) 0
        + cond t (one who (target 4 b)) 0)) ≡ cond t (leading who b) 0
    unfolding leading
    spread b true = omega arith
    spread b false = refl

    sum-nodes : (e : entry) → Stands o e → sum_by at_node (nodes_of e) ≡ at_entry e
    sum-nodes e s =
        let k = key_at e in
        let f : ℕ → ℕ = λ n. cond (leads_at e.1 n) (at_node n) 0 in
        let all = sum_filtered at_node (leads_at e.1) (nodes4 k) in
        let a = sum_by-cons f (node_of k 0) (node_of k 1 ∷ node_of k 3 ∷ node_of k 4 ∷ []) in
        let b = sum_by-cons f (node_of k 1) (node_of k 3 ∷ node_of k 4 ∷ []) in
        let c = sum_by-cons f (node_of k 3) (node_of k 4 ∷ []) in
        let d = sum_by-cons f (node_of k 4) [] in
        let none : sum_by f [] ≡ 0 = refl in
        let a1 = sum-node e s 0 (omega arith) in
        let b1 = sum-node e s 1 (omega arith) in
        let c1 = sum-node e s 3 (omega arith) in
        let d1 = sum-node e s 4 (omega arith) in
        four (f (node_of k 0)) (f (node_of k 1)) (f (node_of k 3)) (f (node_of k 4)) _ _ _ _ _ _ _ _ _ all a b c d none a1 b1 c1 d1
        ∙ spread e.1 (test e.0)
        ∙ ap (λ n. cond (test e.0) n 0) (leading-is who e.1)
      where
        four : (fa fb fc fd s0 s1 s2 s3 s4 ga gb gc gd : ℕ) {s : ℕ} → s ≡ s0 → s0 ≡ fa + s1 → s1 ≡ fb + s2 → s2 ≡ fc + s3 → s3 ≡ fd + s4 → s4 ≡ 0 →
            fa ≡ ga → fb ≡ gb → fc ≡ gc → fd ≡ gd → s ≡ ga + (gb + (gc + gd))
        four fa fb fc fd s0 s1 s2 s3 s4 ga gb gc gd all a b c d none a1 b1 c1 d1 = omega (arith, all, a, b, c, d, none, a1, b1, c1, d1)

    all-sum : (es : List entry) → ((e : entry) → IsIn e es → Stands o e) → sum_by at_node (all_nodes es) ≡ sum_by at_entry es
    all-sum [] stands = refl
    all-sum (e ∷ es) stands =
        sum_by-append at_node (nodes_of e) (all_nodes es)
        ∙ (λ i. sum-nodes e (stands e (inl refl)) i + all-sum es (λ d h. stands d (inr h)) i)
        ∙ sym (sum_by-cons at_entry e es)

    -- by the names of the nodes
    sum-names : (nodes : List ℕ) → sum_by one_name (names_of o nodes) ≡ sum_by at_node nodes
    sum-names [] = refl
    sum-names (n ∷ nodes) = by (name_under o (n / 5)) refl (sum-names nodes)
      where
        by : (x : Option Who) → name_under o (n / 5) ≡ x → sum_by one_name (names_of o nodes) ≡ sum_by at_node nodes →
            sum_by one_name (names_of o (n ∷ nodes)) ≡ sum_by at_node (n ∷ nodes)
        by None e rest =
            let two = sum_by-cons at_node n nodes in
            let here : at_node n ≡ 0 = ap (of_cell one_name) e in
            ap (sum_by one_name) (name_skipped o n nodes e) ∙ omega (arith, two, here, rest)
        by (Some w) e rest =
            let one = sum_by-cons one_name w (names_of o nodes) in
            let two = sum_by-cons at_node n nodes in
            let here : at_node n ≡ one_name w = ap (of_cell one_name) e in
            ap (sum_by one_name) (name_first o n w nodes e) ∙ omega (arith, one, two, here, rest)

-- ---- a walk along the ring

module _ (o : Filed) (filed : IsFiled o) (leads_all : AreThere o) (who : Who) where
  abbrev m : FinMap who_cmp Body
  m = bodies o

  in_map : (e : entry) → IsIn e (entries m) → get m e.0 ≡ Some e.1
  in_map e h = get-entries m e.0 ∙ member-found who_total (entries m) e (entries_sorted m) h

  stands : (e : entry) → IsIn e (entries m) → Stands o e
  stands e h =
      let found = get_under o e.0 e.1 (in_map e h) in
      record { key = found.0; keyed = found.1; named = filed.filed e.0 found.0 found.1; there = found.2 }

  module _ (key : ℕ) (here : key_of o who ≡ Some key) (nodes : List ℕ) (are : AreLeaders (owner o) (node_of key 2) nodes) where
    to : (n : ℕ) → IsIn n nodes → IsIn n (all_nodes o who (entries m))
    to n is =
        let found = leads_there o filed who key here n (are.lead n is).1 in
        let name = name_there o (n / 5) found.0 filed found.1 in
        let member = found-member who_total (entries m) name.0 found.0 (sym (get-entries m name.0) ∙ get_at o name.0 (n / 5) name.2 ∙ found.1) in
        let same : name.0 ≡ member.0.0 = who_tied name.0 member.0.0 member.2 in
        let key_same : n / 5 ≡ key_at o who member.0 = sym (ap num (sym (ap (key_of o) same) ∙ name.2)) in
        let own = subst (λ k. IsIn n (nodes4 k)) key_same (own4 n (are.lead n is).0) in
        in_all o who (entries m) member.0 n member.1
        (in_filter (leads_at o who member.0.1) n (nodes4 (key_at o who member.0)) own
        (some-leads who (target (n % 5) member.0.1) (ap (target (n % 5)) member.3 ∙ found.2)))

    from : (n : ℕ) → IsIn n (all_nodes o who (entries m)) → IsIn n nodes
    unfolding owner
    from n h =
        let found = of_all o who (entries m) n h in
        let e = found.0 in
        let s = stands e found.1 in
        let at_e = of_nodes o who e n found.2 in
        let under : body_under o (n / 5) ≡ Some e.1 = ap (body_under o) (at_e.0 ∙ key_is o who e s) ∙ s.there in
        are.all n at_e.1 (ap (λ x. and_then (head_by o) (and_then (target (n % 5)) x)) under ∙ ap (and_then (head_by o)) at_e.2
        ∙ ap (option_map (λ k. node_of k 2)) here)

    -- it comes to as many that pass a test as they have pointers that lead there
    led-sum : (test : Who → Bool) → sum_by (λ q. cond {A = ℕ} (test q) 1 0) (names_of o nodes) ≡ sum_by (λ e. cond (test e.0) (body_hits who e.1) 0) (entries m)
    led-sum test =
        sum-names o who test nodes
        ∙ same_sum (at_node o who test) nodes (all_nodes o who (entries m)) are.differ (all-differ o who filed (entries m) (entries_sorted m) stands) to from
        ∙ all-sum o who test (entries m) stands

    -- and to all of them
    led-all : (q : Who) (b : Body) → get m q ≡ Some b → body_hits who b ≢ 0 → IsIn q (names_of o nodes)
    led-all q b there hits =
        let found = get_under o q b there in
        let led = hits-led who b hits in
        let node = leads_by o filed who key here found.0 b led.0 found.2 led.1 in
        named_in (node_of found.0 led.0) q nodes (ap (name_under o) node.2 ∙ filed.filed q found.0 found.1) (are.all (node_of found.0 led.0) node.0 node.1)
      where
        named_in : (n : ℕ) (q : Who) (ns : List ℕ) → name_under o (n / 5) ≡ Some q → IsIn n ns → IsIn q (names_of o ns)
        named_in n q [] is h = absurd h
        named_in n q (k ∷ ns) is (inl same) = rw (ap (λ k. name_under o (k / 5)) same ∙ is) (inl refl)
        named_in n q (k ∷ ns) is (inr h) = by (name_under o (k / 5)) refl (named_in n q ns is h)
          where
            by : (x : Option Who) → name_under o (k / 5) ≡ x → IsIn q (names_of o ns) → IsIn q (names_of o (k ∷ ns))
            by None e rest = rw e rest
            by (Some w) e rest = rw e (inr rest)

  -- where the object isn't there
  none_hit : key_of o who ≡ None → (q : Who) (b : Body) → get m q ≡ Some b → body_hits who b ≡ 0
  none_hit none q b there = not_nonzero (body_hits who b) (λ hits.
      let found = get_under o q b there in
      let led = hits-led who b hits in
      let some = leads_all found.0 b led.0 (lead_by Pointer who) found.2 led.1 in
      absurd (let gone = ap is_some none in cc))

  none-sum : key_of o who ≡ None → (test : Who → Bool) → 0 ≡ sum_by (λ e. cond (test e.0) (body_hits who e.1) 0) (entries m)
  none-sum none test = sym (sum_same (λ (e : entry). cond (test e.0) (body_hits who e.1) 0) (λ e. 0) (entries m) each
      ∙ sum_none (λ (e : entry). 0) (entries m) (λ e. refl))
    where
      each : (e : entry) → IsIn e (entries m) → cond (test e.0) (body_hits who e.1) 0 ≡ 0
      each e h = by (test e.0)
        where
          by : (t : Bool) → cond t (body_hits who e.1) 0 ≡ 0
          by true = none_hit none e.0 e.1 (in_map e h)
          by false = refl

  pub leaders-sum : (key : Option ℕ) (names : List Who) → key ≡ key_of o who → AreLeadersOf o key names → (test : Who → Bool) →
      sum_by (λ q. cond {A = ℕ} (test q) 1 0) names ≡ sum_by (λ e. cond (test e.0) (body_hits who e.1) 0) (entries m)
  leaders-sum None names is are test = ap (sum_by (λ q. cond {A = ℕ} (test q) 1 0)) are ∙ none-sum (sym is) test
  leaders-sum (Some key) names is are test = ap (sum_by (λ q. cond {A = ℕ} (test q) 1 0)) are.named ∙ led-sum key (sym is) are.nodes are.are test

  pub leaders-all : (key : Option ℕ) (names : List Who) → key ≡ key_of o who → AreLeadersOf o key names →
      (q : Who) (b : Body) → get m q ≡ Some b → body_hits who b ≢ 0 → IsIn q names
  leaders-all None names is are q b there hits = absurd (hits (none_hit (sym is) q b there))
  leaders-all (Some key) names is are q b there hits = subst (IsIn q) (sym are.named) (led-all key (sym is) are.nodes are.are q b there hits)

-- ---- counted one by one

sum-ones : (whos : List Who) → sum_by (λ q. 1) whos ≡ length whos
sum-ones [] = refl
sum-ones (q ∷ whos) = let here = sum_by-cons (λ (q : Who). 1) q whos in let rest = sum-ones whos in omega (arith, here, rest)

pub count-begins : (whos : List Who) (all : ℕ) → sum_by (λ q. 1) whos ≡ all → 0 + length whos ≡ all
count-begins whos all is = let long = sum-ones whos in omega (arith, long, is)

pub count-goes : (from : Who) (whos more : List Who) (count all : ℕ) → whos ≡ from ∷ more → count + length whos ≡ all → (count + 1) + length more ≡ all
count-goes from whos more count all is so_far = let long : length whos ≡ length (from ∷ more) = ap length is in omega (arith, long, so_far)

pub count-room : (from : Who) (whos more : List Who) (count most : ℕ) → whos ≡ from ∷ more → count + length whos ≤ most → (count + 1) + length more ≤ most
count-room from whos more count most is room = let long : length whos ≡ length (from ∷ more) = ap length is in omega (arith, long, room)

pub count-ends : (whos : List Who) (count all : ℕ) → whos ≡ [] → count + length whos ≡ all → count ≡ all
count-ends whos count all none so_far = let long : length whos ≡ 0 = ap length none in omega (arith, long, so_far)
