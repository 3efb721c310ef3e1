-- Pointers: those of all bodies that lead to an object by name are those of all objects of the world that lead to it.
use Rattle.std.proofs.Common.{◌≡◌, ℕ, ◌+◌, ◌<◌, ◌≤◌, inl, inr, true, cond, List, [], ◌∷◌, map, length, Option, Some, None, option_map, IsSome}
use Rattle.std.proofs.Common.{is_some, T, refl, sym, ap, subst, ◌∙◌, arith}
use Rattle.std.specs.List.{sum_by}
use Rattle.std.proofs.lemmas.List.Sums.{sum_by-cons, sum_by-append}
use Rattle.std.specs.declared.cmp.Ordering.{Ordering}
use Rattle.std.specs.declared.cmp.Ordering.TheVariants.{Less, Equal, Greater}
use Rattle.std.proofs.lemmas.Cmp.{tied_itself}
use Rattle.fk_store.proofs.InFreezing.Found.{second}
use Rattle.std.specs.FinMap.Entries.{below_all}
use Rattle.std.specs.FinMap.{get, entries, entries_sorted, get-entries, is_sorted}
use Rattle.fk_model.specs.declared.names.Who.{Who}
use Rattle.fk_model.specs.declared.names.Ptr as stored_ptr
use Rattle.fk_model.specs.declared.names.Ptr.TheVariants as stored
use Rattle.fk_model.specs.declared.thread.Peer as peers_of
use Rattle.fk_model.specs.declared.thread.Peer.TheVariants as peers
use Rattle.fk_model.specs.declared.thread.Talk as talks_of
use Rattle.fk_model.specs.declared.thread.Fault as faults_of
use Rattle.fk_model.specs.declared.body.Body as bodies_of
use Rattle.fk_model.specs.declared.body.Body.TheVariants as bodies
use Rattle.fk_model.specs.Places.{Path, Ptr, leads_to, same_path}
use Rattle.fk_model.specs.Places.Ptr.{At}
use Rattle.fk_model.specs.Objects.{Body, kind_of}
use Rattle.fk_model.specs.Searches.{depth, objects, pointers_to, option_list, peer_pointer, talk_pointers, fault_pointers}
use Rattle.fk_model.specs.Valid.{kind_there}
use Rattle.fk_model.proofs.walks.Members.{IsIn}
use Rattle.fk_store.specs.Freezing.Names.{who_cmp}
use Rattle.fk_store.specs.Freezing.Pointers.{hit, hits_in, pointer_hits, peer_hits, talk_hits, fault_hits, body_hits}
use Rattle.fk_store.proofs.InFreezing.NameLaws.{who_total, who_tied, same_who_eq}
use Rattle.fk_store.proofs.InFreezing.Found.{member-found, found-member, first_apart}
use Rattle.fk_store.specs.Store.Contents.{Contents}
use Rattle.fk_store.specs.Store.Paths.{path, place, HasOwnPath}
use Rattle.fk_store.specs.Store.Bodies.{pointer_by, peer_by, talk_by, fault_by, body_by}
use Rattle.fk_store.specs.Store.Named.{Each, OnPointer, OnPeer, OnTalk, OnFault, OnNamed}
use Rattle.fk_store.specs.Store.World.{world}
use Rattle.fk_store.specs.Store.WellFormed.{is_there, IsWellFormed}
use Rattle.fk_store.proofs.InStore.finding.NamedLaws.{OnNamed-map}
use Rattle.fk_store.proofs.InStore.finding.Walks.{place-apart, same_path_refl}
use Rattle.fk_store.proofs.InStore.finding.LookUps.{body-place}
use Rattle.fk_store.proofs.InStore.finding.Enumerated.{named-object}
use Rattle.fk_store.proofs.InStore.finding.Players.{among}
use Rattle.fk_store.proofs.InFreezing.Lists.{Differ, same_sum}
use Rattle.fk_store.proofs.InStore.finding.Listed.{objects-differ, objects-live, not_root}

some_kind : (o : Option Body) → IsSome o → IsSome (option_map kind_of o)
some_kind None h = h
some_kind (Some b) h = refl

not_less : (o : Ordering) → o ≡ Less → o ≡ Equal → ⊥
not_less Less h e = cc
not_less Equal h e = cc
not_less Greater h e = cc

-- ---- one body

module _ (p : ℕ → Path) (who : Who) where
  abbrev to : Ptr → ℕ
  to ptr = cond {A = ℕ} (leads_to (place p who) ptr) 1 0

  alone : (ptr : Ptr) → to ptr ≡ sum_by to (ptr ∷ [])
  alone ptr = let none : to ptr + 0 ≡ to ptr = omega arith in sym none ∙ sym (sum_by-cons to ptr [])

  hit-by : (other : Who) → HasOwnPath p other → hit who other ≡ to (At (place p other))
  hit-by other apart = ap (λ t. cond {A = ℕ} t 1 0) (sym (apart who).1)

  pointer_hits-by : (ptr : stored_ptr.Ptr) → OnPointer (HasOwnPath p) ptr → pointer_hits who ptr ≡ sum_by to (pointer_by p ptr ∷ [])
  pointer_hits-by stored.Null h = refl
  pointer_hits-by stored.Dead h = refl
  pointer_hits-by (stored.At other) h = hit-by other h ∙ alone (At (place p other))

  peer_hits-by : (peer : peers_of.Peer) → OnPeer (HasOwnPath p) peer → peer_hits who peer ≡ sum_by to (peer_pointer (peer_by p peer))
  peer_hits-by (peers.Thread other) h = hit-by other h ∙ alone (At (place p other))
  peer_hits-by peers.Service h = refl
  peer_hits-by peers.Parked h = refl

  talk_hits-by : (talk : talks_of.Talk) → OnTalk (HasOwnPath p) talk → talk_hits who talk ≡ sum_by to (talk_pointers (talk_by p talk))
  talk_hits-by talk h =
      (λ i. hit-by talk.port h.0 i + peer_hits-by talk.peer h.1 i) ∙ sym (sum_by-cons to (At (place p talk.port)) (peer_pointer (peer_by p talk.peer)))

  taker_hits-by : (o : Option peers_of.Peer) →
      Each (OnPeer (HasOwnPath p)) o → hits_in (peer_hits who) o ≡ sum_by to (option_list peer_pointer (option_map (peer_by p) o))
  taker_hits-by None h = refl
  taker_hits-by (Some peer) h = peer_hits-by peer h

  fault_hits-by : (fault : faults_of.Fault) → OnFault (HasOwnPath p) fault → fault_hits who fault ≡ sum_by to (fault_pointers (fault_by p fault))
  fault_hits-by fault h = (λ i. hit-by fault.port h.0 i + taker_hits-by fault.taker h.1 i)
      ∙ sym (sum_by-cons to (At (place p fault.port)) (option_list peer_pointer (option_map (peer_by p) fault.taker)))

  talks_hits-by : (o : Option talks_of.Talk) →
      Each (OnTalk (HasOwnPath p)) o → hits_in (talk_hits who) o ≡ sum_by to (option_list talk_pointers (option_map (talk_by p) o))
  talks_hits-by None h = refl
  talks_hits-by (Some talk) h = talk_hits-by talk h

  faults_hits-by : (o : Option faults_of.Fault) →
      Each (OnFault (HasOwnPath p)) o → hits_in (fault_hits who) o ≡ sum_by to (option_list fault_pointers (option_map (fault_by p) o))
  faults_hits-by None h = refl
  faults_hits-by (Some fault) h = fault_hits-by fault h

  holder_hits-by : (o : Option Who) →
      Each (HasOwnPath p) o → hits_in (hit who) o ≡ sum_by to (option_list (λ ptr. ptr ∷ []) (option_map (λ who. At (place p who)) o))
  holder_hits-by None h = refl
  holder_hits-by (Some holder) h = hit-by holder h ∙ alone (At (place p holder))

  pub body_hits-by : (b : bodies_of.Body) → OnNamed (HasOwnPath p) b → body_hits who b ≡ pointers_to (place p who) (Some (body_by p b))
  body_hits-by (bodies.Mutex locked) h = refl
  body_hits-by bodies.Cond h = refl
  body_hits-by (bodies.Mapping first count offset write region) h = pointer_hits-by region h
  body_hits-by (bodies.Region first count write keeper) h = pointer_hits-by keeper h
  body_hits-by (bodies.Port set served) h = refl
  body_hits-by bodies.Portset h = refl
  body_hits-by (bodies.Space birth holder) h = holder_hits-by holder h
  body_hits-by (bodies.Thread thread) h =
      (λ i. talks_hits-by thread.talk h.0 i + faults_hits-by thread.fault h.1 i)
      ∙ sym (sum_by-append to
      (option_list talk_pointers (option_map (talk_by p) thread.talk)) (option_list fault_pointers (option_map (fault_by p) thread.fault)))
  body_hits-by (bodies.Reference to) h = pointer_hits-by to h

-- ---- all bodies

pub kind_some : (m : Contents) (k : ℕ) (s : Path) → IsSome ((world m).body (k ∷ s)) → IsSome (kind_there (world m) (k ∷ s))
unfolding kind_there
kind_some m k s some = some_kind ((world m).body (k ∷ s)) some

module _ (m : Contents) (kept : IsWellFormed m) where
  abbrev pub entry : Type 0
  entry = Who × bodies_of.Body

  abbrev pub place_at : entry → Path
  place_at e = place (path m) e.0

  pub there : (e : entry) → IsIn e (entries m.bodies) → get m.bodies e.0 ≡ Some e.1
  there e h = get-entries m.bodies e.0 ∙ member-found who_total (entries m.bodies) e (entries_sorted m.bodies) h

  pub in_map : (e : entry) (es : List entry) → IsIn e es → IsIn (place_at e) (map place_at es)
  in_map e [] h = absurd h
  in_map e (d ∷ es) (inl same) = inl (ap place_at same)
  in_map e (d ∷ es) (inr h) = inr (in_map e es h)

  pub of_map : (y : Path) (es : List entry) → IsIn y (map place_at es) → (e : entry) × IsIn e es × (place_at e ≡ y)
  of_map y [] h = absurd h
  of_map y (d ∷ es) (inl same) = (d, inl refl, same)
  of_map y (d ∷ es) (inr h) = let found = of_map y es h in (found.0, inr found.1, found.2)

  -- no two entries have one path
  pub places-differ : (es : List entry) → ((e : entry) → IsIn e es → is_there m e.0 ≡ true) → T (is_sorted who_cmp es) → Differ (map place_at es)
  places-differ [] lives s = tt
  places-differ (d ∷ es) lives s = (λ h. again (of_map (place_at d) es h), places-differ es (λ e h. lives e (inr h)) (rest s))
    where
      rest : T (is_sorted who_cmp (d ∷ es)) → T (is_sorted who_cmp es)
      rest s = second (below_all who_cmp d.0 es) (is_sorted who_cmp es) s

      again : (e : entry) × IsIn e es × (place_at e ≡ place_at d) → ⊥
      again found =
          let e = found.0 in
          let low = first_apart who_total d es e s found.1 in
          let own = place-apart m kept d.0 (kept.housed d.0 (lives d (inl refl))) in
          let path_same = subst (λ x. same_path x (place_at d) ≡ true) (sym found.2) (same_path_refl (place_at d)) in
          let same : e.0 ≡ d.0 = same_who_eq e.0 d.0 (sym (own e.0).0 ∙ path_same) in
          let tied = subst (λ w. who_cmp d.0 w ≡ Less) same low in
          let itself = tied_itself who_total d.0 in
          not_less (who_cmp d.0 d.0) tied itself

  -- a sum over all objects, listed either way
  pub sum-objects : m.next ≤ depth → (f : Path → ℕ) → sum_by f (objects (world m)) ≡ sum_by f (map place_at (entries m.bodies))
  sum-objects few f = same_sum f (objects (world m)) (map place_at (entries m.bodies)) (objects-differ (world m))
      (places-differ (entries m.bodies) (λ e h. ap is_some (there e h)) (entries_sorted m.bodies))
      (λ y h. named y h (not_root (world m) y h))
      (λ y h. let found = of_map y (entries m.bodies) h in
      subst (λ x. IsIn x (objects (world m))) found.2 (among m kept few found.0.0 found.0.1 (there found.0 found.1)))
    where
      named : (y : Path) → IsIn y (objects (world m)) → 0 < length y → IsIn y (map place_at (entries m.bodies))
      named [] h long = absurd (omega arith)
      named (k ∷ s) h long =
          let some = objects-live (world m) (k ∷ s) h in
          let who = named-object m kept k s (kind_some m k s some) in
          found who.0 who.1 (get m.bodies who.0) refl some
        where
          found : (who : Who) → place (path m) who ≡ k ∷ s →
              (o : Option bodies_of.Body) → get m.bodies who ≡ o → IsSome ((world m).body (k ∷ s)) → IsIn (k ∷ s) (map place_at (entries m.bodies))
          found who here None e some =
              let empty : (world m).body
              (k ∷ s) ≡ None = subst (λ x. (world m).body x ≡ None) here (body-place m kept who ∙ ap (option_map (body_by (path m))) e) in
              let none = ap is_some empty in
              absurd (cc)
          found who here (Some b) e some =
              let member = found-member who_total (entries m.bodies) who b (sym (get-entries m.bodies who) ∙ e) in
              let same : who ≡ member.0.0 = who_tied who member.0.0 member.2 in
              subst (λ y. IsIn y (map place_at (entries m.bodies))) (ap (place (path m)) (sym same) ∙ here) (in_map member.0 (entries m.bodies) member.1)

  -- those that lead to an object
  pub sum-hits : m.next ≤ depth → (who : Who) →
      sum_by (λ (e : entry). body_hits who e.1) (entries m.bodies) ≡ sum_by (λ q. pointers_to (place (path m) who) ((world m).body q)) (objects (world m))
  sum-hits few who = hits (entries m.bodies) (λ e h. h) ∙ sym (sum-objects few (λ q. pointers_to (place (path m) who) ((world m).body q)))
    where
      one : (e : entry) → IsIn e (entries m.bodies) → body_hits who e.1 ≡ pointers_to (place (path m) who) ((world m).body (place_at e))
      one e h =
          body_hits-by (path m) who e.1 (OnNamed-map (λ q. is_there m q ≡ true)
          (HasOwnPath (path m)) (λ q g. place-apart m kept q (kept.housed q g)) e.1 (kept.leads e.0 e.1 (there e h)))
          ∙ ap (pointers_to (place (path m) who)) (sym (body-place m kept e.0 ∙ ap (option_map (body_by (path m))) (there e h)))

      hits : (es : List entry) → ((e : entry) → IsIn e es → IsIn e (entries m.bodies)) →
          sum_by (λ (e : entry). body_hits who e.1) es ≡ sum_by (λ q. pointers_to (place (path m) who) ((world m).body q)) (map place_at es)
      hits [] all = refl
      hits (e ∷ es) all =
          sum_by-cons (λ (e : entry). body_hits who e.1) e es
          ∙ (λ i. one e (all e (inl refl)) i + hits es (λ d h. all d (inr h)) i)
          ∙ sym (sum_by-cons (λ q. pointers_to (place (path m) who) ((world m).body q)) (place_at e) (map place_at es))
