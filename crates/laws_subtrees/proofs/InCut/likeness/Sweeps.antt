-- The death and the renaming of an object inside sweep alike over a likeness.
use Rattle.std.proofs.Common.{◌≡◌, ℕ, Bool, true, false, cond, ◌||◌, [], ◌∷◌, ◌++◌, Option, Some, None, IfSome, option_map, refl, sym, ap, ap₂, ◌∙◌}
use Rattle.fk_model.specs.declared.names.Kind.TheVariants as kinds
use Rattle.fk_model.specs.Places.{Path, same_path, is_within, Ptr, leads_to}
use Rattle.fk_model.specs.Places.Ptr.{Dead, At}
use Rattle.fk_model.specs.Objects.{Peer, Talk, Fault, Thread, Body, kind_of, thread_of, and_then}
use Rattle.fk_model.specs.Objects.Peer.{Server, Service, Parked}
use Rattle.fk_model.specs.Objects.Body.{Mutex, Mapping, Region, Port, Space, Thread_of, Reference}
use Rattle.fk_model.specs.World.{World, Sweep, through, serves, set_at, death_sweep, talk_without, taker_without, fault_without, following, follow, follow_peer}
use Rattle.fk_model.specs.World.{killed_at, moved_to, apply}
use Rattle.fk_model.specs.World.Change.{Kill, Move}
use Rattle.fk_model.specs.Searches.{talk_at, fault_at}
use Rattle.fk_model.specs.Readers.{kind_at}
use Rattle.fk_model.specs.Valid.{kind_there}
use Rattle.fk_model.specs.Cut.{is_out, seen_by, unheld}
use Rattle.laws_subtrees.specs.Cut.Likeness.{seeing, seen_peer, seen_talk, seen_fault, HasLikeness, IfServer, AllInTalk, AllInFault, IsPlainBody, IsLikeness}
use Rattle.laws_subtrees.specs.Cut.Likeness.{ServesNobodyOutside}
use Rattle.laws_subtrees.specs.Cut.Likeness.PtrLikeness.{Deads, Inside}
use Rattle.fk_model.proofs.walks.PlaceLaws.{same_path_cancel, same_path_above}
use Rattle.laws_subtrees.proofs.InCut.likeness.Pointers.{all_in_body, ptr_moved}
use Rattle.laws_subtrees.proofs.InCut.likeness.Memory.{root_space}
use Rattle.laws_subtrees.proofs.InCut.likeness.Holds.{leads_to-like}
use Rattle.laws_subtrees.proofs.InCut.likeness.Changes.{outside_apart}

-- ---- two sweeps, of the small world and of the big one, that go alike over what has a likeness

-- who is at a port outside isn't swept
abbrev pub NoneHidden : (Ptr → Ptr) → (Peer → Bool) → Body → Type 0
NoneHidden see hit (Thread_of t) =
    IfSome t.talk (λ talk. is_out (see talk.port) ≡ true → hit talk.peer ≡ false)
    × IfSome t.fault (λ fault. IfSome fault.taker (λ taker. is_out (see fault.port) ≡ true → hit taker ≡ false))
NoneHidden see hit other = Unit {0}

pub record SweepAlike (see : Ptr → Ptr) (P : Ptr → Type 0) (hit : Peer → Bool) (f F : Sweep) : Type 0 where
  pub pointer : (p : Ptr) → P p → (see (F.pointer p) ≡ f.pointer (see p)) × P (F.pointer p)
  pub holder : (p : Ptr) → P p → (and_then (seeing see).holder (F.holder p) ≡ f.holder (see p)) × IfSome (F.holder p) P
  pub talk : (talk : Talk) → AllInTalk see P talk → (is_out (see talk.port) ≡ true → hit talk.peer ≡ false) →
      (and_then (seeing see).talk (F.talk talk) ≡ f.talk (seen_talk see talk)) × IfSome (F.talk talk) (AllInTalk see P)
  pub fault : (fault : Fault) → AllInFault see P fault → IfSome fault.taker (λ taker. is_out (see fault.port) ≡ true → hit taker ≡ false) →
      (and_then (seeing see).fault (F.fault fault) ≡ f.fault (seen_fault see fault)) × IfSome (F.fault fault) (AllInFault see P)

module _ (see : Ptr → Ptr) (P : Ptr → Type 0)
    (hit : Peer → Bool) (f F : Sweep) (alike : SweepAlike see P hit f F) (here there : Path) (sets : (set : ℕ) → F.set there set ≡ f.set here set) where
  set-swept : (o : Option ℕ) → and_then (λ (set : ℕ). Some set) (and_then (F.set there) o) ≡ and_then (f.set here) (and_then (λ (set : ℕ). Some set) o)
  set-swept None = refl
  set-swept (Some set) = rw (sets set) (by (f.set here set))
    where
      by : (o : Option ℕ) → and_then (λ (set : ℕ). Some set) o ≡ o
      by None = refl
      by (Some set) = refl

  talk-swept : (o : Option Talk) → IfSome o (AllInTalk see P) → IfSome o (λ talk. is_out (see talk.port) ≡ true → hit talk.peer ≡ false) →
      (and_then (seeing see).talk (and_then F.talk o) ≡ and_then f.talk (and_then (seeing see).talk o)) × IfSome (and_then F.talk o) (AllInTalk see P)
  talk-swept None h apart = (refl, tt)
  talk-swept (Some talk) h apart = alike.talk talk h apart

  fault-swept : (o : Option Fault) →
      IfSome o (AllInFault see P) → IfSome o (λ fault. IfSome fault.taker (λ taker. is_out (see fault.port) ≡ true → hit taker ≡ false)) →
      (and_then (seeing see).fault (and_then F.fault o) ≡ and_then f.fault (and_then (seeing see).fault o)) × IfSome (and_then F.fault o) (AllInFault see P)
  fault-swept None h apart = (refl, tt)
  fault-swept (Some fault) h apart = alike.fault fault h apart

  pub through-seen : (b : Body) →
      IsPlainBody see P b → NoneHidden see hit b → seen_by (seeing see) (through F there b) ≡ through f here (seen_by (seeing see) b)
  unfolding seen_by
  through-seen (Mapping m) h apart = ap (λ (p : Ptr). Mapping (record m { region = p })) (alike.pointer m.region h).0
  through-seen (Region r) h apart = ap (λ (p : Ptr). Region (record r { keeper = p })) (alike.pointer r.keeper h).0
  through-seen (Port set served) h apart = ap (λ (o : Option ℕ). Port o false) (set-swept set)
  through-seen (Space birth None) h apart = refl
  through-seen (Space birth (Some p)) h apart = ap (λ (o : Option Ptr). Space 0 o) (alike.holder p h).0
  through-seen (Thread_of t) h apart =
      let talk = (talk-swept t.talk h.0 apart.0).0 in
      let fault = (fault-swept t.fault h.1 apart.1).0 in
      λ i. Thread_of (record t { talk = talk i; fault = fault i })
  through-seen (Reference to) h apart = ap Reference (alike.pointer to h).0
  through-seen b h apart = refl

  pub through-kept : (b : Body) → IsPlainBody see P b → NoneHidden see hit b → IsPlainBody see P (through F there b)
  through-kept (Mapping m) h apart = (alike.pointer m.region h).1
  through-kept (Region r) h apart = (alike.pointer r.keeper h).1
  through-kept (Space birth None) h apart = tt
  through-kept (Space birth (Some p)) h apart = (alike.holder p h).1
  through-kept (Port set served) h apart = h
  through-kept (Thread_of t) h apart = ((talk-swept t.talk h.0 apart.0).1, (fault-swept t.fault h.1 apart.1).1, h.2)
  through-kept (Reference to) h apart = (alike.pointer to h).1
  through-kept b h apart = tt

kind-through : (F : Sweep) (at : Path) (b : Body) → kind_of (through F at b) ≡ kind_of b
kind-through F at (Mutex locked) = refl
kind-through F at b = refl

pub kind-swept : (F : Sweep) (at : Path) (v : Option Body) → and_then (λ b. Some (kind_of b)) (option_map (through F at) v) ≡ and_then (λ b. Some (kind_of b)) v
kind-swept F at None = refl
kind-swept F at (Some b) = ap Some (kind-through F at b)

module _ {root : Path} {see : Ptr → Ptr} {small big : World} (like : IsLikeness root see small big) where
  abbrev Seen : Ptr → Type 0
  Seen = HasLikeness root see big

  leads_alike : (x : Path) (p : Ptr) → Seen p → leads_to x (see p) ≡ leads_to (x ++ root) p
  leads_alike x p h = leads_to-like root big x p (see p) h

  -- ---- the death of what stands at x

  module _ (x : Path) where
    pub serves_alike : (out : Bool) (peer : Peer) →
        IfServer out peer Seen → (out ≡ true → serves (x ++ root) peer ≡ false) → serves x (seen_peer see out peer) ≡ serves (x ++ root) peer
    serves_alike true peer h apart = sym (apart refl)
    serves_alike false (Server thread) h apart = leads_alike x thread h
    serves_alike false Service h apart = refl
    serves_alike false Parked h apart = refl

    dead_or : (t : Bool) (p : Ptr) → Seen p → (see (cond t Dead p) ≡ cond t Dead (see p)) × Seen (cond t Dead p)
    dead_or true p h = (like.dead, rw like.dead Deads)
    dead_or false p h = (refl, h)

    none_or : (t : Bool) (p : Ptr) →
        Seen p → (and_then (seeing see).holder (cond t None (Some p)) ≡ cond t None (Some (see p))) × IfSome (cond t None (Some p)) Seen
    none_or true p h = (refl, tt)
    none_or false p h = (refl, h)

    no_talk_or : (t : Bool) (talk : Talk) → AllInTalk see Seen talk →
        (and_then (seeing see).talk (cond t None (Some talk)) ≡ cond t None (Some (seen_talk see talk))) × IfSome (cond t None (Some talk)) (AllInTalk see Seen)
    no_talk_or true talk h = (refl, tt)
    no_talk_or false talk h = (refl, h)

    taker_swept : (out : Bool) (o : Option Peer) →
        IfSome o (λ taker. IfServer out taker Seen) → IfSome o (λ taker. out ≡ true → serves (x ++ root) taker ≡ false) →
        (option_map (seen_peer see out) (and_then (taker_without (x ++ root)) o) ≡ and_then (taker_without x) (option_map (seen_peer see out) o)) ×
        IfSome (and_then (taker_without (x ++ root)) o) (λ taker. IfServer out taker Seen)
    taker_swept out None h apart = (refl, tt)
    taker_swept out (Some taker) h apart = rw (serves_alike out taker h apart) (by (serves (x ++ root) taker))
      where
        by : (t : Bool) → (option_map (seen_peer see out) (cond t None (Some taker)) ≡ cond t None (Some (seen_peer see out taker))) ×
            IfSome (cond t None (Some taker)) (λ taker. IfServer out taker Seen)
        by true = (refl, tt)
        by false = (refl, h)

    without-talk : (talk : Talk) → AllInTalk see Seen talk → (is_out (see talk.port) ≡ true → serves (x ++ root) talk.peer ≡ false) →
        (and_then (seeing see).talk (talk_without (x ++ root) talk) ≡ talk_without x (seen_talk see talk)) ×
        IfSome (talk_without (x ++ root) talk) (AllInTalk see Seen)
    without-talk talk h apart = rw (leads_alike x talk.port h.0, serves_alike (is_out (see talk.port)) talk.peer h.1 apart)
        (no_talk_or (leads_to (x ++ root) talk.port || serves (x ++ root) talk.peer) talk h)

    without-fault : (fault : Fault) →
        AllInFault see Seen fault → IfSome fault.taker (λ taker. is_out (see fault.port) ≡ true → serves (x ++ root) taker ≡ false) →
        (and_then (seeing see).fault (fault_without (x ++ root) fault) ≡ fault_without x (seen_fault see fault)) ×
        IfSome (fault_without (x ++ root) fault) (AllInFault see Seen)
    without-fault fault h apart = rw (leads_alike x fault.port h.0) (by (leads_to (x ++ root) fault.port))
      where
        taker : (option_map (seen_peer see (is_out (see fault.port)))
            (and_then (taker_without (x ++ root)) fault.taker) ≡ and_then (taker_without x) (option_map (seen_peer see (is_out (see fault.port))) fault.taker))
            × IfSome (and_then (taker_without (x ++ root)) fault.taker) (λ taker. IfServer (is_out (see fault.port)) taker Seen)
        taker = taker_swept (is_out (see fault.port)) fault.taker h.1 apart

        rest : Fault
        rest = record fault { taker = and_then (taker_without (x ++ root)) fault.taker }

        by : (t : Bool) → (and_then (seeing see).fault (cond t None (Some rest)) ≡ cond
            t None (Some (record fault { port = see fault.port; taker = and_then (taker_without x) (seen_fault see fault).taker }))) ×
            IfSome (cond t None (Some rest)) (AllInFault see Seen)
        by true = (refl, tt)
        by false = (ap (λ (o : Option Peer). Some (record fault { port = see fault.port; taker = o })) taker.0, (h.0, taker.1))

    without-alike : SweepAlike see Seen (serves (x ++ root)) (death_sweep x) (death_sweep (x ++ root))
    without-alike = record {
      pointer = λ p h. rw (leads_alike x p h) (dead_or (leads_to (x ++ root) p) p h);
      holder = λ p h. rw (leads_alike x p h) (none_or (leads_to (x ++ root) p) p h);
      talk = without-talk;
      fault = without-fault;
    }

  -- what a body is seen as at a path
  abbrev shown : Path → Option Body → Option Body
  shown q v = option_map (λ b. unheld q (seen_by (seeing see) b)) v

  none_hidden : ServesNobodyOutside root see big →
      (x : Path) (k : ℕ) (q : Path) (v : Option Body) → big.body (k ∷ (q ++ root)) ≡ v → IfSome v (NoneHidden see (serves (x ++ root)))
  none_hidden apart x k q (Some (Thread_of t)) is = (
    of_talk t.talk (ap (λ (o : Option Body). and_then (λ (t : Thread). t.talk) (and_then thread_of o)) is),
    of_fault t.fault (ap (λ (o : Option Body). and_then (λ (t : Thread). t.fault) (and_then thread_of o)) is),
  )
    where
      of_talk : (o : Option Talk) → talk_at big (k ∷ (q ++ root)) ≡ o → IfSome o (λ talk. is_out (see talk.port) ≡ true → serves (x ++ root) talk.peer ≡ false)
      of_talk None here = tt
      of_talk (Some talk) here = λ out. apart.talks k q talk here out x

      of_taker : (fault : Fault) (o : Option Peer) →
          fault_at big (k ∷ (q ++ root)) ≡ Some fault → fault.taker ≡ o → IfSome o (λ taker. is_out (see fault.port) ≡ true → serves (x ++ root) taker ≡ false)
      of_taker fault None here by = tt
      of_taker fault (Some taker) here by = λ out. apart.faults k q fault taker here out by x

      of_fault : (o : Option Fault) → fault_at big (k ∷ (q ++ root)) ≡ o →
          IfSome o (λ fault. IfSome fault.taker (λ taker. is_out (see fault.port) ≡ true → serves (x ++ root) taker ≡ false))
      of_fault None here = tt
      of_fault (Some fault) here = of_taker fault fault.taker here refl
  none_hidden apart x k q (Some b) is = tt
  none_hidden apart x k q None is = tt

  -- a port's set is known by its slot in the port's space
  set_alike : (set k : ℕ) (z x : Path) → same_path (set_at (k ∷ (z ++ root)) set) (x ++ root) ≡ same_path (set_at (k ∷ z) set) x
  set_alike set k z x = same_path_cancel (set ∷ z) x root

  module _ (apart : ServesNobodyOutside root see big) (k : ℕ) (q : Path) where
    death : (j : ℕ) (z : Path) (set : ℕ) → (death_sweep (k ∷ (q ++ root))).set (j ∷ (z ++ root)) set ≡ (death_sweep (k ∷ q)).set (j ∷ z) set
    death j z set = rw (set_alike set j z (k ∷ q)) refl

    swept : (j : ℕ) (z : Path) (v : Option Body) → IfSome v (IsPlainBody see Seen) → IfSome v (NoneHidden see (serves (k ∷ (q ++ root)))) →
        (shown (j ∷ z)
        (option_map (through (death_sweep (k ∷ (q ++ root))) (j ∷ (z ++ root))) v) ≡ option_map (through (death_sweep (k ∷ q)) (j ∷ z)) (shown (j ∷ z) v))
        × IfSome (option_map (through (death_sweep (k ∷ (q ++ root))) (j ∷ (z ++ root))) v) (IsPlainBody see Seen)
    swept j z None h hidden = (refl, tt)
    swept j z (Some b) h hidden = (
      ap Some (through-seen see Seen (serves (k ∷ (q ++ root)))
          (death_sweep (k ∷ q)) (death_sweep (k ∷ (q ++ root))) (without-alike (k ∷ q)) (j ∷ z) (j ∷ (z ++ root)) (death j z) b h hidden),
      through-kept see Seen (serves (k ∷ (q ++ root)))
          (death_sweep (k ∷ q)) (death_sweep (k ∷ (q ++ root))) (without-alike (k ∷ q)) (j ∷ z) (j ∷ (z ++ root)) (death j z) b h hidden,
    )

    swept_at : (j : ℕ) (z : Path) → (shown (j ∷ z) (option_map (through (death_sweep (k ∷ (q ++ root))) (j ∷ (z ++ root))) (big.body (j ∷ (z ++ root))))
        ≡ option_map (through (death_sweep (k ∷ q)) (j ∷ z)) (small.body (j ∷ z)))
        × IfSome (option_map (through (death_sweep (k ∷ (q ++ root))) (j ∷ (z ++ root))) (big.body (j ∷ (z ++ root)))) (IsPlainBody see Seen)
    swept_at j z =
        rw (like.bodies (j ∷ z)) (swept j z (big.body (j ∷ (z ++ root))) (like.plain j z) (none_hidden apart (k ∷ q) j z (big.body (j ∷ (z ++ root))) refl))

    killed-body : (z : Path) → (killed_at (k ∷ q) small).body z ≡ shown z ((killed_at (k ∷ (q ++ root)) big).body (z ++ root))
    unfolding seen_by same_path
    killed-body [] = rw (same_path_above k q root, like.bodies [], (root_space like).2) refl
    killed-body (j ∷ z) = rw (same_path_cancel (j ∷ z) (k ∷ q) root) (by (same_path (j ∷ z) (k ∷ q)))
      where
        by : (t : Bool) → cond t None (option_map (through (death_sweep (k ∷ q)) (j ∷ z)) (small.body (j ∷ z))) ≡ shown
            (j ∷ z) (cond t None (option_map (through (death_sweep (k ∷ (q ++ root))) (j ∷ (z ++ root))) (big.body (j ∷ (z ++ root)))))
        by true = refl
        by false = sym (swept_at j z).0

    killed-near : (j : ℕ) (z : Path) → IfSome ((killed_at (k ∷ (q ++ root)) big).body (j ∷ (z ++ root))) (IsPlainBody see Seen)
    killed-near j z = by (same_path (j ∷ (z ++ root)) (k ∷ (q ++ root)))
      where
        by : (t : Bool) →
            IfSome (cond t None (option_map (through (death_sweep (k ∷ (q ++ root))) (j ∷ (z ++ root))) (big.body (j ∷ (z ++ root))))) (IsPlainBody see Seen)
        by true = tt
        by false = (swept_at j z).1

    killed-ports : (x : Path) →
        is_within root x ≡ false → kind_at big (At x) ≡ Some kinds.Port → kind_at (killed_at (k ∷ (q ++ root)) big) (At x) ≡ Some kinds.Port
    killed-ports x out port = rw (outside_apart root (k ∷ q) x out) (kind-swept (death_sweep (k ∷ (q ++ root))) x (big.body x) ∙ port)

    pub kill-like : IsLikeness root see (apply (Kill (k ∷ q)) small) (apply (Kill (k ∷ (q ++ root))) big)
    unfolding apply kind_there
    kill-like = record {
      bodies = killed-body;
      pages = λ z g. rw (same_path_cancel z (k ∷ q) root, like.pages z g) refl;
      unborn = like.unborn;
      top = rw (same_path_above k q root, (root_space like).2) refl;
      plain = λ j z. all_in_body see see (λ p. refl) Seen (HasLikeness root see (killed_at (k ∷ (q ++ root)) big))
          (λ p h. ptr_moved root big (killed_at (k ∷ (q ++ root)) big) killed-ports p (see p) h) _ (killed-near j z);
      within = like.within;
      null = like.null;
      dead = like.dead;
    }

  -- ---- another place of what stands at x

  module _ (x y : Path) where
    at_or : (t : Bool) (p : Ptr) → Seen p → (see (cond t (At (y ++ root)) p) ≡ cond t (At y) (see p)) × Seen (cond t (At (y ++ root)) p)
    at_or true p h = (like.within y, rw (like.within y) (Inside y))
    at_or false p h = (refl, h)

    follow_alike : (p : Ptr) → Seen p → (see (follow (x ++ root) (y ++ root) p) ≡ follow x y (see p)) × Seen (follow (x ++ root) (y ++ root) p)
    follow_alike p h = rw (leads_alike x p h) (at_or (leads_to (x ++ root) p) p h)

    -- what leads out does so still
    out_still : (seen : Ptr) → is_out (follow x y seen) ≡ is_out seen
    out_still (At z) = by (same_path z x)
      where
        by : (t : Bool) → is_out (cond t (At y) (At z)) ≡ false
        by true = refl
        by false = refl
    out_still seen = refl

    out_alike : (p : Ptr) → Seen p → is_out (see (follow (x ++ root) (y ++ root) p)) ≡ is_out (see p)
    out_alike p h = ap is_out (follow_alike p h).0 ∙ out_still (see p)

    peer_follows : (out : Bool) (peer : Peer) →
        IfServer out peer Seen → (seen_peer see out (follow_peer (x ++ root) (y ++ root) peer) ≡ follow_peer x y (seen_peer see out peer)) ×
        IfServer out (follow_peer (x ++ root) (y ++ root) peer) Seen
    peer_follows true peer h = (refl, tt)
    peer_follows false (Server thread) h = (ap Server (follow_alike thread h).0, (follow_alike thread h).1)
    peer_follows false Service h = (refl, tt)
    peer_follows false Parked h = (refl, tt)

    taker_follows : (out : Bool) (o : Option Peer) → IfSome o (λ taker. IfServer out taker Seen) →
        (option_map (seen_peer see out) (option_map (follow_peer (x ++ root) (y ++ root)) o) ≡ option_map (follow_peer x y)
        (option_map (seen_peer see out) o)) × IfSome (option_map (follow_peer (x ++ root) (y ++ root)) o) (λ taker. IfServer out taker Seen)
    taker_follows out None h = (refl, tt)
    taker_follows out (Some taker) h = (ap Some (peer_follows out taker h).0, (peer_follows out taker h).1)

    following-alike : SweepAlike see Seen (λ peer. false) (following x y) (following (x ++ root) (y ++ root))
    following-alike = record {
      pointer = follow_alike;
      holder = λ p h. (ap Some (follow_alike p h).0, (follow_alike p h).1);
      talk = λ talk h apart. rw (out_alike talk.port h.0)
          (let port = follow_alike talk.port h.0 in
          let peer = peer_follows (is_out (see talk.port)) talk.peer h.1 in
          (ap₂ (λ (to : Ptr) (at : Peer). Some (record talk { port = to; peer = at })) port.0 peer.0, (port.1, peer.1)));
      fault = λ fault h apart. rw (out_alike fault.port h.0)
          (let port = follow_alike fault.port h.0 in
          let taker = taker_follows (is_out (see fault.port)) fault.taker h.1 in
          (ap₂ (λ (to : Ptr) (at : Option Peer). Some (record fault { port = to; taker = at })) port.0 taker.0, (port.1, taker.1)));
    }

  nobody_hit : (b : Body) → NoneHidden see (λ peer. false) b
  nobody_hit (Thread_of t) = (of_talk t.talk, of_fault t.fault)
    where
      of_talk : (o : Option Talk) → IfSome o (λ talk. is_out (see talk.port) ≡ true → false ≡ false)
      of_talk None = tt
      of_talk (Some talk) = λ out. refl

      of_taker : (fault : Fault) (o : Option Peer) → IfSome o (λ taker. is_out (see fault.port) ≡ true → false ≡ false)
      of_taker fault None = tt
      of_taker fault (Some taker) = λ out. refl

      of_fault : (o : Option Fault) → IfSome o (λ fault. IfSome fault.taker (λ taker. is_out (see fault.port) ≡ true → false ≡ false))
      of_fault None = tt
      of_fault (Some fault) = of_taker fault fault.taker
  nobody_hit b = tt

  module _ (k slot : ℕ) (q : Path) where
    abbrev near : Sweep
    near = following (k ∷ q) (slot ∷ q)

    abbrev far : Sweep
    far = following (k ∷ (q ++ root)) (slot ∷ (q ++ root))

    -- what stands at a path inside, seen at this path after the move
    moved : (i j : ℕ) (z at : Path) (v : Option Body) → IfSome v (IsPlainBody see Seen) →
        (shown (j ∷ z) (option_map (through far (j ∷ (z ++ root))) v) ≡ option_map (through near (j ∷ z)) (shown (i ∷ at) v)) ×
        IfSome (option_map (through far (j ∷ (z ++ root))) v) (IsPlainBody see Seen)
    moved i j z at None h = (refl, tt)
    moved i j z at (Some b) h =
        let sets : (set : ℕ) → far.set (j ∷ (z ++ root)) set ≡ near.set (j ∷ z) set = λ set. rw (set_alike set j z (k ∷ q)) refl in (
          ap Some (through-seen see Seen (λ peer. false) near far (following-alike (k ∷ q) (slot ∷ q)) (j ∷ z) (j ∷ (z ++ root)) sets b h (nobody_hit b)),
          through-kept see Seen (λ peer. false) near far (following-alike (k ∷ q) (slot ∷ q)) (j ∷ z) (j ∷ (z ++ root)) sets b h (nobody_hit b),
        )

    moved_from : (i j : ℕ) (z there : Path) → (shown (j ∷ z)
        (option_map (through far (j ∷ (z ++ root))) (big.body (i ∷ (there ++ root)))) ≡ option_map (through near (j ∷ z)) (small.body (i ∷ there)))
        × IfSome (option_map (through far (j ∷ (z ++ root))) (big.body (i ∷ (there ++ root)))) (IsPlainBody see Seen)
    moved_from i j z there = rw (like.bodies (i ∷ there)) (moved i j z there (big.body (i ∷ (there ++ root))) (like.plain i there))

    moved-body : (z : Path) → (moved_to (k ∷ q) (slot ∷ q) small).body z ≡ shown z ((moved_to (k ∷ (q ++ root)) (slot ∷ (q ++ root)) big).body (z ++ root))
    unfolding seen_by same_path
    moved-body [] = rw (same_path_above slot q root, same_path_above k q root, like.bodies [], (root_space like).2) refl
    moved-body (j ∷ z) =
        rw (same_path_cancel (j ∷ z) (slot ∷ q) root, same_path_cancel (j ∷ z) (k ∷ q) root) (by (same_path (j ∷ z) (slot ∷ q)) (same_path (j ∷ z) (k ∷ q)))
      where
        by : (t u : Bool) →
            cond t (option_map (through near (slot ∷ q)) (small.body (k ∷ q))) (cond u None (option_map (through near (j ∷ z)) (small.body (j ∷ z))))
            ≡ shown (j ∷ z) (cond t (option_map (through far (slot ∷ (q ++ root))) (big.body (k ∷ (q ++ root))))
            (cond u None (option_map (through far (j ∷ (z ++ root))) (big.body (j ∷ (z ++ root))))))
        by true u = sym (moved_from k slot q q).0
        by false true = refl
        by false false = sym (moved_from j j z z).0

    moved-near : (j : ℕ) (z : Path) → IfSome ((moved_to (k ∷ (q ++ root)) (slot ∷ (q ++ root)) big).body (j ∷ (z ++ root))) (IsPlainBody see Seen)
    moved-near j z = by (same_path (j ∷ (z ++ root)) (slot ∷ (q ++ root))) (same_path (j ∷ (z ++ root)) (k ∷ (q ++ root)))
      where
        by : (t u : Bool) → IfSome (cond t (option_map (through far (slot ∷ (q ++ root))) (big.body (k ∷ (q ++ root))))
            (cond u None (option_map (through far (j ∷ (z ++ root))) (big.body (j ∷ (z ++ root)))))) (IsPlainBody see Seen)
        by true u = (moved_from k slot q q).1
        by false true = tt
        by false false = (moved_from j j z z).1

    moved-ports : (x : Path) →
        is_within root x ≡ false → kind_at big (At x) ≡ Some kinds.Port → kind_at (moved_to (k ∷ (q ++ root)) (slot ∷ (q ++ root)) big) (At x) ≡ Some kinds.Port
    moved-ports x out port = rw (outside_apart root (slot ∷ q) x out, outside_apart root (k ∷ q) x out) (kind-swept far x (big.body x) ∙ port)

    pub move-like : IsLikeness root see (apply (Move (k ∷ q) slot) small) (apply (Move (k ∷ (q ++ root)) slot) big)
    unfolding apply kind_there
    move-like = record {
      bodies = moved-body;
      pages = λ z g. rw (same_path_cancel z (slot ∷ q) root, same_path_cancel z (k ∷ q) root, like.pages z g, like.pages (k ∷ q) g) refl;
      unborn = like.unborn;
      top = rw (same_path_above slot q root, same_path_above k q root, (root_space like).2) refl;
      plain = λ j z. all_in_body see see (λ p. refl) Seen (HasLikeness root see (moved_to (k ∷ (q ++ root)) (slot ∷ (q ++ root)) big))
          (λ p h. ptr_moved root big (moved_to (k ∷ (q ++ root)) (slot ∷ (q ++ root)) big) moved-ports p (see p) h) _ (moved-near j z);
      within = like.within;
      null = like.null;
      dead = like.dead;
    }
