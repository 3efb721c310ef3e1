-- No thread serves or took twice in a subtree's image.
use Rattle.std.proofs.Common.{◌≡◌, ℕ, zero, suc, ◌+◌, ◌<◌, ◌⊎◌, inl, inr, Bool, true, false, not, ◌&&◌, ◌||◌, ◌==◌, List, [], ◌∷◌, ◌++◌, map, Option, Some}
use Rattle.std.proofs.Common.{None, option_map, refl, sym, ap, subst, ◌∙◌, arith, append_assoc, eqb-true}
use Rattle.std.specs.Prelude.{slice_get}
use Rattle.std.specs.List.{list_any, flat_map}
use Rattle.std.proofs.lemmas.Bool.{and_from, false_from_ne_true}
use Rattle.std.proofs.lemmas.List.Concat.{flat_map-cons}
use Rattle.fk_model.specs.Places.{Path, Ptr, Ptr as ptrs}
use Rattle.fk_model.specs.Objects.{Body, Body as bodies, Peer, Peer as peers, Talk, Fault, Thread, and_then, thread_of, holds, flag_of}
use Rattle.fk_model.specs.Records.{member_word}
use Rattle.fk_model.specs.World.{World, serves}
use Rattle.fk_model.specs.Valid.{services}
use Rattle.fk_model.proofs.walks.PlaceLaws.{same_path_refl}
use Rattle.fk_image.specs.declared.image.image.Rec.{Rec, Rec as recs}
use Rattle.fk_image.specs.declared.image.image.ObjectRec.{ObjectRec}
use Rattle.fk_image.specs.Image.Links.{peer, talk_peers, taker_peers, fault_peers, body_peers, object_peers, space_peers, is_same_place, are_fresh}
use Rattle.laws_pictures.specs.Imaged.{rank, link_of, peer_link, talk_rec, fault_rec, thread_rec, rec_of, with_object, objects_from, rec_at, space_rec}
use Rattle.laws_pictures.specs.Imaged.{AreItsSpaces, IsPeerOf, IsLedTalk, IsTakenBy, IsLedFault, IsAlone, ServesOnce}
use Rattle.laws_pictures.proofs.Imaged.{ranked_is}

module _ (c : World) (sp : List Path) (alone : IsAlone c) (its : AreItsSpaces c sp) (once : ServesOnce c) where
  abbrev IsMember : Path → Type 0
  IsMember p = slice_get sp (rank sp p) ≡ Some p

  same_rank : (p q : Path) → IsMember p → IsMember q → rank sp p ≡ rank sp q → p ≡ q
  same_rank p q a b e = by (slice_get sp (rank sp q)) (ap (slice_get sp) (sym e) ∙ a) b
    where
      by : (o : Option Path) → o ≡ Some p → o ≡ Some q → p ≡ q
      by None e f = absurd cc
      by (Some x) e f = cc

  -- a place that was named: of a server, by a client that came before an object
  record SeenBy (n floor : ℕ) (p : ℕ × ℕ) : Type 0 where
    pub slot : ℕ
    pub space : Path
    pub member : IsMember space
    pub first : p.0 ≡ rank sp space
    pub second : p.1 ≡ slot
    pub client : ℕ
    pub above : Path
    pub client_member : IsMember above
    pub served : 0 < services c (slot ∷ space) (client ∷ above)
    pub early : (rank sp above < n) ⊎ ((rank sp above ≡ n) × (client < floor))

  abbrev AllSeen : ℕ → ℕ → List (ℕ × ℕ) → Type 0
  AllSeen n floor seen = (p : ℕ × ℕ) → list_any (is_same_place p) seen ≡ true → SeenBy n floor p

  -- a server that was named isn't named again by another
  absent : (n k : ℕ) (seen : List (ℕ × ℕ)) (j : ℕ) (r q : Path) → AllSeen n k seen → IsMember r → IsMember q → rank sp q ≡ n → 0 < services c (j ∷ r) (k ∷ q)
      → list_any (is_same_place (rank sp r, j)) seen ≡ false
  absent n k seen j r q all m mq at served = false_from_ne_true _ (λ e. clash (all (rank sp r, j) e))
    where
      heads : (a b : ℕ) (x y : Path) → a ∷ x ≡ b ∷ y → (a ≡ b) × (x ≡ y)
      heads a b x y e = (cc, cc)

      clash : SeenBy n k (rank sp r, j) → ⊥
      clash s = by s.early
        where
          server : s.slot ∷ s.space ≡ j ∷ r
          server = ap (λ i. i ∷ s.space) (sym s.second) ∙ ap (λ x. j ∷ x) (same_rank s.space r s.member m (sym s.first))

          same : s.client ∷ s.above ≡ k ∷ q
          same = once.one (j ∷ r) (s.client ∷ s.above) (k ∷ q) (subst (λ x. 0 < services c x (s.client ∷ s.above)) server s.served) served

          by : (rank sp s.above < n) ⊎ ((rank sp s.above ≡ n) × (s.client < k)) → ⊥
          by (inl lt) = let is = ap (rank sp) (heads s.client k s.above q same).1 in omega (arith, lt, is, at)
          by (inr h) = let is = (heads s.client k s.above q same).0 in let lt = h.1 in omega (arith, is, lt)

  -- ---- one peer

  record Adds (seen : List (ℕ × ℕ)) (pe : Peer) (new : List (ℕ × ℕ)) : Type 0 where
    pub how : (new ≡ seen) ⊎ ((j : ℕ) × (r : Path) × (pe ≡ peers.Server (ptrs.At (j ∷ r))) × (new ≡ (rank sp r, j) ∷ seen))

  add : (seen rest : List (ℕ × ℕ)) (pe : Peer) → ((j : ℕ) (r : Path) → pe ≡ peers.Server (ptrs.At (j ∷ r))
      → list_any (is_same_place (rank sp r, j)) seen ≡ false) →
      ((new : List (ℕ × ℕ)) → Adds seen pe new → are_fresh new rest ≡ true) → are_fresh seen (peer (peer_link sp pe) ++ rest) ≡ true
  add seen rest (peers.Server ptrs.Null) none go = go seen (record { how = inl refl })
  add seen rest (peers.Server ptrs.Dead) none go = go seen (record { how = inl refl })
  add seen rest (peers.Server (ptrs.At [])) none go = go seen (record { how = inl refl })
  add seen rest (peers.Server (ptrs.At (j ∷ r))) none go = and_from _ _ (ap not (none j r refl))
      (go ((rank sp r, j) ∷ seen) (record { how = inr (j, r, refl, refl) }))
  add seen rest (peers.Server (ptrs.Out i)) none go = go seen (record { how = inl refl })
  add seen rest (peers.Server ptrs.Outside) none go = go seen (record { how = inl refl })
  add seen rest (peers.Server ptrs.Far) none go = go seen (record { how = inl refl })
  add seen rest peers.Service none go = go seen (record { how = inl refl })
  add seen rest peers.Parked none go = go seen (record { how = inl refl })

  -- ---- the services of one thread

  module _ (k : ℕ) (q : Path) (t : Thread) (mq : IsMember q) (is : c.body (k ∷ q) ≡ Some (bodies.Thread_of t)) where
    serves_it : (j : ℕ) (r : Path) → serves (j ∷ r) (peers.Server (ptrs.At (j ∷ r))) ≡ true
    serves_it j r = same_path_refl (j ∷ r)

    services_are : (y : Path) → services c y (k ∷ q)
        ≡ flag_of (holds (λ (talk : Talk). serves y talk.peer) t.talk) + flag_of (holds (λ (fault : Fault). holds (serves y) fault.taker) t.fault)
    services_are y = ap (λ o. flag_of (holds (λ (talk : Talk). serves y talk.peer) (and_then (λ (u : Thread). u.talk) (and_then thread_of o))) + flag_of
        (holds (λ (fault : Fault). holds (serves y) fault.taker) (and_then (λ (u : Thread). u.fault) (and_then thread_of o)))) is

    by_talk : (j : ℕ) (r : Path) (talk : Talk) → t.talk ≡ Some talk → talk.peer ≡ peers.Server (ptrs.At (j ∷ r))
        → flag_of (holds (λ (talk : Talk). serves (j ∷ r) talk.peer) t.talk) ≡ 1
    by_talk j r talk at pe = ap (λ o. flag_of (holds (λ (talk : Talk). serves (j ∷ r) talk.peer) o)) at ∙ ap (λ p. flag_of (serves (j ∷ r) p)) pe
        ∙ ap flag_of (serves_it j r)

    by_fault : (j : ℕ) (r : Path) (fault : Fault) (taker : Peer) → t.fault ≡ Some fault → fault.taker ≡ Some taker → taker ≡ peers.Server (ptrs.At (j ∷ r))
        → flag_of (holds (λ (fault : Fault). holds (serves (j ∷ r)) fault.taker) t.fault) ≡ 1
    by_fault j r fault taker at some pe = ap (λ o. flag_of (holds (λ (fault : Fault). holds (serves (j ∷ r)) fault.taker) o)) at
        ∙ ap (λ o. flag_of (holds (serves (j ∷ r)) o)) some ∙ ap (λ p. flag_of (serves (j ∷ r) p)) pe ∙ ap flag_of (serves_it j r)

    served_talk : (j : ℕ) (r : Path) (talk : Talk) → t.talk ≡ Some talk → talk.peer ≡ peers.Server (ptrs.At (j ∷ r)) → 0 < services c (j ∷ r) (k ∷ q)
    served_talk j r talk at pe = let sum = services_are (j ∷ r) in let one = by_talk j r talk at pe in omega (arith, sum, one)

    served_fault : (j : ℕ) (r : Path) (fault : Fault) (taker : Peer) → t.fault ≡ Some fault → fault.taker ≡ Some taker
        → taker ≡ peers.Server (ptrs.At (j ∷ r)) → 0 < services c (j ∷ r) (k ∷ q)
    served_fault j r fault taker at some pe = let sum = services_are (j ∷ r) in let one = by_fault j r fault taker at some pe in omega (arith, sum, one)

    not_both : (j : ℕ) (r : Path) (talk : Talk) (fault : Fault) (taker : Peer) → t.talk ≡ Some talk → talk.peer ≡ peers.Server (ptrs.At (j ∷ r))
        → t.fault ≡ Some fault → fault.taker ≡ Some taker → taker ≡ peers.Server (ptrs.At (j ∷ r)) → ⊥
    not_both j r talk fault taker at pe at2 some pe2 =
        let sum = services_are (j ∷ r) in
        let a = by_talk j r talk at pe in
        let b = by_fault j r fault taker at2 some pe2 in
        let most = once.each (j ∷ r) (k ∷ q) in
        omega (arith, sum, a, b, most)

  in_cons : (p a : ℕ × ℕ) (seen : List (ℕ × ℕ)) → list_any (is_same_place p) (a ∷ seen) ≡ true
      → ((p.0 ≡ a.0) × (p.1 ≡ a.1)) ⊎ (list_any (is_same_place p) seen ≡ true)
  in_cons p a seen e = by (a.0 == p.0) refl (a.1 == p.1) refl e
    where
      by : (x : Bool) → (a.0 == p.0) ≡ x → (y : Bool) → (a.1 == p.1) ≡ y → ((x && y) || list_any (is_same_place p) seen) ≡ true
          → ((p.0 ≡ a.0) × (p.1 ≡ a.1)) ⊎ (list_any (is_same_place p) seen ≡ true)
      by true g true h e = inl (sym (eqb-true a.0 p.0 g), sym (eqb-true a.1 p.1 h))
      by true g false h e = inr e
      by false g y h e = inr e

  raise : (n k : ℕ) (seen : List (ℕ × ℕ)) → AllSeen n k seen → AllSeen n (suc k) seen
  raise n k seen all p e =
      let s = all p e in
      record {
        slot = s.slot;
        space = s.space;
        member = s.member;
        first = s.first;
        second = s.second;
        client = s.client;
        above = s.above;
        client_member = s.client_member;
        served = s.served;
        early = by s s.early;
      }
    where
      by : (s : SeenBy n k p) → (rank sp s.above < n) ⊎ ((rank sp s.above ≡ n) × (s.client < k))
          → (rank sp s.above < n) ⊎ ((rank sp s.above ≡ n) × (s.client < suc k))
      by s (inl lt) = inl lt
      by s (inr h) = let lt = h.1 in inr (h.0, omega (arith, lt))

  closed : (n k : ℕ) (seen : List (ℕ × ℕ)) → AllSeen n k seen → AllSeen (suc n) 0 seen
  closed n k seen all p e =
      let s = all p e in
      record {
        slot = s.slot;
        space = s.space;
        member = s.member;
        first = s.first;
        second = s.second;
        client = s.client;
        above = s.above;
        client_member = s.client_member;
        served = s.served;
        early = by s s.early;
      }
    where
      by : (s : SeenBy n k p) → (rank sp s.above < n) ⊎ ((rank sp s.above ≡ n) × (s.client < k))
          → (rank sp s.above < suc n) ⊎ ((rank sp s.above ≡ suc n) × (s.client < 0))
      by s (inl lt) = inl (omega (arith, lt))
      by s (inr h) = let same = h.0 in inl (omega (arith, same))

  grown : (n k : ℕ) (q : Path) (seen new : List (ℕ × ℕ)) (pe : Peer) → IsMember q → rank sp q ≡ n → Adds seen pe new → AllSeen n (suc k) seen →
      ((j : ℕ) (r : Path) → pe ≡ peers.Server (ptrs.At (j ∷ r)) → IsMember r × (0 < services c (j ∷ r) (k ∷ q))) → AllSeen n (suc k) new
  grown n k q seen new pe mq at adds all of = by adds.how
    where
      by : (new ≡ seen) ⊎ ((j : ℕ) × (r : Path) × (pe ≡ peers.Server (ptrs.At (j ∷ r))) × (new ≡ (rank sp r, j) ∷ seen)) → AllSeen n (suc k) new
      by (inl same) = subst (λ s. AllSeen n (suc k) s) (sym same) all
      by (inr h) = subst (λ s. AllSeen n (suc k) s) (sym h.3) (λ p e. one p (in_cons p (rank sp h.1, h.0) seen e))
        where
          one : (p : ℕ × ℕ) → ((p.0 ≡ rank sp h.1) × (p.1 ≡ h.0)) ⊎ (list_any (is_same_place p) seen ≡ true) → SeenBy n (suc k) p
          one p (inl g) =
              let known = of h.0 h.1 h.2 in
              record {
                slot = h.0;
                space = h.1;
                member = known.0;
                first = g.0;
                second = g.1;
                client = k;
                above = q;
                client_member = mq;
                served = known.1;
                early = inr (at, omega arith);
              }
          one p (inr g) = all p g

  peer_member : (port : Ptr) (pe : Peer) (j : ℕ) (r : Path) → IsPeerOf c port pe → pe ≡ peers.Server (ptrs.At (j ∷ r)) → IsMember r
  peer_member port pe j r h e = by port (subst (λ p. IsPeerOf c port p) e h)
    where
      by : (port : Ptr) → IsPeerOf c port (peers.Server (ptrs.At (j ∷ r))) → IsMember r
      by (ptrs.At x) h = its.all r (alone.parents j r h)
      by (ptrs.Out i) h = absurd h
      by ptrs.Null h = absurd h
      by ptrs.Dead h = absurd h
      by ptrs.Outside h = absurd h
      by ptrs.Far h = absurd h

  module _ (n k : ℕ) (q : Path) (t : Thread) (mq : IsMember q) (at : rank sp q ≡ n) (is : c.body (k ∷ q) ≡ Some (bodies.Thread_of t)) where
    abbrev NoTaker : List (ℕ × ℕ) → Type 0
    NoTaker seen = (j : ℕ) (r : Path) (fault : Fault) (taker : Peer) → IsMember r → t.fault ≡ Some fault → fault.taker ≡ Some taker
        → taker ≡ peers.Server (ptrs.At (j ∷ r)) → list_any (is_same_place (rank sp r, j)) seen ≡ false

    no_taker : (seen : List (ℕ × ℕ)) → AllSeen n k seen → NoTaker seen
    no_taker seen all j r fault taker mr f g h = absent n k seen j r q all mr mq at (served_fault k q t mq is j r fault taker f g h)

    no_taker_more : (seen new : List (ℕ × ℕ)) (talk : Talk) → AllSeen n k seen → t.talk ≡ Some talk → IsPeerOf c talk.port talk.peer → Adds seen talk.peer new
        → NoTaker new
    no_taker_more seen new talk all e led adds j r fault taker mr f g h = by adds.how
      where
        heads : (a b : ℕ) (x y : Path) → a ≡ b → x ≡ y → a ∷ x ≡ b ∷ y
        heads a b x y e f = λ i. e i ∷ f i

        by : (new ≡ seen) ⊎ ((i : ℕ) × (s : Path) × (talk.peer ≡ peers.Server (ptrs.At (i ∷ s))) × (new ≡ (rank sp s, i) ∷ seen))
            → list_any (is_same_place (rank sp r, j)) new ≡ false
        by (inl same) = ap (list_any (is_same_place (rank sp r, j))) same ∙ no_taker seen all j r fault taker mr f g h
        by (inr u) = ap (list_any (is_same_place (rank sp r, j))) u.3 ∙ false_from_ne_true _ (λ hit. hits (in_cons (rank sp r, j) (rank sp u.1, u.0) seen hit))
          where
            clash : true ≡ false → ⊥
            clash e = cc

            hits : ((rank sp r ≡ rank sp u.1) × (j ≡ u.0)) ⊎ (list_any (is_same_place (rank sp r, j)) seen ≡ true) → ⊥
            hits (inl both) =
                let r_same = same_rank r u.1 mr (peer_member talk.port talk.peer u.0 u.1 led u.2) both.0 in
                not_both k q t mq is u.0 u.1 talk fault taker e u.2 f g (h ∙ ap (λ x. peers.Server (ptrs.At x)) (heads j u.0 r u.1 both.1 r_same))
            hits (inr g2) = clash (sym g2 ∙ no_taker seen all j r fault taker mr f g h)

    talk_step : (seen rest : List (ℕ × ℕ)) → AllSeen n k seen → (o : Option Talk) → t.talk ≡ o → IsLedTalk c o
        → ((new : List (ℕ × ℕ)) → AllSeen n (suc k) new → NoTaker new → are_fresh new rest ≡ true) →
        are_fresh seen (talk_peers (option_map (talk_rec sp) o) ++ rest) ≡ true
    talk_step seen rest all None e led go = go seen (raise n k seen all) (no_taker seen all)
    talk_step seen rest all (Some talk) e led go =
        add seen rest talk.peer (λ j r pe. absent n k seen j r q all (peer_member talk.port talk.peer j r led.1 pe) mq at
        (served_talk k q t mq is j r talk e pe))
        (λ new adds. go new (grown n k q seen new talk.peer mq at adds (raise n k seen all)
        (λ j r pe. (peer_member talk.port talk.peer j r led.1 pe, served_talk k q t mq is j r talk e pe)))
        (no_taker_more seen new talk all e led.1 adds))

    fault_step : (seen rest : List (ℕ × ℕ)) → AllSeen n (suc k) seen → NoTaker seen → (o : Option Fault) → t.fault ≡ o → IsLedFault c o
        → ((new : List (ℕ × ℕ)) → AllSeen n (suc k) new → are_fresh new rest ≡ true) →
        are_fresh seen (fault_peers (option_map (fault_rec sp) o) ++ rest) ≡ true
    fault_step seen rest all none None e led go = go seen all
    fault_step seen rest all none (Some fault) e led go = by fault.taker refl led.1
      where
        by : (o : Option Peer) → fault.taker ≡ o → IsTakenBy c fault.port o → are_fresh seen (taker_peers (option_map (peer_link sp) o) ++ rest) ≡ true
        by None g led = go seen all
        by (Some taker) g led =
            add seen rest taker (λ j r pe. none j r fault taker (peer_member fault.port taker j r led pe) e g pe)
            (λ new adds. go new (grown n k q seen new taker mq at adds all
            (λ j r pe. (peer_member fault.port taker j r led pe, served_fault k q t mq is j r fault taker e g pe))))

  -- ---- objects, and spaces

  objects_fresh : (n : ℕ) (q : Path) → IsMember q → rank sp q ≡ n → (count k : ℕ) (seen rest : List (ℕ × ℕ)) → AllSeen n k seen →
      ((m : ℕ) (new : List (ℕ × ℕ)) → AllSeen n m new → are_fresh new rest ≡ true)
      → are_fresh seen (flat_map object_peers (objects_from (rec_at c sp q) count k) ++ rest) ≡ true
  unfolding objects_from
  objects_fresh n q mq at zero k seen rest all go = go k seen all
  objects_fresh n q mq at (suc count) k seen rest all go = by (c.body (k ∷ q)) refl (λ new ok. objects_fresh n q mq at count (suc k) new rest ok go)
    where
      os : List ObjectRec
      os = objects_from (rec_at c sp q) count (suc k)

      joined : (r : Rec) → flat_map object_peers (record { slot = k; body = r } ∷ os) ++ rest ≡ body_peers r ++ (flat_map object_peers os ++ rest)
      joined r = ap (λ (ps : List (ℕ × ℕ)). ps ++ rest) (flat_map-cons object_peers (record { slot = k; body = r }) os)
          ∙ append_assoc (body_peers r) (flat_map object_peers os) rest

      silent : (r : Rec) → body_peers r ≡ [] → ((new : List (ℕ × ℕ)) → AllSeen n (suc k) new → are_fresh new (flat_map object_peers os ++ rest) ≡ true)
          → are_fresh seen (flat_map object_peers (record { slot = k; body = r } ∷ os) ++ rest) ≡ true
      silent r none later = ap (are_fresh seen) (joined r ∙ ap (λ (ps : List (ℕ × ℕ)). ps ++ (flat_map object_peers os ++ rest)) none)
          ∙ later seen (raise n k seen all)

      by : (o : Option Body) → c.body (k ∷ q) ≡ o → ((new : List (ℕ × ℕ)) → AllSeen n (suc k) new → are_fresh new (flat_map object_peers os ++ rest) ≡ true) →
          are_fresh seen (flat_map object_peers (with_object k (and_then (rec_of sp) o) os) ++ rest) ≡ true
      by None is later = later seen (raise n k seen all)
      by (Some (bodies.Space birth holder)) is later = later seen (raise n k seen all)
      by (Some (bodies.Thread_of t)) is later =
          let led = alone.led (k ∷ q) (bodies.Thread_of t) is in
          let tail = flat_map object_peers os ++ rest in
          let a = talk_peers (option_map (talk_rec sp) t.talk) in
          let b = fault_peers (option_map (fault_rec sp) t.fault) in
          ap (are_fresh seen) (joined (recs.Thread (thread_rec sp t)) ∙ append_assoc a b tail)
          ∙ talk_step n k q t mq at is seen (b ++ tail) all t.talk refl led.2
          (λ new ok none. fault_step n k q t mq at is new tail ok none t.fault refl led.3 later)
      by (Some (bodies.Mutex locked)) is later = silent (recs.Mutex (flag_of locked)) refl later
      by (Some bodies.Cond) is later = silent recs.Cond refl later
      by (Some (bodies.Mapping m)) is later = silent (recs.Mapping m.first m.count m.offset (flag_of m.write) (link_of sp m.region)) refl later
      by (Some (bodies.Region r)) is later = silent (recs.Region r.first r.count (flag_of r.write) (link_of sp r.keeper)) refl later
      by (Some (bodies.Port set served)) is later = silent (recs.Port (member_word set)) refl later
      by (Some bodies.Portset) is later = silent recs.Portset refl later
      by (Some (bodies.Reference to)) is later = silent (recs.Reference (link_of sp to)) refl later

  spaces_fresh : (xs : List Path) (n : ℕ) (seen : List (ℕ × ℕ)) → ((i : ℕ) → slice_get xs i ≡ slice_get sp (n + i)) → AllSeen n 0 seen
      → are_fresh seen (flat_map space_peers (map (space_rec c sp) xs)) ≡ true
  spaces_fresh [] n seen agree all = refl
  spaces_fresh (q ∷ xs) n seen agree all =
      let same : n + 0 ≡ n = omega arith in
      let here : slice_get sp n ≡ Some q = ap (slice_get sp) (sym same) ∙ sym (agree 0) in
      let number = ranked_is c sp alone its n q here in
      let mq : IsMember q = ap (slice_get sp) number ∙ here in
      ap (are_fresh seen) (flat_map-cons space_peers (space_rec c sp q) (map (space_rec c sp) xs))
      ∙ objects_fresh n q mq number 240 0 seen (flat_map space_peers (map (space_rec c sp) xs)) all
      (λ m new ok. spaces_fresh xs (suc n) new (λ i. agree (suc i) ∙ ap (slice_get sp) (shift i)) (closed n m new ok))
    where
      shift : (i : ℕ) → n + suc i ≡ suc n + i
      shift i = omega arith

  pub all_fresh : are_fresh [] (flat_map space_peers (map (space_rec c sp) sp)) ≡ true
  all_fresh = spaces_fresh sp 0 [] (λ i. ap (slice_get sp) (shift i)) (λ p e. absurd cc)
    where
      shift : (i : ℕ) → i ≡ 0 + i
      shift i = omega arith
