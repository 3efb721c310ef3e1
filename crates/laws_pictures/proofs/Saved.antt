-- A closed subtree of a whole and savable world is such as its image needs.
use Rattle.std.proofs.Common.{◌≡◌, ℕ, ◌≤◌, Bool, true, false, cond, not, ◌&&◌, ◌==◌, leb, List, [], ◌∷◌, ◌++◌, length, Option, Some, None, option_map, is_some}
use Rattle.std.proofs.Common.{refl, sym, ap, subst, ◌∙◌, arith, append_assoc, length-append}
use Rattle.std.specs.List.{list_any}
use Rattle.std.proofs.lemmas.Bool.{and_from, and_parts, or_parts, leb-true}
use Rattle.std.proofs.lemmas.List.Folds.{list_any-append}
use Rattle.fk_model.specs.declared.limits.TheConstants.{LAST_USER_SLOT, LAST_SCRATCH_SLOT, LAST_PORTER_SLOT}
use Rattle.fk_model.specs.declared.names.Kind.{Kind}
use Rattle.fk_model.specs.declared.names.Kind.TheVariants as kinds
use Rattle.fk_model.specs.Places.{Path, same_path, strip, is_within, Ptr, Ptr as ptrs}
use Rattle.fk_model.specs.Objects.{Body, Body as bodies, Peer, Peer as peers, Talk, Fault, Thread, and_then, kind_of, thread_of, reference_of, port_of, holds}
use Rattle.fk_model.specs.Objects.{is_served}
use Rattle.fk_model.specs.Holds.{holder_of}
use Rattle.fk_model.specs.Searches.{pointers, talk_at, fault_at, peer_pointer, talk_pointers, fault_pointers, option_list}
use Rattle.fk_model.specs.StateRows.{is_native, referable}
use Rattle.fk_model.specs.World.{World, Sweep}
use Rattle.fk_model.specs.Valid.{kind_there, is_good, is_good_set, is_one_of, may_lead, leads_there, lies_with, is_good_talk, is_good_fault, is_good_peer}
use Rattle.fk_model.specs.Valid.{all_in}
use Rattle.fk_model.specs.Whole.{is_placed}
use Rattle.fk_model.specs.Cut.{is_port, ports_of, cut_out, cut_to, cut_ptr, is_out, cut_peer, cut_talk, cut_fault, cutting, seen_by, unheld, cut, is_far}
use Rattle.fk_model.specs.Sound.{is_cut_pointer}
use Rattle.fk_model.proofs.walks.PlaceLaws.{same_path_eq, strip-append, strip_some}
use Rattle.laws_pictures.specs.Imaged.{IsLed, IsPeerOf, IsLedTalk, IsTakenBy, IsLedFault, IsHeldBy, IsLedBody, IsAlone, IsSound}
use Rattle.laws_pictures.specs.Saved.{IsSavedSubtree, SubtreeIsSound}

unheld_kind : (q : Path) (b : Body) → kind_of (unheld q b) ≡ kind_of b
unheld_kind (k ∷ q) b = refl
unheld_kind [] (bodies.Mutex locked) = refl
unheld_kind [] bodies.Cond = refl
unheld_kind [] (bodies.Mapping m) = refl
unheld_kind [] (bodies.Region r) = refl
unheld_kind [] (bodies.Port set served) = refl
unheld_kind [] bodies.Portset = refl
unheld_kind [] (bodies.Space birth holder) = refl
unheld_kind [] (bodies.Thread_of t) = refl
unheld_kind [] (bodies.Reference to) = refl

seen_kind : (f : Sweep) (b : Body) → kind_of (seen_by f b) ≡ kind_of b
unfolding seen_by
seen_kind f (bodies.Mutex locked) = refl
seen_kind f bodies.Cond = refl
seen_kind f (bodies.Mapping m) = refl
seen_kind f (bodies.Region r) = refl
seen_kind f (bodies.Port set served) = refl
seen_kind f bodies.Portset = refl
seen_kind f (bodies.Space birth holder) = refl
seen_kind f (bodies.Thread_of t) = refl
seen_kind f (bodies.Reference to) = refl

some_from : {A : Type 0} (o : Option A) → is_some o ≡ true → (x : A) × (o ≡ Some x)
some_from None e = absurd cc
some_from (Some x) e = (x, refl)

module _ (w : World) (nester : Path) (slot : ℕ) (it : IsSavedSubtree w nester slot) where
  abbrev root : Path
  root = slot ∷ nester

  abbrev c : World
  c = cut w nester slot

  abbrev see : Ptr → Ptr
  see = cut_ptr (ports_of w nester slot) nester slot

  abbrev f : Sweep
  f = cutting (ports_of w nester slot) nester slot

  body_is : (q : Path) → c.body q ≡ option_map (λ b. unheld q (seen_by f b)) (w.body (q ++ root))
  unfolding cut
  body_is q = refl

  there_is : (v : World) (x : Path) → kind_there v x ≡ option_map kind_of (v.body x)
  unfolding kind_there
  there_is v x = refl

  kind_same : (q : Path) → kind_there c q ≡ kind_there w (q ++ root)
  kind_same q = there_is c q ∙ ap (option_map kind_of) (body_is q) ∙ by (w.body (q ++ root)) ∙ sym (there_is w (q ++ root))
    where
      by : (o : Option Body) → option_map kind_of (option_map (λ b. unheld q (seen_by f b)) o) ≡ option_map kind_of o
      by None = refl
      by (Some b) = ap (λ k. Some k) (unheld_kind q (seen_by f b) ∙ seen_kind f b)

  some_same : (q : Path) → is_some (c.body q) ≡ is_some (w.body (q ++ root))
  some_same q = ap is_some (body_is q) ∙ by (w.body (q ++ root))
    where
      by : (o : Option Body) → is_some (option_map (λ b. unheld q (seen_by f b)) o) ≡ is_some o
      by None = refl
      by (Some b) = refl

  kind_some : (wanted : List Kind) (x : Path) → is_one_of wanted (kind_there w x) ≡ true → is_some (w.body x) ≡ true
  kind_some wanted x e = by (w.body x) (ap (is_one_of wanted) (sym (there_is w x)) ∙ e)
    where
      by : (o : Option Body) → is_one_of wanted (option_map kind_of o) ≡ true → is_some o ≡ true
      by None e = absurd cc
      by (Some b) e = refl

  -- ---- pointers

  port_low : (i : ℕ) → ports_of w nester slot i ≡ true → i ≤ LAST_USER_SLOT
  port_low i e = by (w.body (i ∷ nester)) refl (and_parts (not (i == slot)) (is_port (w.body (i ∷ nester))) e).1
    where
      at_most : (b : Body) → is_some (port_of b) ≡ true → (low scratch porter : Bool)
          → cond low (not (is_native b)) (cond scratch (is_some (reference_of b)) (porter && is_native b)) ≡ true → low ≡ true
      at_most (bodies.Port set served) p true scratch porter e = refl
      at_most (bodies.Port set served) p false true porter e = absurd cc
      at_most (bodies.Port set served) p false false true e = absurd cc
      at_most (bodies.Port set served) p false false false e = absurd cc
      at_most (bodies.Mutex locked) p low scratch porter e = absurd cc
      at_most bodies.Cond p low scratch porter e = absurd cc
      at_most (bodies.Mapping m) p low scratch porter e = absurd cc
      at_most (bodies.Region r) p low scratch porter e = absurd cc
      at_most bodies.Portset p low scratch porter e = absurd cc
      at_most (bodies.Space birth holder) p low scratch porter e = absurd cc
      at_most (bodies.Thread_of t) p low scratch porter e = absurd cc
      at_most (bodies.Reference to) p low scratch porter e = absurd cc

      is_a : (b : Body) → is_port (Some b) ≡ true → is_some (port_of b) ≡ true
      is_a (bodies.Port set served) e = refl
      is_a (bodies.Mutex locked) e = absurd cc
      is_a bodies.Cond e = absurd cc
      is_a (bodies.Mapping m) e = absurd cc
      is_a (bodies.Region r) e = absurd cc
      is_a bodies.Portset e = absurd cc
      is_a (bodies.Space birth holder) e = absurd cc
      is_a (bodies.Thread_of t) e = absurd cc
      is_a (bodies.Reference to) e = absurd cc

      by : (o : Option Body) → w.body (i ∷ nester) ≡ o → is_port o ≡ true → i ≤ LAST_USER_SLOT
      by None is e = absurd cc
      by (Some b) is e = leb-true i LAST_USER_SLOT
          (at_most b (is_a b e) (leb i LAST_USER_SLOT) (leb i LAST_SCRATCH_SLOT) (i == LAST_PORTER_SLOT) (it.savable.slots_kept i nester b is))

  record Led (wanted : List Kind) (p : Ptr) : Type 0 where
    pub led : IsLed c p
    pub leads : may_lead (kind_there c) wanted p ≡ true

  out_led : (wanted : List Kind) (x : Path) → is_far (cut_out (ports_of w nester slot) nester x) ≡ false
      → Led wanted (cut_out (ports_of w nester slot) nester x)
  out_led wanted [] near = absurd cc
  out_led wanted (i ∷ x) near = by (same_path x nester) (ports_of w nester slot i) refl near
    where
      by : (a b : Bool) → ports_of w nester slot i ≡ b → is_far (cond (a && b) (ptrs.Out i) ptrs.Far) ≡ false → Led wanted (cond (a && b) (ptrs.Out i) ptrs.Far)
      by true true e near = record { led = port_low i e; leads = refl }
      by true false e near = absurd cc
      by false b e near = absurd cc

  ptr_led : (wanted : List Kind) (p : Ptr) → may_lead (kind_there w) wanted p ≡ true → is_cut_pointer p ≡ false → is_far (see p) ≡ false → Led wanted (see p)
  ptr_led wanted ptrs.Null good real near = record { led = tt; leads = refl }
  ptr_led wanted ptrs.Dead good real near = record { led = tt; leads = refl }
  ptr_led wanted (ptrs.At x) good real near = by (strip root x) refl near
    where
      by : (o : Option Path) → strip root x ≡ o → is_far (cut_to (ports_of w nester slot) nester x o) ≡ false
          → Led wanted (cut_to (ports_of w nester slot) nester x o)
      by (Some q) e far =
          let is = strip_some root x q e in
          record {
            led = some_same q ∙ ap (λ y. is_some (w.body y)) (sym is)
                ∙ kind_some wanted x good;
            leads = ap (is_one_of wanted) (kind_same q ∙ ap (kind_there w) (sym is)) ∙ good;
          }
      by None e far = out_led wanted x far
  ptr_led wanted (ptrs.Out i) good real near = absurd cc
  ptr_led wanted ptrs.Outside good real near = absurd cc
  ptr_led wanted ptrs.Far good real near = absurd cc

  -- ---- a port and who is at it

  record PairOf (port : Ptr) (peer : Peer) : Type 0 where
    pub led : IsLed c port
    pub leads : leads_there (kind_there c) (kinds.Port ∷ []) port ≡ true
    pub peer_of : IsPeerOf c port peer
    pub good : is_good_peer (kind_there c) peer ≡ true
    pub near : (server : Ptr) → peer ≡ peers.Server server → lies_with port server

  root_space : kind_there w root ≡ Some kinds.Space
  root_space = there_is w root ∙ ap (option_map kind_of) it.plain.root

  not_root : is_one_of (kinds.Port ∷ []) (kind_there w root) ≡ true → ⊥
  not_root e = clash (sym e ∙ ap (is_one_of (kinds.Port ∷ [])) root_space)
    where
      clash : true ≡ false → ⊥
      clash e = cc

  serves_here : (k : ℕ) (q : Path) (r : Ptr) → is_one_of (kinds.Port ∷ []) (kind_there w (k ∷ (q ++ root))) ≡ true → (j : ℕ)
      → is_one_of (kinds.Thread ∷ []) (kind_there w (j ∷ (q ++ root))) ≡ true → r ≡ ptrs.At (j ∷ q) → PairOf (ptrs.At (k ∷ q)) (peers.Server r)
  serves_here k q r port j thread e = subst (λ s. PairOf (ptrs.At (k ∷ q)) (peers.Server s)) (sym e) (record {
    led = some_same (k ∷ q) ∙ kind_some (kinds.Port ∷ []) (k ∷ (q ++ root)) port;
    leads = ap (is_one_of (kinds.Port ∷ [])) (kind_same (k ∷ q)) ∙ port;
    peer_of = some_same (j ∷ q) ∙ kind_some (kinds.Thread ∷ []) (j ∷ (q ++ root)) thread;
    good = ap (is_one_of (kinds.Thread ∷ [])) (kind_same (j ∷ q)) ∙ thread;
    near = λ server same. subst (λ s. lies_with (ptrs.At (k ∷ q)) s) (one (ptrs.At (j ∷ q)) server same) refl;
  })
    where
      one : (a b : Ptr) → peers.Server a ≡ peers.Server b → a ≡ b
      one a b e = cc

  pair_inside : (k : ℕ) (q : Path) (peer : Peer) → is_one_of (kinds.Port ∷ []) (kind_there w (k ∷ (q ++ root))) ≡ true
      → is_good_peer (kind_there w) peer ≡ true → list_any is_cut_pointer (peer_pointer peer) ≡ false →
      ((server : Ptr) → peer ≡ peers.Server server → lies_with (ptrs.At (k ∷ (q ++ root))) server) → is_placed w (ptrs.At (k ∷ (q ++ root))) peer ≡ true
      → PairOf (ptrs.At (k ∷ q)) (cut_peer (ports_of w nester slot) nester slot false peer)
  pair_inside k q (peers.Server ptrs.Null) port good real lies placed = absurd cc
  pair_inside k q (peers.Server ptrs.Dead) port good real lies placed = absurd cc
  pair_inside k q (peers.Server (ptrs.Out i)) port good real lies placed = absurd cc
  pair_inside k q (peers.Server ptrs.Outside) port good real lies placed = absurd cc
  pair_inside k q (peers.Server ptrs.Far) port good real lies placed = absurd cc
  pair_inside k q (peers.Server (ptrs.At [])) port good real lies placed = let same : [] ≡ q ++ root = lies (ptrs.At []) refl in let long = ap length same in
      let sum = length-append q root in absurd (omega (arith, long, sum))
  pair_inside k q (peers.Server (ptrs.At (j ∷ s))) port good real lies placed =
      let same : s ≡ q ++ root = lies (ptrs.At (j ∷ s)) refl in
      serves_here k q (see (ptrs.At (j ∷ s))) port j (ap (λ x. is_one_of (kinds.Thread ∷ []) (kind_there w (j ∷ x))) (sym same) ∙ good)
      (ap (λ x. see (ptrs.At (j ∷ x))) same ∙ ap (cut_to (ports_of w nester slot) nester (j ∷ (q ++ root))) (strip-append root (j ∷ q)))
  pair_inside k q peers.Service port good real lies placed = absurd (by (w.body (k ∷ (q ++ root))) placed (it.plain.unserved (k ∷ q)))
    where
      by : (o : Option Body) → holds (λ (port : Option ℕ × Bool). port.1) (and_then port_of o) ≡ true → holds is_served o ≡ false → ⊥
      by None e f = cc
      by (Some (bodies.Port set served)) e f = cc
      by (Some (bodies.Mutex locked)) e f = cc
      by (Some bodies.Cond) e f = cc
      by (Some (bodies.Mapping m)) e f = cc
      by (Some (bodies.Region r)) e f = cc
      by (Some bodies.Portset) e f = cc
      by (Some (bodies.Space birth holder)) e f = cc
      by (Some (bodies.Thread_of t)) e f = cc
      by (Some (bodies.Reference to)) e f = cc
  pair_inside k q peers.Parked port good real lies placed = absurd (clash (sym placed ∙ it.plain.no_porter (LAST_PORTER_SLOT ∷ q)))
    where
      clash : true ≡ false → ⊥
      clash e = cc

  pair_out : (x : Path) (peer : Peer) → is_far (cut_out (ports_of w nester slot) nester x) ≡ false
      → PairOf (cut_out (ports_of w nester slot) nester x)
      (cut_peer (ports_of w nester slot) nester slot (is_out (cut_out (ports_of w nester slot) nester x)) peer)
  pair_out [] peer near = absurd cc
  pair_out (i ∷ x) peer near = by (same_path x nester) (ports_of w nester slot i) refl near
    where
      by : (a b : Bool) → ports_of w nester slot i ≡ b → is_far (cond (a && b) (ptrs.Out i) ptrs.Far) ≡ false →
          PairOf (cond (a && b) (ptrs.Out i) ptrs.Far) (cut_peer (ports_of w nester slot) nester slot (is_out (cond (a && b) (ptrs.Out i) ptrs.Far)) peer)
      by true true e near = record { led = port_low i e; leads = refl; peer_of = tt; good = refl; near = λ server same. tt }
      by true false e near = absurd cc
      by false b e near = absurd cc

  pair : (port : Ptr) (peer : Peer) → leads_there (kind_there w) (kinds.Port ∷ []) port ≡ true → is_cut_pointer port ≡ false → is_far (see port) ≡ false
      → is_good_peer (kind_there w) peer ≡ true →
      list_any is_cut_pointer (peer_pointer peer) ≡ false → ((server : Ptr) → peer ≡ peers.Server server → lies_with port server)
      → is_placed w port peer ≡ true →
      PairOf (see port) (cut_peer (ports_of w nester slot) nester slot (is_out (see port)) peer)
  pair ptrs.Null peer leads real near good real2 lies placed = absurd cc
  pair ptrs.Dead peer leads real near good real2 lies placed = absurd cc
  pair (ptrs.Out i) peer leads real near good real2 lies placed = absurd cc
  pair ptrs.Outside peer leads real near good real2 lies placed = absurd cc
  pair ptrs.Far peer leads real near good real2 lies placed = absurd cc
  pair (ptrs.At x) peer leads real near good real2 lies placed = by (strip root x) refl near
    where
      inside : (q : Path) → x ≡ q ++ root → PairOf (ptrs.At q) (cut_peer (ports_of w nester slot) nester slot false peer)
      inside [] is = absurd (not_root (ap (λ y. is_one_of (kinds.Port ∷ []) (kind_there w y)) (sym is) ∙ leads))
      inside (k ∷ q) is =
          pair_inside k q peer (ap (λ y. is_one_of (kinds.Port ∷ []) (kind_there w y)) (sym is) ∙ leads) good real2
          (λ server same. subst (λ y. lies_with (ptrs.At y) server) is (lies server same)) (ap (λ y. is_placed w (ptrs.At y) peer) (sym is) ∙ placed)

      by : (o : Option Path) → strip root x ≡ o → is_far (cut_to (ports_of w nester slot) nester x o) ≡ false →
          PairOf (cut_to (ports_of w nester slot) nester x o)
          (cut_peer (ports_of w nester slot) nester slot (is_out (cut_to (ports_of w nester slot) nester x o)) peer)
      by (Some q) e far = inside q (strip_some root x q e)
      by None e far = pair_out x peer far

  -- where a port inside or outside is shown, with nobody at it
  port_shown : (port : Ptr) → leads_there (kind_there w) (kinds.Port ∷ []) port ≡ true → is_cut_pointer port ≡ false → is_far (see port) ≡ false
      → (IsLed c (see port)) × (leads_there (kind_there c) (kinds.Port ∷ []) (see port) ≡ true)
  port_shown ptrs.Null leads real near = absurd cc
  port_shown ptrs.Dead leads real near = absurd cc
  port_shown (ptrs.Out i) leads real near = absurd cc
  port_shown ptrs.Outside leads real near = absurd cc
  port_shown ptrs.Far leads real near = absurd cc
  port_shown (ptrs.At x) leads real near = by (strip root x) refl near
    where
      by : (o : Option Path) → strip root x ≡ o → is_far (cut_to (ports_of w nester slot) nester x o) ≡ false →
          (IsLed c (cut_to (ports_of w nester slot) nester x o))
          × (leads_there (kind_there c) (kinds.Port ∷ []) (cut_to (ports_of w nester slot) nester x o) ≡ true)
      by (Some q) e far =
          let is = strip_some root x q e in (
            some_same q ∙ ap (λ y. is_some (w.body y)) (sym is)
                ∙ kind_some (kinds.Port ∷ []) x leads,
            ap (is_one_of (kinds.Port ∷ [])) (kind_same q ∙ ap (kind_there w) (sym is)) ∙ leads,
          )
      by None e far = let p = pair_out x peers.Parked far in (p.led, p.leads)

  -- ---- bodies

  no_far : (q : Path) (b : Body) → c.body q ≡ Some b → list_any is_far (pointers b) ≡ false
  no_far q b e = ap (holds (λ b. list_any is_far (pointers b))) (sym e) ∙ it.plain.near q

  no_cut : (x : Path) (b : Body) → w.body x ≡ Some b → list_any is_cut_pointer (pointers b) ≡ false
  no_cut x b e = ap (λ o. list_any is_cut_pointer (option_list pointers o)) (sym e) ∙ it.uncut x

  good_body : (x : Path) (b : Body) → w.body x ≡ Some b → is_good (kind_there w) x b ≡ true
  good_body x b e = ap (all_in (is_good (kind_there w) x)) (sym e) ∙ it.whole.valid.consistent.good x

  split_lists : (test : Ptr → Bool) (xs ys : List Ptr) → list_any test (xs ++ ys) ≡ false → (list_any test xs ≡ false) × (list_any test ys ≡ false)
  split_lists test xs ys e = or_parts (list_any test xs) (list_any test ys) (sym (list_any-append test xs ys) ∙ e)

  first_of : (test : Ptr → Bool) (p : Ptr) (ps : List Ptr) → list_any test (p ∷ ps) ≡ false → (test p ≡ false) × (list_any test ps ≡ false)
  first_of test p ps e = or_parts (test p) (list_any test ps) e

  record TalkOf (x : Path) (o : Option Talk) : Type 0 where
    pub led : IsLedTalk c o
    pub good : all_in (is_good_talk (kind_there c)) o ≡ true
    pub near : (talk : Talk) (server : Ptr) → o ≡ Some talk → talk.peer ≡ peers.Server server → lies_with talk.port server

  talk_of : (x : Path) (o : Option Talk) → all_in (is_good_talk (kind_there w)) o ≡ true → list_any is_cut_pointer (option_list talk_pointers o) ≡ false
      → list_any is_far (option_list talk_pointers (and_then f.talk o)) ≡ false →
      ((talk : Talk) (server : Ptr) → o ≡ Some talk → talk.peer ≡ peers.Server server → lies_with talk.port server)
      → ((talk : Talk) → o ≡ Some talk → is_placed w talk.port talk.peer ≡ true) → TalkOf x (and_then f.talk o)
  talk_of x None good real near lies placed = record { led = tt; good = refl; near = λ talk server e h. absurd cc }
  talk_of x (Some talk) good real near lies placed =
      let g = and_parts (leads_there (kind_there w) (kinds.Port ∷ []) talk.port) (is_good_peer (kind_there w) talk.peer) good in
      let r = first_of is_cut_pointer talk.port (peer_pointer talk.peer) real in
      let n = first_of is_far (see talk.port) (peer_pointer (cut_peer (ports_of w nester slot) nester slot (is_out (see talk.port)) talk.peer)) near in
      let p = pair talk.port talk.peer g.0 r.0 n.0 g.1 r.1 (λ server e. lies talk server refl e) (placed talk refl) in
      record { led = (p.led, p.peer_of); good = and_from _ _ p.leads p.good; near = λ other server e h. by other server p (same other e) h }
    where
      same : (other : Talk) → Some (cut_talk (ports_of w nester slot) nester slot talk) ≡ Some other
          → cut_talk (ports_of w nester slot) nester slot talk ≡ other
      same other e = cc

      by : (other : Talk) (server : Ptr) → PairOf (see talk.port) (cut_peer (ports_of w nester slot) nester slot (is_out (see talk.port)) talk.peer)
          → cut_talk (ports_of w nester slot) nester slot talk ≡ other → other.peer ≡ peers.Server server → lies_with other.port server
      by other server p e h = subst (λ (u : Talk). u.peer ≡ peers.Server server → lies_with u.port server) e (p.near server) h

  record FaultOf (x : Path) (o : Option Fault) : Type 0 where
    pub led : IsLedFault c o
    pub good : all_in (is_good_fault (kind_there c)) o ≡ true
    pub near : (fault : Fault) (taker : Ptr) → o ≡ Some fault → fault.taker ≡ Some (peers.Server taker) → lies_with fault.port taker

  fault_of : (x : Path) (o : Option Fault) → all_in (is_good_fault (kind_there w)) o ≡ true → list_any is_cut_pointer (option_list fault_pointers o) ≡ false
      → list_any is_far (option_list fault_pointers (and_then f.fault o)) ≡ false →
      ((fault : Fault) (taker : Ptr) → o ≡ Some fault → fault.taker ≡ Some (peers.Server taker) → lies_with fault.port taker)
      → ((fault : Fault) (taker : Peer) → o ≡ Some fault → fault.taker ≡ Some taker → is_placed w fault.port taker ≡ true) → FaultOf x (and_then f.fault o)
  fault_of x None good real near lies placed = record { led = tt; good = refl; near = λ fault taker e h. absurd cc }
  fault_of x (Some fault) good real near lies placed =
      let g = and_parts (leads_there (kind_there w) (kinds.Port ∷ []) fault.port) (all_in (is_good_peer (kind_there w)) fault.taker) good in
      let r = first_of is_cut_pointer fault.port (option_list peer_pointer fault.taker) real in
      let n = first_of is_far (see fault.port) (option_list peer_pointer
      (option_map (cut_peer (ports_of w nester slot) nester slot (is_out (see fault.port))) fault.taker)) near in
      let shown = port_shown fault.port g.0 r.0 n.0 in
      let t = taken fault.taker refl g.0 r.0 n.0 g.1 r.1 in
      record { led = (shown.0, t.0); good = and_from _ _ shown.1 t.1; near = λ other taker e h. by other taker t.2 (same other e) h }
    where
      same : (other : Fault) → Some (cut_fault (ports_of w nester slot) nester slot fault) ≡ Some other
          → cut_fault (ports_of w nester slot) nester slot fault ≡ other
      same other e = cc

      by : (other : Fault) (taker : Ptr) → ((s : Ptr)
          → option_map (cut_peer (ports_of w nester slot) nester slot (is_out (see fault.port))) fault.taker ≡ Some (peers.Server s)
          → lies_with (see fault.port) s) → cut_fault (ports_of w nester slot) nester slot fault ≡ other → other.taker ≡ Some (peers.Server taker)
          → lies_with other.port taker
      by other taker near e h = subst (λ (u : Fault). u.taker ≡ Some (peers.Server taker) → lies_with u.port taker) e (near taker) h

      one : (a b : Peer) → Some a ≡ Some b → a ≡ b
      one a b e = cc

      taken : (o : Option Peer) → fault.taker ≡ o → leads_there (kind_there w) (kinds.Port ∷ []) fault.port ≡ true → is_cut_pointer fault.port ≡ false
          → is_far (see fault.port) ≡ false → all_in (is_good_peer (kind_there w)) o ≡ true → list_any is_cut_pointer (option_list peer_pointer o) ≡ false →
          (IsTakenBy c (see fault.port) (option_map (cut_peer (ports_of w nester slot) nester slot (is_out (see fault.port))) o))
          × (all_in (is_good_peer (kind_there c)) (option_map (cut_peer (ports_of w nester slot) nester slot (is_out (see fault.port))) o) ≡ true) ×
          ((s : Ptr) → option_map (cut_peer (ports_of w nester slot) nester slot (is_out (see fault.port))) o ≡ Some (peers.Server s)
          → lies_with (see fault.port) s)
      taken None is leads real near good real2 = (tt, refl, λ s e. absurd cc)
      taken (Some peer) is leads real near good real2 =
          let p = pair fault.port peer leads real near good real2 (λ server e. lies fault server refl (is ∙ ap (λ (q : Peer). Some q) e))
          (placed fault peer refl is) in
          (p.peer_of, p.good, λ s e. p.near s (one (cut_peer (ports_of w nester slot) nester slot (is_out (see fault.port)) peer) (peers.Server s) e))

  record Stood (k : ℕ) (q : Path) (b : Body) : Type 0 where
    pub led : IsLedBody c b
    pub good : is_good (kind_there c) (k ∷ q) b ≡ true

  not_port : (o : Option Body) → is_one_of (kinds.Thread ∷ []) (option_map kind_of o) ≡ true → is_port o ≡ true → ⊥
  not_port None e f = cc
  not_port (Some (bodies.Port set served)) e f = cc
  not_port (Some (bodies.Mutex locked)) e f = cc
  not_port (Some bodies.Cond) e f = cc
  not_port (Some (bodies.Mapping m)) e f = cc
  not_port (Some (bodies.Region r)) e f = cc
  not_port (Some bodies.Portset) e f = cc
  not_port (Some (bodies.Space birth holder)) e f = cc
  not_port (Some (bodies.Thread_of t)) e f = cc
  not_port (Some (bodies.Reference to)) e f = cc

  -- who holds a space inside is inside
  held : (p : Ptr) → leads_there (kind_there w) (kinds.Thread ∷ []) p ≡ true → is_cut_pointer p ≡ false → is_far (see p) ≡ false
      → (IsHeldBy c (Some (see p))) × (leads_there (kind_there c) (kinds.Thread ∷ []) (see p) ≡ true)
  held ptrs.Null good real near = absurd cc
  held ptrs.Dead good real near = absurd cc
  held (ptrs.Out i) good real near = absurd cc
  held ptrs.Outside good real near = absurd cc
  held ptrs.Far good real near = absurd cc
  held (ptrs.At x) good real near = by (strip root x) refl near
    where
      out : (y : Path) → is_one_of (kinds.Thread ∷ []) (kind_there w y) ≡ true → is_far (cut_out (ports_of w nester slot) nester y) ≡ false → ⊥
      out [] good near = cc
      out (i ∷ y) good near = at (same_path y nester) refl (not (i == slot)) (is_port (w.body (i ∷ nester))) refl near
        where
          clash : true ≡ false → ⊥
          clash e = cc

          at : (a : Bool) → same_path y nester ≡ a → (d b : Bool) → is_port (w.body (i ∷ nester)) ≡ b
              → is_far (cond (a && (d && b)) (ptrs.Out i) ptrs.Far) ≡ false → ⊥
          at true e true true g near = not_port (w.body (i ∷ nester)) (ap (is_one_of (kinds.Thread ∷ [])) (sym (there_is w (i ∷ nester)))
              ∙ ap (λ z. is_one_of (kinds.Thread ∷ []) (kind_there w (i ∷ z))) (sym (same_path_eq y nester e)) ∙ good) g
          at true e true false g near = clash near
          at true e false b g near = clash near
          at false e d b g near = clash near

      by : (o : Option Path) → strip root x ≡ o → is_far (cut_to (ports_of w nester slot) nester x o) ≡ false →
          (IsHeldBy c (Some (cut_to (ports_of w nester slot) nester x o)))
          × (leads_there (kind_there c) (kinds.Thread ∷ []) (cut_to (ports_of w nester slot) nester x o) ≡ true)
      by (Some q) e far =
          let is = strip_some root x q e in (
            some_same q ∙ ap (λ y. is_some (w.body y)) (sym is)
                ∙ kind_some (kinds.Thread ∷ []) x good,
            ap (is_one_of (kinds.Thread ∷ [])) (kind_same q ∙ ap (kind_there w) (sym is)) ∙ good,
          )
      by None e far = absurd (out x good far)

  seen_here : (k : ℕ) (q : Path) (b : Body) → w.body (k ∷ (q ++ root)) ≡ Some b → c.body (k ∷ q) ≡ Some (seen_by f b)
  seen_here k q b e = body_is (k ∷ q) ∙ ap (option_map (λ b. unheld (k ∷ q) (seen_by f b))) e

  set_good : (k : ℕ) (q : Path) (set : Option ℕ) (served : Bool) → is_good_set (kind_there w) (k ∷ (q ++ root)) set served ≡ true
      → is_good_set (kind_there c) (k ∷ q) (and_then (λ set. Some set) set) false ≡ true
  set_good k q None served good = refl
  set_good k q (Some j) served good = ap (is_one_of (kinds.Portset ∷ [])) (kind_same (j ∷ q))
      ∙ (and_parts (not served) (is_one_of (kinds.Portset ∷ []) (kind_there w (j ∷ (q ++ root)))) good).1

  holder_led : (holder : Option Ptr) → all_in (leads_there (kind_there w) (kinds.Thread ∷ [])) holder ≡ true
      → list_any is_cut_pointer (option_list (λ p. p ∷ []) holder) ≡ false → list_any is_far (option_list (λ p. p ∷ []) (and_then f.holder holder)) ≡ false →
      (IsHeldBy c (and_then f.holder holder)) × (all_in (leads_there (kind_there c) (kinds.Thread ∷ [])) (and_then f.holder holder) ≡ true)
  holder_led None good real near = (tt, refl)
  holder_led (Some p) good real near = held p good (first_of is_cut_pointer p [] real).0 (first_of is_far (see p) [] near).0

  thread_there : (x : Path) (t : Thread) → w.body x ≡ Some (bodies.Thread_of t) → and_then thread_of (w.body x) ≡ Some t
  thread_there x t e = ap (and_then thread_of) e

  module _ (k : ℕ) (q : Path) (t : Thread) (e : w.body (k ∷ (q ++ root)) ≡ Some (bodies.Thread_of t)) where
    thread_talk : all_in (is_good_talk (kind_there w)) t.talk ≡ true → list_any is_cut_pointer (option_list talk_pointers t.talk) ≡ false
        → list_any is_far (option_list talk_pointers (and_then f.talk t.talk)) ≡ false → TalkOf (k ∷ q) (and_then f.talk t.talk)
    thread_talk good real near =
        talk_of (k ∷ q) t.talk good real near
        (λ talk server at peer. it.whole.valid.consistent.talks_near (k ∷ (q ++ root)) talk server
        (ap (and_then (λ (u : Thread). u.talk)) (thread_there (k ∷ (q ++ root)) t e) ∙ at) peer)
        (λ talk at. it.savable.talks_placed (k ∷ (q ++ root)) talk (ap (and_then (λ (u : Thread). u.talk)) (thread_there (k ∷ (q ++ root)) t e) ∙ at))

    thread_fault : all_in (is_good_fault (kind_there w)) t.fault ≡ true → list_any is_cut_pointer (option_list fault_pointers t.fault) ≡ false
        → list_any is_far (option_list fault_pointers (and_then f.fault t.fault)) ≡ false → FaultOf (k ∷ q) (and_then f.fault t.fault)
    thread_fault good real near =
        fault_of (k ∷ q) t.fault good real near
        (λ fault taker at peer. it.whole.valid.consistent.faults_near (k ∷ (q ++ root)) fault taker
        (ap (and_then (λ (u : Thread). u.fault)) (thread_there (k ∷ (q ++ root)) t e) ∙ at) peer)
        (λ fault taker at peer. it.savable.faults_placed (k ∷ (q ++ root)) fault taker
        (ap (and_then (λ (u : Thread). u.fault)) (thread_there (k ∷ (q ++ root)) t e) ∙ at) peer)

    record Both : Type 0 where
      pub talk : TalkOf (k ∷ q) (and_then f.talk t.talk)
      pub fault : FaultOf (k ∷ q) (and_then f.fault t.fault)

    both_of : Both
    unfolding seen_by
    both_of =
        let good = and_parts (all_in (is_good_talk (kind_there w)) t.talk) (all_in (is_good_fault (kind_there w)) t.fault)
        (good_body (k ∷ (q ++ root)) (bodies.Thread_of t) e) in
        let real = split_lists is_cut_pointer (option_list talk_pointers t.talk) (option_list fault_pointers t.fault)
        (no_cut (k ∷ (q ++ root)) (bodies.Thread_of t) e) in
        let near = split_lists is_far (option_list talk_pointers (and_then f.talk t.talk)) (option_list fault_pointers (and_then f.fault t.fault))
        (no_far (k ∷ q) (seen_by f (bodies.Thread_of t)) (seen_here k q (bodies.Thread_of t) e)) in
        record { talk = thread_talk good.0 real.0 near.0; fault = thread_fault good.1 real.1 near.1 }

  stood_by : (k : ℕ) (q : Path) (b : Body) → w.body (k ∷ (q ++ root)) ≡ Some b → is_good (kind_there w) (k ∷ (q ++ root)) b ≡ true
      → list_any is_cut_pointer (pointers b) ≡ false → list_any is_far (pointers (seen_by f b)) ≡ false → Stood k q (seen_by f b)
  unfolding seen_by
  stood_by k q (bodies.Mutex locked) e good real near = record { led = tt; good = refl }
  stood_by k q bodies.Cond e good real near = record { led = tt; good = refl }
  stood_by k q bodies.Portset e good real near = record { led = tt; good = refl }
  stood_by k q (bodies.Mapping m) e good real near =
      let g = and_parts _ (may_lead (kind_there w) (kinds.Region ∷ []) m.region) good in
      let p = ptr_led (kinds.Region ∷ []) m.region g.1 (first_of is_cut_pointer m.region [] real).0 (first_of is_far (see m.region) [] near).0 in
      record { led = p.led; good = and_from _ _ g.0 p.leads }
  stood_by k q (bodies.Region r) e good real near =
      let g = and_parts _ (may_lead (kind_there w) (kinds.Port ∷ []) r.keeper) good in
      let p = ptr_led (kinds.Port ∷ []) r.keeper g.1 (first_of is_cut_pointer r.keeper [] real).0 (first_of is_far (see r.keeper) [] near).0 in
      record { led = p.led; good = and_from _ _ g.0 p.leads }
  stood_by k q (bodies.Port set served) e good real near = record { led = refl; good = set_good k q set served good }
  stood_by k q (bodies.Space birth holder) e good real near = let h = holder_led holder good real near in record { led = (refl, h.0); good = h.1 }
  stood_by k q (bodies.Thread_of t) e good real near =
      let b = both_of k q t e in
      let user = ap (holds is_native) (sym e) ∙ it.plain.no_porter (k ∷ q) in
      record {
        led = (it.savable.shaped (k ∷ (q ++ root)) t (thread_there (k ∷ (q ++ root)) t e), user, b.talk.led, b.fault.led);
        good = and_from _ _ b.talk.good b.fault.good;
      }
  stood_by k q (bodies.Reference to) e good real near =
      let p = ptr_led referable to good (first_of is_cut_pointer to [] real).0 (first_of is_far (see to) [] near).0 in
      record { led = p.led; good = p.leads }

  stood : (k : ℕ) (q : Path) (b : Body) → w.body (k ∷ (q ++ root)) ≡ Some b → Stood k q (seen_by f b)
  stood k q b e = stood_by k q b e (good_body (k ∷ (q ++ root)) b e) (no_cut (k ∷ (q ++ root)) b e) (no_far (k ∷ q) (seen_by f b) (seen_here k q b e))

  pub top_is : c.body [] ≡ Some (bodies.Space 0 None)
  unfolding seen_by
  top_is = body_is [] ∙ ap (option_map (λ b. unheld [] (seen_by f b))) it.plain.root

  pub of_seen : (k : ℕ) (q : Path) (b : Body) → c.body (k ∷ q) ≡ Some b → (d : Body) × (w.body (k ∷ (q ++ root)) ≡ Some d) × (seen_by f d ≡ b)
  of_seen k q b e = by (w.body (k ∷ (q ++ root))) refl (sym (body_is (k ∷ q)) ∙ e)
    where
      by : (o : Option Body) → w.body (k ∷ (q ++ root)) ≡ o → option_map (λ b. unheld (k ∷ q) (seen_by f b)) o ≡ Some b
          → (d : Body) × (w.body (k ∷ (q ++ root)) ≡ Some d) × (seen_by f d ≡ b)
      by None is e = absurd cc
      by (Some d) is e = (d, is, cc)

  led_at : (x : Path) (b : Body) → c.body x ≡ Some b → IsLedBody c b
  led_at [] b e = subst (λ d. IsLedBody c d) (same (sym top_is ∙ e)) (refl, tt)
    where
      same : Some (bodies.Space 0 None) ≡ Some b → bodies.Space 0 None ≡ b
      same e = cc
  led_at (k ∷ q) b e = let d = of_seen k q b e in subst (λ b. IsLedBody c b) d.2 (stood k q d.0 d.1).led

  good_at : (x : Path) (b : Body) → c.body x ≡ Some b → is_good (kind_there c) x b ≡ true
  good_at [] b e = subst (λ d. is_good (kind_there c) [] d ≡ true) (same (sym top_is ∙ e)) refl
    where
      same : Some (bodies.Space 0 None) ≡ Some b → bodies.Space 0 None ≡ b
      same e = cc
  good_at (k ∷ q) b e = let d = of_seen k q b e in subst (λ b. is_good (kind_there c) (k ∷ q) b ≡ true) d.2 (stood k q d.0 d.1).good

  alone_is : IsAlone c
  unfolding cut
  alone_is = record {
    root = top_is;
    unborn = refl;
    parents = λ k x is. kind_same x ∙ it.whole.valid.consistent.parents k (x ++ root) (sym (some_same (k ∷ x)) ∙ is);
    slots = λ k x is. (let low = it.users k x (sym (some_same (k ∷ x)) ∙ is) in omega (arith, low));
    led = led_at;
    paged = λ x page is. (let p = it.whole.valid.paged (x ++ root) page is in (kind_same x ∙ p.space, p.number));
  }

  -- ---- who serves, and who holds

  talk_near_by : (k : ℕ) (q : Path) (d : Body) → w.body (k ∷ (q ++ root)) ≡ Some d → (talk : Talk) (server : Ptr)
      → and_then (λ (u : Thread). u.talk) (thread_of (seen_by f d)) ≡ Some talk → talk.peer ≡ peers.Server server → lies_with talk.port server
  unfolding seen_by
  talk_near_by k q (bodies.Thread_of t) is talk server e h = (both_of k q t is).talk.near talk server e h
  talk_near_by k q (bodies.Mutex locked) is talk server e h = absurd cc
  talk_near_by k q bodies.Cond is talk server e h = absurd cc
  talk_near_by k q (bodies.Mapping m) is talk server e h = absurd cc
  talk_near_by k q (bodies.Region r) is talk server e h = absurd cc
  talk_near_by k q (bodies.Port set served) is talk server e h = absurd cc
  talk_near_by k q bodies.Portset is talk server e h = absurd cc
  talk_near_by k q (bodies.Space birth holder) is talk server e h = absurd cc
  talk_near_by k q (bodies.Reference to) is talk server e h = absurd cc

  fault_near_by : (k : ℕ) (q : Path) (d : Body) → w.body (k ∷ (q ++ root)) ≡ Some d → (fault : Fault) (taker : Ptr)
      → and_then (λ (u : Thread). u.fault) (thread_of (seen_by f d)) ≡ Some fault → fault.taker ≡ Some (peers.Server taker) → lies_with fault.port taker
  unfolding seen_by
  fault_near_by k q (bodies.Thread_of t) is fault taker e h = (both_of k q t is).fault.near fault taker e h
  fault_near_by k q (bodies.Mutex locked) is fault taker e h = absurd cc
  fault_near_by k q bodies.Cond is fault taker e h = absurd cc
  fault_near_by k q (bodies.Mapping m) is fault taker e h = absurd cc
  fault_near_by k q (bodies.Region r) is fault taker e h = absurd cc
  fault_near_by k q (bodies.Port set served) is fault taker e h = absurd cc
  fault_near_by k q bodies.Portset is fault taker e h = absurd cc
  fault_near_by k q (bodies.Space birth holder) is fault taker e h = absurd cc
  fault_near_by k q (bodies.Reference to) is fault taker e h = absurd cc

  talks_near_at : (x : Path) (talk : Talk) (server : Ptr) → talk_at c x ≡ Some talk → talk.peer ≡ peers.Server server → lies_with talk.port server
  talks_near_at [] talk server e h = absurd (clash (sym (ap (λ o. and_then (λ (u : Thread). u.talk) (and_then thread_of o)) top_is) ∙ e))
    where
      clash : None ≡ Some talk → ⊥
      clash e = cc
  talks_near_at (k ∷ q) talk server e h = by (c.body (k ∷ q)) refl e
    where
      by : (o : Option Body) → c.body (k ∷ q) ≡ o → and_then (λ (u : Thread). u.talk) (and_then thread_of o) ≡ Some talk → lies_with talk.port server
      by None is e = absurd cc
      by (Some b) is e = let d = of_seen k q b is in talk_near_by k q d.0 d.1 talk server (ap (λ b. and_then (λ (u : Thread). u.talk) (thread_of b)) d.2 ∙ e) h

  faults_near_at : (x : Path) (fault : Fault) (taker : Ptr) → fault_at c x ≡ Some fault → fault.taker ≡ Some (peers.Server taker) → lies_with fault.port taker
  faults_near_at [] fault taker e h = absurd (clash (sym (ap (λ o. and_then (λ (u : Thread). u.fault) (and_then thread_of o)) top_is) ∙ e))
    where
      clash : None ≡ Some fault → ⊥
      clash e = cc
  faults_near_at (k ∷ q) fault taker e h = by (c.body (k ∷ q)) refl e
    where
      by : (o : Option Body) → c.body (k ∷ q) ≡ o → and_then (λ (u : Thread). u.fault) (and_then thread_of o) ≡ Some fault → lies_with fault.port taker
      by None is e = absurd cc
      by (Some b) is e = let d = of_seen k q b is in
          fault_near_by k q d.0 d.1 fault taker (ap (λ b. and_then (λ (u : Thread). u.fault) (thread_of b)) d.2 ∙ e) h

  -- what is seen inside is there
  pub see_at : (p : Ptr) (y : Path) → see p ≡ ptrs.At y → p ≡ ptrs.At (y ++ root)
  see_at ptrs.Null y e = absurd cc
  see_at ptrs.Dead y e = absurd cc
  see_at (ptrs.Out i) y e = absurd cc
  see_at ptrs.Outside y e = absurd cc
  see_at ptrs.Far y e = absurd cc
  see_at (ptrs.At x) y e = by (strip root x) refl e
    where
      out : (z : Path) → cut_out (ports_of w nester slot) nester z ≡ ptrs.At y → ⊥
      out [] e = cc
      out (i ∷ z) e = at (same_path z nester && ports_of w nester slot i) e
        where
          at : (b : Bool) → cond b (ptrs.Out i) ptrs.Far ≡ ptrs.At y → ⊥
          at true e = cc
          at false e = cc

      by : (o : Option Path) → strip root x ≡ o → cut_to (ports_of w nester slot) nester x o ≡ ptrs.At y → ptrs.At x ≡ ptrs.At (y ++ root)
      by (Some q) is e = let same : q ≡ y = one q e in ap (λ z. ptrs.At z) (strip_some root x q is ∙ ap (λ z. z ++ root) same)
        where
          one : (q : Path) → ptrs.At q ≡ ptrs.At y → q ≡ y
          one q e = cc
      by None is e = absurd (out x e)

  within_same : (x y : Path) → is_within (x ++ root) (y ++ root) ≡ false → is_within x y ≡ false
  within_same x y e = by (strip x y) refl
    where
      clash : true ≡ false → ⊥
      clash e = cc

      by : (o : Option Path) → strip x y ≡ o → is_some o ≡ false
      by None is = refl
      by (Some z) is = absurd (clash (sym (ap (λ u. is_some (strip (x ++ root) (u ++ root))) (strip_some x y z is)
          ∙ ap (λ u. is_some (strip (x ++ root) u)) (append_assoc z x root) ∙ ap is_some (strip-append (x ++ root) z)) ∙ e))

  holder_by : (k : ℕ) (q y : Path) (d : Body) → w.body (k ∷ (q ++ root)) ≡ Some d → holder_of (Some (seen_by f d)) ≡ Some (ptrs.At y)
      → is_within (k ∷ q) y ≡ false
  unfolding seen_by
  holder_by k q y (bodies.Space birth None) is e = absurd cc
  holder_by k q y (bodies.Space birth (Some p)) is e =
      let at = see_at p y (one (see p) e) in
      within_same (k ∷ q) y (it.savable.holders_outside (k ∷ (q ++ root)) (y ++ root) (ap holder_of is ∙ ap (λ (p : Ptr). Some p) at))
    where
      one : (p : Ptr) → Some p ≡ Some (ptrs.At y) → p ≡ ptrs.At y
      one p e = cc
  holder_by k q y (bodies.Mutex locked) is e = absurd cc
  holder_by k q y bodies.Cond is e = absurd cc
  holder_by k q y (bodies.Mapping m) is e = absurd cc
  holder_by k q y (bodies.Region r) is e = absurd cc
  holder_by k q y (bodies.Port set served) is e = absurd cc
  holder_by k q y bodies.Portset is e = absurd cc
  holder_by k q y (bodies.Thread_of t) is e = absurd cc
  holder_by k q y (bodies.Reference to) is e = absurd cc

  holders_at : (x y : Path) → holder_of (c.body x) ≡ Some (ptrs.At y) → is_within x y ≡ false
  holders_at [] y e = absurd (clash (sym (ap holder_of top_is) ∙ e))
    where
      clash : None ≡ Some (ptrs.At y) → ⊥
      clash e = cc
  holders_at (k ∷ q) y e = by (c.body (k ∷ q)) refl e
    where
      by : (o : Option Body) → c.body (k ∷ q) ≡ o → holder_of o ≡ Some (ptrs.At y) → is_within (k ∷ q) y ≡ false
      by None is e = absurd cc
      by (Some b) is e = let d = of_seen k q b is in holder_by k q y d.0 d.1 (ap (λ b. holder_of (Some b)) d.2 ∙ e)

  sound_is : IsSound c
  sound_is = record { good = good_at; windows = it.windows; talks_near = talks_near_at; faults_near = faults_near_at; holders_outside = holders_at }

pub subtree_is_sound : SubtreeIsSound
subtree_is_sound w nester slot it = (alone_is w nester slot it, sound_is w nester slot it)
