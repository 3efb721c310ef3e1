-- A closed subtree is plain: what it leads to is near by what its fields show and by where servers live, and whom it would
-- serve outside would lead in.
use Rattle.std.proofs.Common.{◌≡◌, ℕ, ◌+◌, ◌<◌, ◌≤◌, Bool, true, false, if◌then◌else◌, not, ◌&&◌, ◌||◌, ◌==◌, leb, IsSome, is_some, List, [], ◌∷◌, ◌++◌, Option}
use Rattle.std.proofs.Common.{Some, None, option_map, refl, sym, ap, ◌∙◌, ◌⊎◌, inl, inr, arith}
use Rattle.std.specs.List.{list_any, count_by, fold}
use Rattle.std.proofs.lemmas.Bool.{or_cases, and_parts, lt-ltb, lt-leb, leb-true}
use Rattle.std.proofs.Math.Bool.{and-false}
use Rattle.std.proofs.lemmas.List.{length-append}
use Rattle.std.proofs.lemmas.List.Folds.{list_any-append}
use Rattle.fk_model.specs.declared.limits.TheConstants.{LAST_USER_SLOT, FIRST_SCRATCH_SLOT, LAST_SCRATCH_SLOT, LAST_PORTER_SLOT}
use Rattle.fk_model.specs.declared.names.Kind.{Kind}
use Rattle.fk_model.specs.declared.names.Kind.TheVariants as kinds
use Rattle.fk_model.specs.Places.{Path, same_path, strip, is_within, parent, Ptr, leads_to}
use Rattle.fk_model.specs.Places.Ptr.{Null, Dead, At, Out, Outside, Far}
use Rattle.fk_model.specs.Objects.{Peer, Talk, Fault, Thread, Body, kind_of, reference_of, and_then, or_else, holds}
use Rattle.fk_model.specs.Objects.Peer.{Server, Service, Parked}
use Rattle.fk_model.specs.Objects.Body.{Mutex, Cond, Mapping, Region, Port, Portset, Space, Thread_of, Reference}
use Rattle.fk_model.specs.World.{World}
use Rattle.fk_model.specs.Searches.{objects, depth, pointers, option_list, talk_pointers, fault_pointers, peer_pointer, talk_at, fault_at}
use Rattle.fk_model.specs.ObjectRows.{is_scratch}
use Rattle.fk_model.specs.Holds.{holder_of}
use Rattle.fk_model.specs.Talks.{path_to}
use Rattle.fk_model.specs.StateRows.{is_native}
use Rattle.fk_model.specs.Valid.{IsConsistent, IsRooted, kind_there, is_one_of, leads_there, all_in, is_good_talk, is_good_fault, is_good_peer, lies_with}
use Rattle.fk_model.specs.Whole.{stands_in}
use Rattle.fk_model.specs.Cut.{ports_of, cut_out, cut_to, cut_ptr, is_out, cut_peer, cutting, seen_by, unheld, cut, is_far, has_far, is_inner_peer}
use Rattle.fk_model.specs.Cut.{is_served_by}
use Rattle.fk_model.specs.Closed.{when_bad, far_field, is_holders_scratch, leads_in_from, is_led_to, open_field, first_place, open_place, led_to_from_outside}
use Rattle.fk_model.specs.Sound.{is_cut_pointer, IsUncut}
use Rattle.fk_model.proofs.walks.Members.{IsIn, any_in}
use Rattle.fk_model.proofs.walks.PlaceLaws.{same_path_refl, strip-append, strip_some}
use Rattle.fk_model.proofs.walks.WalkLaws.{live_above, short, walked, in_objects}
use Rattle.laws_subtrees.specs.Further.ClosedLaws.{ClosedIsPlain}

-- ---- no first place: no place

none_first : (a b : Option ℕ) → or_else a b ≡ None → (a ≡ None) × (b ≡ None)
none_first None b h = (refl, h)
none_first (Some k) b h = cc

no_place : (field : Path → Option ℕ) (slot : ℕ) (qs : List Path) → first_place field slot qs ≡ None → (q : Path) → IsIn q qs → field q ≡ None
no_place field slot [] h q is = absurd is
no_place field slot (p ∷ qs) h q is = by (field p) refl h is (no_place field slot qs)
  where
    by : (o : Option ℕ) → field p ≡ o → or_else (option_map (λ number. record { path = p ++ slot ∷ []; field = number }) o) (first_place field slot qs) ≡ None →
        (p ≡ q) ⊎ IsIn q qs → (first_place field slot qs ≡ None → (q : Path) → IsIn q qs → field q ≡ None) → field q ≡ None
    by (Some k) e h is rest = cc
    by None e h (inl here) rest = rw (← here) e
    by None e h (inr there) rest = rest h q there

good_when : (bad : Bool) (n : ℕ) → when_bad bad n ≡ None → bad ≡ false
good_when false n h = refl
good_when true n h = cc

-- ---- pointers that a count meets

grows : (test : Ptr → Bool) (n : ℕ) (ps : List Ptr) → n ≤ fold (λ a p. a + (if test p then 1 else 0)) n ps
grows test n [] = omega arith
grows test n (p ∷ ps) = let more = grows test (n + (if test p then 1 else 0)) ps in omega (arith, more)

met : (test : Ptr → Bool) (n : ℕ) (ps : List Ptr) → list_any test ps ≡ true → n < fold (λ a p. a + (if test p then 1 else 0)) n ps
met test n [] h = cc
met test n (p ∷ ps) h = by (test p) h (λ m. met test m ps)
  where
    by : (t : Bool) → (t || list_any test ps) ≡ true → ((m : ℕ) → list_any test ps ≡ true → m < fold (λ a p. a + (if test p then 1 else 0)) m ps) →
        n < fold (λ a p. a + (if test p then 1 else 0)) (n + (if t then 1 else 0)) ps
    by true h rest = let more = grows test (n + 1) ps in omega (arith, more)
    by false h rest = let more = rest (n + 0) h in omega (arith, more)

counted : (test : Ptr → Bool) (ps : List Ptr) → list_any test ps ≡ true → 0 < count_by test ps
counted test ps h = met test 0 ps h

any_both : (test : Ptr → Bool) (ps qs : List Ptr) → list_any test ps ≡ false → list_any test qs ≡ false → list_any test (ps ++ qs) ≡ false
any_both test ps qs h g = rw (list_any-append test ps qs, h, g) refl

first_off : (a b : Bool) → (a || b) ≡ false → a ≡ false
first_off false b h = refl
first_off true b h = cc

next_off : (a b : Bool) → (a || b) ≡ false → b ≡ false
next_off false b h = h
next_off true b h = cc

is_port : (o : Option Kind) → is_one_of (kinds.Port ∷ []) o ≡ true → o ≡ Some kinds.Port
is_port (Some kinds.Port) h = refl
is_port (Some other) h = cc
is_port None h = cc

is_thread : (o : Option Kind) → is_one_of (kinds.Thread ∷ []) o ≡ true → o ≡ Some kinds.Thread
is_thread (Some kinds.Thread) h = refl
is_thread (Some other) h = cc
is_thread None h = cc

module _ (w : World) (nester : Path) (slot : ℕ) (valid : IsConsistent w) (rooted : IsRooted w) (few : w.next ≤ depth) (uncut : IsUncut w)
    (space : kind_there w (slot ∷ nester) ≡ Some kinds.Space) where
  abbrev root : Path
  root = slot ∷ nester

  abbrev see : Ptr → Ptr
  see = cut_ptr (ports_of w nester slot) nester slot

  -- what leads to a port is seen near, and not outward, where it leads inside
  data Shown : Ptr → Type 0 where
    Within : (q : Path) → Shown (At (q ++ root))
    Outward : (p : Ptr) → is_out (see p) ≡ true → Shown p

  shown : (wanted : List Kind) (p : Ptr) → leads_there (kind_there w) wanted p ≡ true → is_cut_pointer p ≡ false → is_far (see p) ≡ false → Shown p
  shown wanted (At x) good real near = by (strip root x) refl near
    where
      out : (y : Path) → is_far (cut_out (ports_of w nester slot) nester y) ≡ false → is_out (cut_out (ports_of w nester slot) nester y) ≡ true
      out [] far = cc
      out (i ∷ y) far = at (same_path y nester && ports_of w nester slot i) far
        where
          at : (b : Bool) → is_far (if b then Out i else Far) ≡ false → is_out (if b then Out i else Far) ≡ true
          at true h = refl
          at false h = cc

      by : (o : Option Path) → strip root x ≡ o → is_far (cut_to (ports_of w nester slot) nester x o) ≡ false → Shown (At x)
      by (Some q) e far = let is = strip_some root x q e in rw is (Within q)
      by None e far = Outward (At x) (rw e (out x far))
  shown wanted Null good real near = cc
  shown wanted Dead good real near = cc
  shown wanted (Out i) good real near = cc
  shown wanted Outside good real near = cc
  shown wanted Far good real near = cc

  -- a thread in the space of something inside, other than the root, is inside
  inside_with : (q y : Path) → kind_there w (q ++ root) ≡ Some kinds.Port → kind_there w y ≡ Some kinds.Thread → parent y ≡ parent (q ++ root) →
      (z : Path) × (y ≡ z ++ root)
  inside_with [] y port thread same = cc
  inside_with (k ∷ q) [] port thread same = let top = rooted.root in cc
  inside_with (k ∷ q) (j ∷ s) port thread same = (j ∷ q, ap (λ (s : Path). j ∷ s) same)

  -- ---- what an object inside leads to

  one_far : (p : Ptr) → is_far (see p) ≡ false → list_any is_far (see p ∷ []) ≡ false
  one_far p h = rw h refl

  -- the peer of a talk, or the taker of a fault, whose port is shown
  peer_near : (port : Ptr) (peer : Peer) → Shown port → leads_there (kind_there w) (kinds.Port ∷ []) port ≡ true → is_good_peer (kind_there w) peer ≡ true →
      list_any is_cut_pointer (peer_pointer peer) ≡ false → ((server : Ptr) → peer ≡ Server server → lies_with port server) →
      list_any is_far (peer_pointer (cut_peer (ports_of w nester slot) nester slot (is_out (see port)) peer)) ≡ false
  peer_near _ peer (Outward port out) at good real near = rw out refl
  peer_near _ Service (Within q) at good real near = rw (strip-append root q) refl
  peer_near _ Parked (Within q) at good real near = rw (strip-append root q) refl
  peer_near _ (Server server) (Within q) at good real near = by server good real (near server refl)
    where
      by : (server : Ptr) → leads_there (kind_there w) (kinds.Thread ∷ []) server ≡ true → list_any is_cut_pointer (server ∷ []) ≡ false →
          lies_with (At (q ++ root)) server →
          list_any is_far (peer_pointer (cut_peer (ports_of w nester slot) nester slot (is_out (see (At (q ++ root)))) (Server server))) ≡ false
      by (At y) good real lies =
          let inside = inside_with q y (is_port (kind_there w (q ++ root)) at) (is_thread (kind_there w y) good) lies in
          rw (strip-append root q, inside.1, strip-append root inside.0) refl
      by Null good real lies = cc
      by Dead good real lies = cc
      by (Out i) good real lies = cc
      by Outside good real lies = cc
      by Far good real lies = cc

  talk_near : (x : Path) (o : Option Talk) → talk_at w x ≡ o → all_in (is_good_talk (kind_there w)) o ≡ true →
      list_any is_cut_pointer (option_list talk_pointers o) ≡ false →
      holds (λ (talk : Talk). is_far talk.port) (and_then (cutting (ports_of w nester slot) nester slot).talk o) ≡ false →
      list_any is_far (option_list talk_pointers (and_then (cutting (ports_of w nester slot) nester slot).talk o)) ≡ false
  talk_near x None there good real near = refl
  talk_near x (Some talk) there good real near =
      let goods = and_parts _ _ good in
      let port = shown (kinds.Port ∷ []) talk.port goods.0 (first_off _ _ real) near in
      rw (near) (peer_near talk.port talk.peer port goods.0 goods.1 (next_off _ _ real) (λ server is. valid.talks_near x talk server there is))

  taker_near : (port : Ptr) (o : Option Peer) → Shown port → leads_there (kind_there w) (kinds.Port ∷ []) port ≡ true →
      all_in (is_good_peer (kind_there w)) o ≡ true → list_any is_cut_pointer (option_list peer_pointer o) ≡ false →
      ((server : Ptr) → o ≡ Some (Server server) → lies_with port server) →
      list_any is_far (option_list peer_pointer (option_map (cut_peer (ports_of w nester slot) nester slot (is_out (see port))) o)) ≡ false
  taker_near port None shows at good real near = refl
  taker_near port (Some peer) shows at good real near = peer_near port peer shows at good real (λ server is. near server (ap Some is))

  fault_near : (x : Path) (o : Option Fault) → fault_at w x ≡ o → all_in (is_good_fault (kind_there w)) o ≡ true →
      list_any is_cut_pointer (option_list fault_pointers o) ≡ false →
      holds (λ (fault : Fault). is_far fault.port) (and_then (cutting (ports_of w nester slot) nester slot).fault o) ≡ false →
      list_any is_far (option_list fault_pointers (and_then (cutting (ports_of w nester slot) nester slot).fault o)) ≡ false
  fault_near x None there good real near = refl
  fault_near x (Some fault) there good real near =
      let goods = and_parts _ _ good in
      let port = shown (kinds.Port ∷ []) fault.port goods.0 (first_off _ _ real) near in
      rw (near) (taker_near fault.port fault.taker port goods.0 goods.1 (next_off _ _ real) (λ server is. valid.faults_near x fault server there is))

  holder_near : (o : Option Ptr) → holds (λ p. is_far p || is_out p) o ≡ false → list_any is_far (option_list (λ p. p ∷ []) o) ≡ false
  holder_near None near = refl
  holder_near (Some p) near = rw (first_off (is_far p) (is_out p) near) refl

  seen_near : (x : Path) (b : Body) → w.body x ≡ Some b → far_field (Some (seen_by (cutting (ports_of w nester slot) nester slot) b)) ≡ None →
      list_any is_far (pointers (seen_by (cutting (ports_of w nester slot) nester slot) b)) ≡ false
  unfolding seen_by
  seen_near x (Mapping m) there none = one_far m.region (first_off _ _ (good_when _ 0 none))
  seen_near x (Region r) there none = one_far r.keeper (good_when _ 0 none)
  seen_near x (Space birth holder) there none = holder_near _ (good_when _ 0 none)
  seen_near x (Reference to) there none = one_far to (good_when _ 0 none)
  seen_near x (Thread_of t) there none =
      let parts = none_first _ _ none in
      let good : (all_in (is_good_talk (kind_there w)) t.talk && all_in (is_good_fault (kind_there w)) t.fault) ≡ true = rw there at (valid.good x) in
      let goods = and_parts _ _ good in
      let real : list_any is_cut_pointer (option_list talk_pointers t.talk ++ option_list fault_pointers t.fault) ≡ false = rw there at (uncut x) in
      let reals : (list_any is_cut_pointer (option_list talk_pointers t.talk) || list_any is_cut_pointer (option_list fault_pointers t.fault)) ≡ false =
      sym (list_any-append is_cut_pointer (option_list talk_pointers t.talk) (option_list fault_pointers t.fault)) ∙ real in
      any_both is_far (option_list talk_pointers (and_then (cutting (ports_of w nester slot) nester slot).talk t.talk))
      (option_list fault_pointers (and_then (cutting (ports_of w nester slot) nester slot).fault t.fault))
      (talk_near x t.talk (rw there refl) goods.0 (first_off _ _ reals) (good_when _ 0 parts.0))
      (fault_near x t.fault (rw there refl) goods.1 (next_off _ _ reals) (good_when _ 2 parts.1))
  seen_near x (Mutex locked) there none = refl
  seen_near x Cond there none = refl
  seen_near x (Port set served) there none = refl
  seen_near x Portset there none = refl

  -- ---- each object inside is looked at

  is_some-map : (f : Body → Body) (o : Option Body) → is_some (option_map f o) ≡ is_some o
  is_some-map f None = refl
  is_some-map f (Some b) = refl

  cut_live : (q : Path) → is_some ((cut w nester slot).body q) ≡ is_some (w.body (q ++ root))
  unfolding cut
  cut_live q = is_some-map _ (w.body (q ++ root))

  cut_rooted : IsRooted (cut w nester slot)
  unfolding cut kind_there seen_by
  cut_rooted = record { root = by (w.body root) space; slots = λ k x live. rooted.slots k (x ++ root) (sym (cut_live (k ∷ x)) ∙ live) }
    where
      by : (o : Option Body) → option_map kind_of o ≡ Some kinds.Space →
          option_map kind_of (option_map (λ b. unheld [] (seen_by (cutting (ports_of w nester slot) nester slot) b)) o) ≡ Some kinds.Space
      by (Some (Space birth holder)) h = refl
      by (Some (Mutex locked)) h = cc
      by (Some Cond) h = cc
      by (Some (Mapping m)) h = cc
      by (Some (Region r)) h = cc
      by (Some (Port set served)) h = cc
      by (Some Portset) h = cc
      by (Some (Thread_of t)) h = cc
      by (Some (Reference to)) h = cc
      by None h = cc

  cut_above : (k : ℕ) (x : Path) → IsSome ((cut w nester slot).body (k ∷ x)) → IsSome ((cut w nester slot).body x)
  cut_above k x live = cut_live x ∙ live_above w valid k (x ++ root) (sym (cut_live (k ∷ x)) ∙ live)

  in_cut : (q : Path) → IsSome (w.body (q ++ root)) → IsIn q ([] ∷ objects (cut w nester slot))
  in_cut [] live = inl refl
  in_cut (k ∷ q) live =
      let long = short w valid (k ∷ (q ++ root)) live in
      let more = length-append q root in
      inr (walked (cut w nester slot) cut_above cut_rooted k q (cut_live (k ∷ q) ∙ live) (omega (arith, long, more, few)))

  module _ (closed : open_place w nester slot ≡ None) where
    no_field : (q : Path) → IsSome (w.body (q ++ root)) → open_field w nester slot q ≡ None
    unfolding open_place
    no_field q live = no_place (open_field w nester slot) slot ([] ∷ objects (cut w nester slot)) closed q (in_cut q live)

    near_at : (k : ℕ) (q : Path) → has_far ((cut w nester slot).body (k ∷ q)) ≡ false
    unfolding cut
    near_at k q = by (w.body (k ∷ (q ++ root))) refl
      where
        by : (o : Option Body) → w.body (k ∷ (q ++ root)) ≡ o →
            has_far (option_map (λ b. unheld (k ∷ q) (seen_by (cutting (ports_of w nester slot) nester slot) b)) o) ≡ false
        by None e = refl
        by (Some b) e =
            let none = (none_first (far_field ((cut w nester slot).body (k ∷ q))) (when_bad (is_led_to w root (k ∷ (q ++ root))) led_to_from_outside)
            (no_field (k ∷ q) (rw e refl))).0 in
            seen_near (k ∷ (q ++ root)) b e (rw e at none)

    near_root : (birth : ℕ) (holder : Option Ptr) → w.body root ≡ Some (Space birth holder) → has_far ((cut w nester slot).body []) ≡ false
    unfolding cut seen_by
    near_root birth holder e = rw e refl

    not_led : (q : Path) → IsSome (w.body (q ++ root)) → is_led_to w root (q ++ root) ≡ false
    not_led q live = good_when _ led_to_from_outside (none_first _ _ (no_field q live)).1

    -- ---- whom somebody inside serves leads in

    -- a thread stands in no slot of scratch
    thread_slot : (k : ℕ) (t : Thread) → stands_in k (Thread_of t) ≡ true → (leb FIRST_SCRATCH_SLOT k && leb k LAST_SCRATCH_SLOT) ≡ false
    thread_slot k t stands = by (leb k LAST_USER_SLOT) (leb k LAST_SCRATCH_SLOT) refl stands
      where
        above : leb k LAST_USER_SLOT ≡ true → leb FIRST_SCRATCH_SLOT k ≡ false
        above low = lt-leb FIRST_SCRATCH_SLOT k (let most = leb-true k LAST_USER_SLOT low in omega (arith, most))

        by : (low scratch : Bool) → leb k LAST_USER_SLOT ≡ low →
            (if low then not (is_native (Thread_of t)) else (if scratch then is_some (reference_of (Thread_of t))
            else k == LAST_PORTER_SLOT && is_native (Thread_of t))) ≡ true → (leb FIRST_SCRATCH_SLOT k && scratch) ≡ false
        by true scratch e h = rw (above e) refl
        by false true e h = cc
        by false false e h = and-false (leb FIRST_SCRATCH_SLOT k)

    never_scratch : (k : ℕ) (s : Path) (t : Thread) → stands_in k (Thread_of t) ≡ true → is_holders_scratch w root (k ∷ s) ≡ false
    never_scratch k s t stands = by (and_then path_to (holder_of (w.body root)))
      where
        both : (a b c : Bool) → (b && c) ≡ false → (a && b && c) ≡ false
        both true b c h = h
        both false b c h = refl

        by : (o : Option Path) → holds (λ holder. is_scratch (parent holder) (k ∷ s)) o ≡ false
        by None = refl
        by (Some holder) = both (same_path s (parent holder)) (leb FIRST_SCRATCH_SLOT k) (leb k LAST_SCRATCH_SLOT) (thread_slot k t stands)

    -- an outside thread with a pointer to a live thing inside would lead in
    led : (k : ℕ) (s q : Path) (t : Thread) → w.body (k ∷ s) ≡ Some (Thread_of t) → stands_in k (Thread_of t) ≡ true → is_within root (k ∷ s) ≡ false →
        IsSome (w.body (q ++ root)) → list_any (leads_to (q ++ root)) (pointers (Thread_of t)) ≡ true → ⊥
    led k s q t there stands out live leads =
        let test : leads_in_from w root (q ++ root) (k ∷ s) ≡ true =
        rw (out, never_scratch k s t stands, there) (lt-ltb 0 _ (counted (leads_to (q ++ root)) (pointers (Thread_of t)) leads)) in
        let on = any_in (leads_in_from w root (q ++ root)) (k ∷ s) ([] ∷ objects w) (inr (in_objects w valid rooted few k s (rw there refl))) test in
        let off = not_led q live in
        cc

    -- the server inside of a talk or a fault
    Serves : List Ptr → Type 0
    Serves ps = (q : Path) × IsSome (w.body (q ++ root)) × (list_any (leads_to (q ++ root)) ps ≡ true)

    then_on : (a b : Bool) → b ≡ true → (a || b) ≡ true
    then_on true b h = refl
    then_on false b h = h

    thread_live : (y : Path) → is_one_of (kinds.Thread ∷ []) (kind_there w y) ≡ true → IsSome (w.body y)
    unfolding kind_there
    thread_live y h = by (w.body y) h
      where
        by : (o : Option Body) → is_one_of (kinds.Thread ∷ []) (option_map kind_of o) ≡ true → IsSome o
        by (Some b) h = refl
        by None h = cc

    peer_inside : (peer : Peer) → is_inner_peer root peer ≡ true → is_good_peer (kind_there w) peer ≡ true → Serves (peer_pointer peer)
    unfolding Serves
    peer_inside (Server (At y)) h good = by (strip root y) refl h
      where
        by : (o : Option Path) → strip root y ≡ o → is_some o ≡ true → Serves (At y ∷ [])
        by (Some q) e h =
            let is = strip_some root y q e in
            (q, rw is at (thread_live y good), rw (is) (then_on_first (same_path_refl (q ++ root))))
          where
            then_on_first : {a : Bool} → a ≡ true → (a || false) ≡ true
            then_on_first h = rw h refl
        by None e h = cc
    peer_inside (Server Null) h good = cc
    peer_inside (Server Dead) h good = cc
    peer_inside (Server (Out i)) h good = cc
    peer_inside (Server Outside) h good = cc
    peer_inside (Server Far) h good = cc
    peer_inside Service h good = cc
    peer_inside Parked h good = cc

    talk_inside : (o : Option Talk) → holds (λ (talk : Talk). is_inner_peer root talk.peer) o ≡ true → all_in (is_good_talk (kind_there w)) o ≡ true →
        Serves (option_list talk_pointers o)
    unfolding Serves
    talk_inside None h good = cc
    talk_inside (Some talk) h good =
        let found = peer_inside talk.peer h (and_parts _ _ good).1 in
        (found.0, found.1, then_on (leads_to (found.0 ++ root) talk.port) _ found.2)

    taker_inside : (o : Option Peer) → holds (is_inner_peer root) o ≡ true → all_in (is_good_peer (kind_there w)) o ≡ true → Serves (option_list peer_pointer o)
    unfolding Serves
    taker_inside None h good = cc
    taker_inside (Some peer) h good = peer_inside peer h good

    fault_inside : (o : Option Fault) → holds (λ (fault : Fault). holds (is_inner_peer root) fault.taker) o ≡ true →
        all_in (is_good_fault (kind_there w)) o ≡ true →
        Serves (option_list fault_pointers o)
    unfolding Serves
    fault_inside None h good = cc
    fault_inside (Some fault) h good =
        let found = taker_inside fault.taker h (and_parts _ _ good).1 in
        (found.0, found.1, then_on (leads_to (found.0 ++ root) fault.port) _ found.2)

    server_inside : (x : Path) (t : Thread) → w.body x ≡ Some (Thread_of t) → is_served_by root (Some (Thread_of t)) ≡ true → Serves (pointers (Thread_of t))
    unfolding Serves
    server_inside x t there h =
        let good : (all_in (is_good_talk (kind_there w)) t.talk && all_in (is_good_fault (kind_there w)) t.fault) ≡ true = rw there at (valid.good x) in
        let goods = and_parts _ _ good in
        by (or_cases _ _ h) goods.0 goods.1
      where
        both : (q : Path) → (list_any (leads_to q) (option_list talk_pointers t.talk) || list_any (leads_to q) (option_list fault_pointers t.fault)) ≡ true →
            list_any (leads_to q) (pointers (Thread_of t)) ≡ true
        both q on = list_any-append (leads_to q) (option_list talk_pointers t.talk) (option_list fault_pointers t.fault) ∙ on

        first_on : (a b : Bool) → a ≡ true → (a || b) ≡ true
        first_on a b h = rw h refl

        by : (holds (λ (talk : Talk). is_inner_peer root talk.peer) t.talk ≡ true) ⊎ (holds (λ (fault : Fault). holds (is_inner_peer root) fault.taker)
            t.fault ≡ true) →
            all_in (is_good_talk (kind_there w)) t.talk ≡ true → all_in (is_good_fault (kind_there w)) t.fault ≡ true → Serves (pointers (Thread_of t))
        by (inl e) talk fault = let found = talk_inside t.talk e talk in (found.0, found.1, both (found.0 ++ root) (first_on _ _ found.2))
        by (inr e) talk fault = let found = fault_inside t.fault e fault in (found.0, found.1, both (found.0 ++ root) (then_on _ _ found.2))

    serves_none : (slots : (k : ℕ) (x : Path) (b : Body) → w.body (k ∷ x) ≡ Some b → stands_in k b ≡ true) (x : Path) → is_within root x ≡ false →
        is_served_by root (w.body x) ≡ false
    unfolding Serves kind_there
    serves_none slots x out = by x (w.body x) refl out
      where
        thread : (x : Path) (t : Thread) → w.body x ≡ Some (Thread_of t) → is_within root x ≡ false → (b : Bool) →
            is_served_by root (Some (Thread_of t)) ≡ b → b ≡ false
        thread x t there out false e = refl
        thread [] t there out true e = let top = rooted.root in let here : option_map kind_of (w.body []) ≡ Some kinds.Thread = rw there refl in cc
        thread (k ∷ s) t there out true e =
            let found = server_inside (k ∷ s) t there e in
            absurd (led k s found.0 t there (slots k s (Thread_of t) there) out found.1 found.2)

        by : (x : Path) (o : Option Body) → w.body x ≡ o → is_within root x ≡ false → is_served_by root o ≡ false
        by x (Some (Thread_of t)) e out = thread x t e out _ refl
        by x (Some (Mutex locked)) e out = refl
        by x (Some Cond) e out = refl
        by x (Some (Mapping m)) e out = refl
        by x (Some (Region r)) e out = refl
        by x (Some (Port set served)) e out = refl
        by x (Some Portset) e out = refl
        by x (Some (Space birth holder)) e out = refl
        by x (Some (Reference to)) e out = refl
        by x None e out = refl

pub closed_is_plain : ClosedIsPlain
unfolding kind_there
closed_is_plain w nester slot whole savable uncut users closed =
    let consistent = whole.valid.consistent in
    let rooted = whole.valid.rooted in
    let space : kind_there w (slot ∷ nester) ≡ Some kinds.Space = ap (option_map kind_of) users.root in
    record {
      birth = users.birth;
      holder = users.holder;
      root = users.root;
      near = near;
      no_porter = users.no_porter;
      unserved = users.unserved;
      served_inside = serves_none w nester slot consistent rooted whole.few uncut space closed savable.slots_kept;
    }
  where
    near : (q : Path) → has_far ((cut w nester slot).body q) ≡ false
    near [] = near_root w nester slot whole.valid.consistent whole.valid.rooted whole.few uncut (ap (option_map kind_of) users.root) closed users.birth
        users.holder users.root
    near (k ∷ q) = near_at w nester slot whole.valid.consistent whole.valid.rooted whole.few uncut (ap (option_map kind_of) users.root) closed k q
