-- What a restorer releases is plain.
use Rattle.std.proofs.Common.{◌≡◌, ℕ, Bool, true, false, cond, ◌&&◌, nat_le, is_some, IfSome, List, [], ◌∷◌, ◌++◌, length, Option, Some, None, option_map, refl}
use Rattle.std.proofs.Common.{sym, ap, subst, arith, length-append, ◌∙◌}
use Rattle.std.specs.List.{list_any}
use Rattle.std.proofs.lemmas.Bool.{and_parts}
use Rattle.std.proofs.lemmas.List.Folds.{list_any-append}
use Rattle.fk_model.specs.declared.limits.TheConstants.{FIRST_SCRATCH_SLOT, LAST_SCRATCH_SLOT}
use Rattle.fk_model.specs.Places.{Path, same_path, strip, is_within, Ptr, leads_to}
use Rattle.fk_model.specs.Places.Ptr.{Null, Dead, At, Out, Outside, Far}
use Rattle.fk_model.specs.Objects.{Peer, Talk, Fault, Body, and_then, holds, is_served}
use Rattle.fk_model.specs.Objects.Peer.{Server, Service, Parked}
use Rattle.fk_model.specs.Objects.Body.{Mutex, Cond, Mapping, Region, Port, Portset, Space, Thread_of, Reference}
use Rattle.fk_model.specs.World.{World, apply, edited}
use Rattle.fk_model.specs.Searches.{option_list, talk_pointers, fault_pointers, peer_pointer}
use Rattle.fk_model.specs.Freezing.{body_pointers}
use Rattle.fk_model.specs.ObjectRows.{is_scratch}
use Rattle.fk_model.specs.StateRows.{is_native}
use Rattle.fk_model.specs.Cut.{cut, is_out, is_far, has_far, is_inner_peer, is_served_by, seen_by, unheld, IsPlain}
use Rattle.fk_model.proofs.walks.PlaceLaws.{same_path_refl, same_path_eq, same_path_ne, strip_some, strip-append}
use Rattle.laws_subtrees.specs.Cut.Likeness.{seeing, seen_peer, PtrLikeness, HasLikeness, IfServer, AllInTalk, AllInFault, IsPlainBody}
use Rattle.laws_subtrees.specs.Cut.Likeness.PtrLikeness.{Nulls, Deads, Inside, PortAt, PortOut}
use Rattle.laws_jobs.specs.Holds.{released_world}
use Rattle.laws_jobs.proofs.Holds.{release_comes_to}
use Rattle.laws_jobs.proofs.Unled.{both_off, one_off}
use Rattle.laws_restore.specs.Sites.Orders.{Spot, Pin, Site, eye, bare, pin_of, PinShows, SpotShows, Shows}
use Rattle.laws_restore.specs.Sites.Orders.Spot.{To, Unsure}
use Rattle.laws_restore.specs.Sites.Orders.Pin.{NoPin}
use Rattle.laws_restore.specs.Sites.Fit.{IsUnled}
use Rattle.laws_restore.specs.Sites.Ready.{ReleasesPlain}
use Rattle.laws_restore.proofs.InSites.Standing.{root_there}
use Rattle.laws_restore.proofs.InSites.Others.{holding}
use Rattle.laws_restore.proofs.InSites.Ended.{built_is_cut}

-- ---- what is seen leads nowhere far

module _ (root : Path) (see : Ptr → Ptr) (big : World) where
  abbrev Alike : Ptr → Type 0
  Alike p = HasLikeness root see big p

  near_like : (p q : Ptr) → PtrLikeness root big p q → is_far q ≡ false
  near_like _ _ Nulls = refl
  near_like _ _ Deads = refl
  near_like _ _ (Inside x) = refl
  near_like _ _ (PortAt x i apart port) = refl
  near_like _ _ (PortOut old i) = refl

  near : (p : Ptr) → Alike p → is_far (see p) ≡ false
  near p like = near_like p (see p) like

  abbrev none_far : List Ptr → Type 0
  none_far ps = list_any is_far ps ≡ false

  one_near : (p : Ptr) → is_far p ≡ false → none_far (p ∷ [])
  one_near p h = rw h refl

  both_near : (ps qs : List Ptr) → none_far ps → none_far qs → none_far (ps ++ qs)
  both_near ps qs h g = list_any-append is_far ps qs ∙ (rw (h, g) refl)

  peer_near : (out : Bool) (peer : Peer) → IfServer out peer Alike → none_far (peer_pointer (seen_peer see out peer))
  peer_near true peer h = refl
  peer_near false (Server thread) h = one_near (see thread) (near thread h)
  peer_near false Service h = refl
  peer_near false Parked h = refl

  talk_near : (o : Option Talk) → IfSome o (AllInTalk see Alike) → none_far (option_list talk_pointers (and_then (seeing see).talk o))
  talk_near None h = refl
  talk_near (Some talk) h = both_near (see talk.port ∷ []) (peer_pointer (seen_peer see (is_out (see talk.port)) talk.peer))
      (one_near (see talk.port) (near talk.port h.0)) (peer_near (is_out (see talk.port)) talk.peer h.1)

  taker_near : (out : Bool) (o : Option Peer) → IfSome o (λ taker. IfServer out taker Alike)
      → none_far (option_list peer_pointer (option_map (seen_peer see out) o))
  taker_near out None h = refl
  taker_near out (Some taker) h = peer_near out taker h

  fault_near : (o : Option Fault) → IfSome o (AllInFault see Alike) → none_far (option_list fault_pointers (and_then (seeing see).fault o))
  fault_near None h = refl
  fault_near (Some fault) h =
      both_near (see fault.port ∷ []) (option_list peer_pointer (option_map (seen_peer see (is_out (see fault.port))) fault.taker))
      (one_near (see fault.port) (near fault.port h.0)) (taker_near (is_out (see fault.port)) fault.taker h.1)

  body_near : (b : Body) → IsPlainBody see Alike b → has_far (Some (seen_by (seeing see) b)) ≡ false
  unfolding seen_by
  body_near (Mapping m) h = one_near (see m.region) (near m.region h)
  body_near (Region r) h = one_near (see r.keeper) (near r.keeper h)
  body_near (Reference to) h = one_near (see to) (near to h)
  body_near (Space birth None) h = refl
  body_near (Space birth (Some holder)) h = one_near (see holder) (near holder h)
  body_near (Thread_of t) h = both_near (option_list talk_pointers (and_then (seeing see).talk t.talk))
      (option_list fault_pointers (and_then (seeing see).fault t.fault)) (talk_near t.talk h.0) (fault_near t.fault h.1)
  body_near (Mutex locked) h = refl
  body_near Cond h = refl
  body_near (Port set served) h = refl
  body_near Portset h = refl

  there_near : (k : ℕ) (q : Path) (o : Option Body) → IfSome o (IsPlainBody see Alike)
      → has_far (option_map (λ b. unheld (k ∷ q) (seen_by (seeing see) b)) o) ≡ false
  there_near k q None h = refl
  there_near k q (Some b) h = body_near b h

  native_off : (o : Option Body) → IfSome o (IsPlainBody see Alike) → holds is_native o ≡ false
  native_off None h = refl
  native_off (Some (Thread_of t)) h = h.2
  native_off (Some (Mutex locked)) h = refl
  native_off (Some b) h = refl

  served_off : (o : Option Body) → IfSome o (IsPlainBody see Alike) → holds is_served o ≡ false
  served_off None h = refl
  served_off (Some (Port set served)) h = h
  served_off (Some (Mutex locked)) h = refl
  served_off (Some b) h = refl

-- ---- who is led nowhere inside is served by nobody inside

module _ (root : Path) (b : Option Body) (off : (q : Path) → list_any (leads_to (q ++ root)) (body_pointers b) ≡ false) where
  outside : (p : Ptr) → ((q : Path) → leads_to (q ++ root) p ≡ false) → is_inner_peer root (Server p) ≡ false
  outside (At x) none = by (strip root x) refl
    where
      by : (o : Option Path) → strip root x ≡ o → is_some o ≡ false
      by None e = refl
      by (Some q) e =
          let is = strip_some root x q e in
          let on : leads_to (q ++ root) (At x) ≡ true = rw is (same_path_refl (q ++ root)) in
          let clash = sym on ∙ none q in
          cc
  outside Null none = refl
  outside Dead none = refl
  outside (Out i) none = refl
  outside Outside none = refl
  outside Far none = refl

  peer_out : (peer : Peer) → ((q : Path) → list_any (leads_to (q ++ root)) (peer_pointer peer) ≡ false) → is_inner_peer root peer ≡ false
  peer_out (Server p) none = outside p (λ q. one_off (q ++ root) p (none q))
  peer_out Service none = refl
  peer_out Parked none = refl

  talk_out : (o : Option Talk) → ((q : Path) → list_any (leads_to (q ++ root)) (option_list talk_pointers o) ≡ false)
      → holds (λ (talk : Talk). is_inner_peer root talk.peer) o ≡ false
  talk_out None none = refl
  talk_out (Some talk) none = peer_out talk.peer (λ q. (both_off (q ++ root) (talk.port ∷ []) (peer_pointer talk.peer) (none q)).1)

  taker_out : (o : Option Peer) → ((q : Path) → list_any (leads_to (q ++ root)) (option_list peer_pointer o) ≡ false) → holds (is_inner_peer root) o ≡ false
  taker_out None none = refl
  taker_out (Some taker) none = peer_out taker none

  fault_out : (o : Option Fault) → ((q : Path) → list_any (leads_to (q ++ root)) (option_list fault_pointers o) ≡ false)
      → holds (λ (fault : Fault). holds (is_inner_peer root) fault.taker) o ≡ false
  fault_out None none = refl
  fault_out (Some fault) none = taker_out fault.taker (λ q. (both_off (q ++ root) (fault.port ∷ []) (option_list peer_pointer fault.taker) (none q)).1)

  served_by : (o : Option Body) → o ≡ b → is_served_by root o ≡ false
  served_by None e = refl
  served_by (Some (Thread_of t)) e =
      let both : (q : Path) → _ = λ q. both_off (q ++ root) (option_list talk_pointers t.talk) (option_list fault_pointers t.fault)
      (subst (λ (o : Option Body). list_any (leads_to (q ++ root)) (body_pointers o) ≡ false) (sym e) (off q)) in
      rw (talk_out t.talk (λ q. (both q).0), fault_out t.fault (λ q. (both q).1)) refl
  served_by (Some (Mutex locked)) e = refl
  served_by (Some Cond) e = refl
  served_by (Some (Mapping m)) e = refl
  served_by (Some (Region r)) e = refl
  served_by (Some (Port set served)) e = refl
  served_by (Some Portset) e = refl
  served_by (Some (Space birth holder)) e = refl
  served_by (Some (Reference to)) e = refl

module _ (nester : Path) (slot : ℕ) (g : Site) (w : World) (shows : Shows nester slot g w) (is : g.pin ≡ NoPin) (unled : IsUnled nester slot w) where
  abbrev root : Path
  root = slot ∷ nester

  abbrev see : Ptr → Ptr
  see = eye nester slot

  abbrev v : World
  v = released_world nester slot w

  no_pin : w.body (pin_of root) ≡ None
  no_pin = subst (λ (p : Pin). PinShows nester slot w p) is shows.pin

  bare_same : (y : Path) → (bare root w).body y ≡ w.body y
  bare_same y = by (same_path y (pin_of root)) refl
    where
      by : (t : Bool) → same_path y (pin_of root) ≡ t → cond t None (w.body y) ≡ w.body y
      by true e = let same = same_path_eq y (pin_of root) e in rw same (sym no_pin)
      by false e = refl

  plain_inside : (k : ℕ) (q : Path) → IfSome (w.body (k ∷ (q ++ root))) (IsPlainBody see (HasLikeness root see (bare root w)))
  plain_inside k q = subst (λ (o : Option Body). IfSome o (IsPlainBody see (HasLikeness root see (bare root w)))) (bare_same (k ∷ (q ++ root)))
      (shows.like.plain k q)

  still : (y : Path) → same_path y root ≡ false → v.body y ≡ w.body y
  unfolding apply
  still y apart = rw apart refl

  root_now : (birth : ℕ) (holder : Option Ptr) → w.body root ≡ Some (Space birth holder) → v.body root ≡ Some (Space birth None)
  unfolding apply edited
  root_now birth holder e = rw (same_path_refl root, e) refl

  deeper : (k : ℕ) (q : Path) → same_path (k ∷ (q ++ root)) root ≡ false
  deeper k q = same_path_ne (k ∷ (q ++ root)) root (λ e. omega (arith, ap length e, length-append q root))

  built_near : (q : Path) → has_far (g.built.body q) ≡ false
  unfolding seen_by
  built_near [] = let space = root_there nester slot g w shows in rw (shows.like.bodies [], bare_same root, space.is) refl
  built_near (k ∷ q) = rw (shows.like.bodies (k ∷ q)) (there_near root see (bare root w) k q ((bare root w).body (k ∷ (q ++ root))) (shows.like.plain k q))

  native_inside : (q : Path) → holds is_native (v.body (q ++ root)) ≡ false
  native_inside [] = let space = root_there nester slot g w shows in rw (root_now space.birth space.holder space.is) refl
  native_inside (k ∷ q) = rw (still (k ∷ (q ++ root)) (deeper k q)) (native_off root see (bare root w) (w.body (k ∷ (q ++ root))) (plain_inside k q))

  served_here : (q : Path) → holds is_served (v.body (q ++ root)) ≡ false
  served_here [] = let space = root_there nester slot g w shows in rw (root_now space.birth space.holder space.is) refl
  served_here (k ∷ q) = rw (still (k ∷ (q ++ root)) (deeper k q)) (served_off root see (bare root w) (w.body (k ∷ (q ++ root))) (plain_inside k q))

  -- scratch is references
  scratch_serves : (k : ℕ) (o : Option Spot) → SpotShows nester slot w g.pin k o → is_served_by root (w.body (k ∷ nester)) ≡ false
  scratch_serves k None h = rw h refl
  scratch_serves k (Some (To p)) h = rw h.0 refl
  scratch_serves k (Some Unsure) h = rw h.1 refl

  root_inside : is_within root root ≡ true
  root_inside = rw (strip-append root []) refl

  others_serve : (x : Path) → is_within root x ≡ false → is_served_by root (v.body x) ≡ false
  others_serve x out = rw (still x apart) (by x out (is_scratch nester x) refl)
    where
      apart : same_path x root ≡ false
      apart = here (same_path x root) refl
        where
          here : (t : Bool) → same_path x root ≡ t → t ≡ false
          here false e = refl
          here true e = let same = same_path_eq x root e in let on : is_within root x ≡ true = rw same root_inside in let clash = sym on ∙ out in cc

      slot_of_scratch : (y : Path) → is_scratch nester y ≡ true → is_served_by root (w.body y) ≡ false
      slot_of_scratch [] h =
          let both = and_parts (same_path [] nester && nat_le FIRST_SCRATCH_SLOT 0) (nat_le 0 LAST_SCRATCH_SLOT) h in
          let first = and_parts (same_path [] nester) (nat_le FIRST_SCRATCH_SLOT 0) both.0 in
          let second = first.1 in cc
      slot_of_scratch (k ∷ y) h =
          let both = and_parts (same_path y nester && nat_le FIRST_SCRATCH_SLOT k) (nat_le k LAST_SCRATCH_SLOT) h in
          let first = and_parts (same_path y nester) (nat_le FIRST_SCRATCH_SLOT k) both.0 in
          let here = same_path_eq y nester first.0 in
          let its : is_scratch nester (k ∷ nester) ≡ true = subst (λ (z : Path). is_scratch nester (k ∷ z) ≡ true) here h in
          subst (λ (z : Path). is_served_by root (w.body (k ∷ z)) ≡ false) (sym here) (scratch_serves k (g.spot k) (shows.spots k its))

      by : (y : Path) → is_within root y ≡ false → (t : Bool) → is_scratch nester y ≡ t → is_served_by root (w.body y) ≡ false
      by y out true e = slot_of_scratch y e
      by y out false e = served_by root (w.body y) (λ q. unled q y out e) (w.body y) refl

  plain_now : cut v nester slot ≡ g.built → IsPlain v nester slot
  plain_now same =
      let space = root_there nester slot g w shows in
      record {
        birth = space.birth;
        holder = None;
        root = root_now space.birth space.holder space.is;
        near = λ q. rw same (built_near q);
        no_porter = native_inside;
        unserved = served_here;
        served_inside = others_serve;
      }

pub releases_plain : ReleasesPlain
releases_plain nester slot g w reply shows is unled answered =
    let its = release_comes_to nester slot w (holding nester slot g w shows) answered.ready in
    subst (λ (u : World). IsPlain u nester slot) (sym its.world) (plain_now nester slot g w shows is unled (its.cut ∙ built_is_cut nester slot g w shows is))
