-- A thread inside serves nobody.
use Rattle.std.proofs.Common.{◌≡◌, ℕ, Bool, true, false, cond, ◌&&◌, nat_le, is_some, IfSome, List, [], ◌∷◌, ◌++◌, length, find, Option, Some, None, option_map}
use Rattle.std.proofs.Common.{refl, sym, ap, subst, arith, length-append, ◌∙◌}
use Rattle.std.specs.List.{list_any}
use Rattle.std.proofs.lemmas.Bool.{and_parts}
use Rattle.fk_model.specs.Places.{Path, same_path, strip, Ptr, leads_to}
use Rattle.fk_model.specs.Places.Ptr.{At}
use Rattle.fk_model.specs.Objects.{Peer, Talk, Fault, Thread, Body, and_then, holds, thread_of}
use Rattle.fk_model.specs.Objects.Peer.{Server, Service, Parked}
use Rattle.fk_model.specs.Objects.Body.{Mutex, Cond, Mapping, Region, Port, Portset, Space, Thread_of, Reference}
use Rattle.fk_model.specs.World.{World, serves}
use Rattle.fk_model.specs.Searches.{option_list, talk_pointers, fault_pointers, peer_pointer, objects, client_of, faulter_of, is_serving}
use Rattle.fk_model.specs.Freezing.{body_pointers}
use Rattle.fk_model.specs.ObjectRows.{is_scratch}
use Rattle.fk_model.specs.Valid.{IsConsistent, lies_with}
use Rattle.fk_model.specs.Cut.{is_out, seen_by, unheld}
use Rattle.fk_model.proofs.walks.PlaceLaws.{same_path_eq, same_path_refl, strip_some, strip-append, leads_to_at}
use Rattle.laws_subtrees.specs.Cut.Likeness.{seeing, seen_peer, PtrLikeness, HasLikeness, AllInTalk, AllInFault, IsPlainBody}
use Rattle.laws_subtrees.specs.Cut.Likeness.PtrLikeness.{Nulls, Deads, Inside, PortAt, PortOut}
use Rattle.laws_restore.specs.Sites.Orders.{Spot, Pin, Site, pin_of, eye, bare, PinShows, SpotShows, Shows}
use Rattle.laws_restore.specs.Sites.Orders.Spot.{To, Unsure}
use Rattle.laws_restore.specs.Sites.Orders.Pin.{NoPin, Loose, Fast}
use Rattle.laws_restore.specs.Sites.Fit.{IsUnled, IsIdleIn, ServesNobody}
use Rattle.laws_restore.proofs.InSites.Standing.{root_there}
use Rattle.laws_jobs.proofs.Unled.{both_off, one_off}

find_none : (f : Path → Bool) (xs : List Path) → ((x : Path) → f x ≡ false) → find f xs ≡ None
find_none f [] h = refl
find_none f (x ∷ xs) h = rw (h x) (find_none f xs h)

module _ (x : Path) where
  -- whoever leads nowhere there isn't served from there
  peer_off : (peer : Peer) → list_any (leads_to x) (peer_pointer peer) ≡ false → serves x peer ≡ false
  peer_off (Server thread) h = one_off x thread h
  peer_off Service h = refl
  peer_off Parked h = refl

  talk_off : (o : Option Talk) → list_any (leads_to x) (option_list talk_pointers o) ≡ false → holds (λ (talk : Talk). serves x talk.peer) o ≡ false
  talk_off None h = refl
  talk_off (Some talk) h = peer_off talk.peer (both_off x (talk.port ∷ []) (peer_pointer talk.peer) h).1

  taker_off : (o : Option Peer) → list_any (leads_to x) (option_list peer_pointer o) ≡ false → holds (serves x) o ≡ false
  taker_off None h = refl
  taker_off (Some taker) h = peer_off taker h

  fault_off : (o : Option Fault) → list_any (leads_to x) (option_list fault_pointers o) ≡ false
      → holds (λ (fault : Fault). holds (serves x) fault.taker) o ≡ false
  fault_off None h = refl
  fault_off (Some fault) h = taker_off fault.taker (both_off x (fault.port ∷ []) (option_list peer_pointer fault.taker) h).1

  abbrev Idle : Option Body → Type 0
  Idle o = (holds (λ (talk : Talk). serves x talk.peer) (and_then (λ (t : Thread). t.talk) (and_then thread_of o)) ≡ false)
      × (holds (λ (fault : Fault). holds (serves x) fault.taker) (and_then (λ (t : Thread). t.fault) (and_then thread_of o)) ≡ false)

  idle_off : (o : Option Body) → list_any (leads_to x) (body_pointers o) ≡ false → Idle o
  idle_off None h = (refl, refl)
  idle_off (Some (Thread_of t)) h = let both = both_off x (option_list talk_pointers t.talk) (option_list fault_pointers t.fault) h in
      (talk_off t.talk both.0, fault_off t.fault both.1)
  idle_off (Some (Mutex locked)) h = (refl, refl)
  idle_off (Some Cond) h = (refl, refl)
  idle_off (Some (Mapping m)) h = (refl, refl)
  idle_off (Some (Region r)) h = (refl, refl)
  idle_off (Some (Port set served)) h = (refl, refl)
  idle_off (Some Portset) h = (refl, refl)
  idle_off (Some (Space birth holder)) h = (refl, refl)
  idle_off (Some (Reference to)) h = (refl, refl)

module _ (nester : Path) (slot : ℕ) (g : Site) (w : World) (j : ℕ) (z : Path) (shows : Shows nester slot g w) (unled : IsUnled nester slot w)
    (valid : IsConsistent w) (idle : IsIdleIn g.built (j ∷ z)) where
  abbrev root : Path
  root = slot ∷ nester

  abbrev x : Path
  x = j ∷ (z ++ root)

  abbrev see : Ptr → Ptr
  see = eye nester slot

  -- a peer inside, seen
  peer_seen : (peer : Peer) → serves (j ∷ z) (seen_peer see false peer) ≡ false → serves x peer ≡ false
  peer_seen Service h = refl
  peer_seen Parked h = refl
  peer_seen (Server thread) h = by (leads_to x thread) refl
    where
      by : (t : Bool) → leads_to x thread ≡ t → t ≡ false
      by false e = refl
      by true e =
          let at = leads_to_at x thread e in
          let seen : see thread ≡ At (j ∷ z) = ap see at ∙ shows.like.within (j ∷ z) in
          let on : leads_to (j ∷ z) (see thread) ≡ true = rw seen (same_path_refl (j ∷ z)) in
          cc

  -- one at a port outside lives there
  peer_out : (port : Ptr) (peer : Peer) → PtrLikeness root (bare root w) port (see port) → is_out (see port) ≡ true
      → ((server : Ptr) → peer ≡ Server server → lies_with port server) → serves x peer ≡ false
  peer_out port Service like out near = refl
  peer_out port Parked like out near = refl
  peer_out port (Server thread) like out near = by (leads_to x thread) refl
    where
      apart : (p seen : Ptr) → PtrLikeness root (bare root w) p seen → see p ≡ seen → is_out seen ≡ true → lies_with p (At x) → ⊥
      apart _ _ Nulls e out near = cc
      apart _ _ Deads e out near = cc
      apart _ _ (Inside y) e out near = cc
      apart _ _ (PortAt [] i off port) e out near = let same : z ++ root ≡ [] = near in omega (arith, ap length same, length-append z root)
      apart _ _ (PortAt (k ∷ y) i off port) e out near =
          let same : z ++ root ≡ y = near in
          let whole : strip root (k ∷ y) ≡ Some (k ∷ z) = ap (strip root) (ap (λ (y : Path). k ∷ y) (sym same)) ∙ strip-append root (k ∷ z) in
          let on : is_some (strip root (k ∷ y)) ≡ true = ap is_some whole in
          cc
      apart _ _ (PortOut old i) e out near = cc

      by : (t : Bool) → leads_to x thread ≡ t → t ≡ false
      by false e = refl
      by true e = let at = leads_to_at x thread e in absurd (apart port (see port) like refl out (subst (λ (p : Ptr). lies_with port p) at (near thread refl)))

  peer_idle : (port : Ptr) (peer : Peer) (out : Bool) → is_out (see port) ≡ out → PtrLikeness root (bare root w) port (see port)
      → ((server : Ptr) → peer ≡ Server server → lies_with port server) → serves (j ∷ z) (seen_peer see (is_out (see port)) peer) ≡ false
      → serves x peer ≡ false
  peer_idle port peer true e like near h = peer_out port peer like e near
  peer_idle port peer false e like near h = peer_seen peer (subst (λ (b : Bool). serves (j ∷ z) (seen_peer see b peer) ≡ false) e h)

  talk_idle : (o : Option Talk) → IfSome o (AllInTalk see (HasLikeness root see (bare root w)))
      → ((talk : Talk) (server : Ptr) → o ≡ Some talk → talk.peer ≡ Server server → lies_with talk.port server) →
      holds (λ (talk : Talk). serves (j ∷ z) talk.peer) (and_then (seeing see).talk o) ≡ false → holds (λ (talk : Talk). serves x talk.peer) o ≡ false
  talk_idle None like near h = refl
  talk_idle (Some talk) like near h = peer_idle talk.port talk.peer (is_out (see talk.port)) refl like.0 (λ server e. near talk server refl e) h

  taker_idle : (port : Ptr) (o : Option Peer) → PtrLikeness root (bare root w) port (see port)
      → ((server : Ptr) → o ≡ Some (Server server) → lies_with port server) →
      holds (serves (j ∷ z)) (option_map (seen_peer see (is_out (see port))) o) ≡ false → holds (serves x) o ≡ false
  taker_idle port None like near h = refl
  taker_idle port (Some taker) like near h = peer_idle port taker (is_out (see port)) refl like (λ server e. near server (ap Some e)) h

  fault_idle : (o : Option Fault) → IfSome o (AllInFault see (HasLikeness root see (bare root w)))
      → ((fault : Fault) (server : Ptr) → o ≡ Some fault → fault.taker ≡ Some (Server server) → lies_with fault.port server) →
      holds (λ (fault : Fault). holds (serves (j ∷ z)) fault.taker) (and_then (seeing see).fault o) ≡ false
      → holds (λ (fault : Fault). holds (serves x) fault.taker) o ≡ false
  fault_idle None like near h = refl
  fault_idle (Some fault) like near h = taker_idle fault.port fault.taker like.0 (λ server e. near fault server refl e) h

  -- an object inside, by what it is seen as
  body_idle : (y : Path) (o : Option Body) → w.body y ≡ o → IfSome o (IsPlainBody see (HasLikeness root see (bare root w)))
      → Idle (j ∷ z) (option_map (seen_by (seeing see)) o) → Idle x o
  unfolding seen_by
  body_idle y (Some (Thread_of t)) is plain h = (
    talk_idle t.talk plain.0 (λ talk server e f. valid.talks_near y talk server (rw is e) f) h.0,
    fault_idle t.fault plain.1 (λ fault server e f. valid.faults_near y fault server (rw is e) f) h.1,
  )
  body_idle y None is plain h = (refl, refl)
  body_idle y (Some (Mutex locked)) is plain h = (refl, refl)
  body_idle y (Some Cond) is plain h = (refl, refl)
  body_idle y (Some (Mapping m)) is plain h = (refl, refl)
  body_idle y (Some (Region r)) is plain h = (refl, refl)
  body_idle y (Some (Port set served)) is plain h = (refl, refl)
  body_idle y (Some Portset) is plain h = (refl, refl)
  body_idle y (Some (Space birth holder)) is plain h = (refl, refl)
  body_idle y (Some (Reference to)) is plain h = (refl, refl)

  none_idle : (y : Path) (o : Option Body) → w.body y ≡ o → Idle x o → Idle x (w.body y)
  none_idle y o is h = rw is h

  pin_idle : (p : Pin) → PinShows nester slot w p → Idle x (w.body (pin_of root))
  pin_idle NoPin shown = none_idle (pin_of root) None shown (refl, refl)
  pin_idle Loose shown = none_idle (pin_of root) (Some (Reference shown.0)) shown.1 (refl, refl)
  pin_idle (Fast i) shown = none_idle (pin_of root) (Some (Reference (At (i ∷ nester)))) shown.0 (refl, refl)

  spot_idle : (k : ℕ) (o : Option Spot) → SpotShows nester slot w g.pin k o → Idle x (w.body (k ∷ nester))
  spot_idle k None shown = none_idle (k ∷ nester) None shown (refl, refl)
  spot_idle k (Some (To p)) shown = none_idle (k ∷ nester) (Some (Reference _)) shown.0 (refl, refl)
  spot_idle k (Some Unsure) shown = none_idle (k ∷ nester) (Some (Reference shown.0)) shown.1 (refl, refl)

  inside_idle : (q : Path) → Idle x (w.body (q ++ root))
  inside_idle [] = let space = root_there nester slot g w shows in none_idle root (Some (Space space.birth space.holder)) space.is (refl, refl)
  inside_idle (k ∷ q) = by (same_path (k ∷ (q ++ root)) (pin_of root)) refl (shows.like.plain k q) (shows.like.bodies (k ∷ q)) (idle (k ∷ q))
    where
      by : (t : Bool) → same_path (k ∷ (q ++ root)) (pin_of root) ≡ t
          → IfSome (cond t None (w.body (k ∷ (q ++ root)))) (IsPlainBody see (HasLikeness root see (bare root w))) →
          g.built.body (k ∷ q) ≡ option_map (λ b. unheld (k ∷ q) (seen_by (seeing see) b)) (cond t None (w.body (k ∷ (q ++ root))))
          → Idle (j ∷ z) (g.built.body (k ∷ q)) → Idle x (w.body (k ∷ (q ++ root)))
      by true e plain is h = subst (λ (y : Path). Idle x (w.body y)) (sym (same_path_eq (k ∷ (q ++ root)) (pin_of root) e)) (pin_idle g.pin shows.pin)
      by false e plain is h = body_idle (k ∷ (q ++ root)) (w.body (k ∷ (q ++ root))) refl plain (subst (λ (o : Option Body). Idle (j ∷ z) o) is h)

  scratch_idle : (y : Path) → is_scratch nester y ≡ true → Idle x (w.body y)
  scratch_idle [] h = idle_root
    where
      idle_root : Idle x (w.body [])
      idle_root = by (strip root []) refl
        where
          by : (o : Option Path) → strip root [] ≡ o → Idle x (w.body [])
          by (Some q) e = let at = strip_some root [] q e in absurd (omega (arith, ap length at, length-append q root))
          by None e = idle_off x (w.body []) (unled (j ∷ z) [] (rw e refl) root_scratch)
            where
              root_scratch : is_scratch nester [] ≡ false
              root_scratch = off (same_path [] nester)
                where
                  off : (t : Bool) → (t && nat_le 240 0 && nat_le 0 254) ≡ false
                  off true = refl
                  off false = refl
  scratch_idle (k ∷ y) h =
      let both = and_parts (same_path y nester && nat_le 240 k) (nat_le k 254) h in
      let first = and_parts (same_path y nester) (nat_le 240 k) both.0 in
      let at = same_path_eq y nester first.0 in
      let its : is_scratch nester (k ∷ nester) ≡ true = subst (λ (y : Path). is_scratch nester (k ∷ y) ≡ true) at h in
      subst (λ (y : Path). Idle x (w.body (k ∷ y))) (sym at) (spot_idle k (g.spot k) (shows.spots k its))

  all_idle : (y : Path) → Idle x (w.body y)
  all_idle y = by (strip root y) refl
    where
      by : (o : Option Path) → strip root y ≡ o → Idle x (w.body y)
      by (Some q) e = subst (λ (y : Path). Idle x (w.body y)) (sym (strip_some root y q e)) (inside_idle q)
      by None e = by_scratch (is_scratch nester y) refl
        where
          by_scratch : (t : Bool) → is_scratch nester y ≡ t → Idle x (w.body y)
          by_scratch true h = scratch_idle y h
          by_scratch false h = idle_off x (w.body y) (unled (j ∷ z) y (rw e refl) h)

  pub serves_nobody_here : is_serving w x ≡ false
  unfolding client_of faulter_of
  serves_nobody_here = rw (find_none _ (objects w) (λ y. (all_idle y).0), find_none _ (objects w) (λ y. (all_idle y).1)) refl

pub serves_nobody : ServesNobody
serves_nobody nester slot g w j z shows unled valid idle = serves_nobody_here nester slot g w j z shows unled valid idle
