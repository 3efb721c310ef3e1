-- Others keep what a restorer stands at.
use Rattle.std.proofs.Common.{◌≡◌, ℕ, Bool, true, false, cond, IfSome, List, [], ◌∷◌, ◌++◌, Option, Some, None, option_map, refl, sym, ◌∙◌, ◌⊎◌, inl, inr}
use Rattle.std.specs.List.{list_any}
use Rattle.std.proofs.lemmas.Bool.{or_cases}
use Rattle.fk_model.specs.declared.limits.TheConstants.{FIRST_SCRATCH_SLOT}
use Rattle.fk_model.specs.declared.names.Kind.TheVariants as kinds
use Rattle.fk_model.specs.Places.{Path, same_path, Ptr, leads_to}
use Rattle.fk_model.specs.Places.Ptr.{Null, Dead, At, Out, Outside, Far}
use Rattle.fk_model.specs.Objects.{Peer, Talk, Fault, Body, kind_of, and_then}
use Rattle.fk_model.specs.Objects.Peer.{Server, Service, Parked}
use Rattle.fk_model.specs.Objects.Body.{Mutex, Cond, Mapping, Region, Port, Portset, Space, Thread_of, Reference}
use Rattle.fk_model.specs.World.{World}
use Rattle.fk_model.specs.Runs.{Event, after}
use Rattle.fk_model.specs.Searches.{pointers, option_list, talk_pointers, fault_pointers, peer_pointer}
use Rattle.fk_model.specs.Freezing.{body_pointers}
use Rattle.fk_model.specs.Readers.{kind_at}
use Rattle.fk_model.specs.Valid.{kind_there}
use Rattle.fk_model.specs.Cut.{is_out}
use Rattle.fk_model.proofs.walks.Members.{IsIn, in_left, in_right, any_in}
use Rattle.fk_model.proofs.walks.PlaceLaws.{same_path_eq, same_path_refl}
use Rattle.laws_subtrees.specs.Cut.Likeness.{PtrLikeness, HasLikeness, IfServer, AllInTalk, AllInFault, IsPlainBody, IsLikeness}
use Rattle.laws_subtrees.specs.Cut.Likeness.PtrLikeness.{Nulls, Deads, Inside, PortAt, PortOut}
use Rattle.laws_moves.specs.Frozen.Frozen.{IsSameInside}
use Rattle.laws_moves.specs.Frozen.Holding.{IsNear, only_reference, IsHolding, IsUsersMove}
use Rattle.laws_moves.proofs.InFrozen.Holding.{others_keep_hold}
use Rattle.laws_restore.specs.Sites.Orders.{Spot, Pin, Site, pin_of, lifted, eye, bare, PinShows, IsKeptBy, SpotShows, Shows}
use Rattle.laws_restore.specs.Sites.Orders.Spot.{To, Unsure}
use Rattle.laws_restore.specs.Sites.Orders.Pin.{NoPin, Loose, Fast}

-- ---- what holds of each pointer of a body that counts

module _ (see : Ptr → Ptr) (P Q : Ptr → Type 0) where
  abbrev More : List Ptr → Type 0
  More ps = (p : Ptr) → IsIn p ps → P p → Q p

  among_peer : (out : Bool) (peer : Peer) → More (peer_pointer peer) → IfServer out peer P → IfServer out peer Q
  among_peer true peer more h = tt
  among_peer false (Server thread) more h = more thread (inl refl) h
  among_peer false Service more h = tt
  among_peer false Parked more h = tt

  among_talk : (o : Option Talk) → More (option_list talk_pointers o) → IfSome o (AllInTalk see P) → IfSome o (AllInTalk see Q)
  among_talk None more h = tt
  among_talk (Some talk) more h = (more talk.port (inl refl) h.0, among_peer (is_out (see talk.port)) talk.peer (λ p is. more p (inr is)) h.1)

  among_taker : (out : Bool) (o : Option Peer) → More (option_list peer_pointer o) → IfSome o (λ taker. IfServer out taker P)
      → IfSome o (λ taker. IfServer out taker Q)
  among_taker out None more h = tt
  among_taker out (Some taker) more h = among_peer out taker more h

  among_fault : (o : Option Fault) → More (option_list fault_pointers o) → IfSome o (AllInFault see P) → IfSome o (AllInFault see Q)
  among_fault None more h = tt
  among_fault (Some fault) more h = (more fault.port (inl refl) h.0, among_taker (is_out (see fault.port)) fault.taker (λ p is. more p (inr is)) h.1)

  pub among_body : (b : Body) → More (pointers b) → IsPlainBody see P b → IsPlainBody see Q b
  among_body (Mapping m) more h = more m.region (inl refl) h
  among_body (Region r) more h = more r.keeper (inl refl) h
  among_body (Space birth (Some holder)) more h = more holder (inl refl) h
  among_body (Space birth None) more h = tt
  among_body (Port set served) more h = h
  among_body (Thread_of t) more h = (
    among_talk t.talk (λ p is. more p (in_left p (option_list talk_pointers t.talk) (option_list fault_pointers t.fault) is)) h.0,
    among_fault t.fault (λ p is. more p (in_right p (option_list talk_pointers t.talk) (option_list fault_pointers t.fault) is)) h.1,
    h.2,
  )
  among_body (Reference to) more h = more to (inl refl) h
  among_body (Mutex locked) more h = tt
  among_body Cond more h = tt
  among_body Portset more h = tt

-- ---- a likeness stays while what lies inside stays

pub as_kind : (o : Option Body) → and_then (λ b. Some (kind_of b)) o ≡ option_map kind_of o
as_kind None = refl
as_kind (Some b) = refl

module _ (root : Path) (see : Ptr → Ptr) (small w v : World) (same : IsSameInside root w v) where
  kind_kept : (x q : Path) → list_any (leads_to x) (body_pointers (w.body (q ++ root))) ≡ true →
      kind_at (bare root w) (At x) ≡ Some kinds.Port → kind_at (bare root v) (At x) ≡ Some kinds.Port
  unfolding kind_there
  kind_kept x q led port = by (same_path x (pin_of root)) port
    where
      by : (t : Bool) → and_then (λ b. Some (kind_of b)) (cond t None (w.body x)) ≡ Some kinds.Port
          → and_then (λ b. Some (kind_of b)) (cond t None (v.body x)) ≡ Some kinds.Port
      by true h = cc
      by false h = as_kind (v.body x) ∙ same.kinds x q led ∙ sym (as_kind (w.body x)) ∙ h

  ptr_kept : (q : Path) (b : Body) → w.body (q ++ root) ≡ Some b → (p seen : Ptr) → IsIn p (pointers b) → PtrLikeness root (bare root w) p seen
      → PtrLikeness root (bare root v) p seen
  ptr_kept q b there _ _ is Nulls = Nulls
  ptr_kept q b there _ _ is Deads = Deads
  ptr_kept q b there _ _ is (Inside x) = Inside x
  ptr_kept q b there _ _ is (PortAt x i apart port) =
      let led : list_any (leads_to x) (body_pointers (w.body (q ++ root))) ≡ true = rw there (any_in (leads_to x) (At x) (pointers b) is (same_path_refl x)) in
      PortAt x i apart (kind_kept x q led port)
  ptr_kept q b there _ _ is (PortOut old i) = PortOut old i

  plain_kept : (k : ℕ) (q : Path) (t : Bool) (o : Option Body) → w.body (k ∷ (q ++ root)) ≡ o
      → IfSome (cond t None o) (IsPlainBody see (HasLikeness root see (bare root w))) →
      IfSome (cond t None o) (IsPlainBody see (HasLikeness root see (bare root v)))
  plain_kept k q true o there h = tt
  plain_kept k q false None there h = tt
  plain_kept k q false (Some b) there h = among_body see (HasLikeness root see (bare root w)) (HasLikeness root see (bare root v)) b
      (λ p is. ptr_kept (k ∷ q) b there p (see p) is) h

  pub same-like : IsLikeness root see small (bare root w) → IsLikeness root see small (bare root v)
  unfolding kind_there
  same-like like = record {
    bodies = λ q. rw (same.bodies q) (like.bodies q);
    pages = λ q page. rw (same.pages q page) (like.pages q page);
    unborn = like.unborn;
    top = rw (same.bodies []) like.top;
    plain = λ k q. rw (same.bodies (k ∷ q)) (plain_kept k q (same_path (k ∷ (q ++ root)) (pin_of root)) (w.body (k ∷ (q ++ root))) refl (like.plain k q));
    within = like.within;
    null = like.null;
    dead = like.dead;
  }

-- ---- what scratch leads to is near

led_one : (x : Path) (p : Ptr) → list_any (leads_to x) (p ∷ []) ≡ true → leads_to x p ≡ true
led_one x p h = by (or_cases (leads_to x p) false h)
  where
    by : (leads_to x p ≡ true) ⊎ (false ≡ true) → leads_to x p ≡ true
    by (inl e) = e
    by (inr e) = cc

pub one_led : (x : Path) (p : Ptr) → leads_to x p ≡ true → list_any (leads_to x) (p ∷ []) ≡ true
one_led x p h = rw h refl

module _ (nester : Path) (slot : ℕ) where
  abbrev root : Path
  root = slot ∷ nester

  only_there : (w : World) (pin : Pin) (k : ℕ) (o : Option Spot) → SpotShows nester slot w pin k o → only_reference (w.body (k ∷ nester)) ≡ true
  only_there w pin k None h = rw h refl
  only_there w pin k (Some (To p)) h = rw h.0 refl
  only_there w pin k (Some Unsure) h = rw h.1 refl

  by_pin : (w : World) (x : Path) (to : Ptr) → w.body (pin_of root) ≡ Some (Reference to) → leads_to x to ≡ true → IsNear w root x
  by_pin w x to there led = let on : list_any (leads_to x) (body_pointers (w.body (pin_of root))) ≡ true = rw there (one_led x to led) in
      inr (FIRST_SCRATCH_SLOT ∷ [], on)

  near_to : (w : World) (pin : Pin) (x : Path) (p : Ptr) → PinShows nester slot w pin → IsKeptBy pin p → leads_to x (lifted nester slot p) ≡ true
      → IsNear w root x
  near_to w pin x (At q) shown kept led = inl (q, sym (same_path_eq (q ++ root) x led))
  near_to w (Fast i) x (Out j) shown kept led = let same : i ≡ j = cc in by_pin w x (At (j ∷ nester)) (rw (← same) shown.0) led
  near_to w NoPin x (Out j) shown kept led = cc
  near_to w Loose x (Out j) shown kept led = cc
  near_to w pin x Null shown kept led = cc
  near_to w pin x Dead shown kept led = cc
  near_to w pin x Outside shown kept led = absurd kept
  near_to w pin x Far shown kept led = absurd kept

  near_there : (w : World) (pin : Pin) (k : ℕ) (x : Path) (o : Option Spot) → PinShows nester slot w pin → SpotShows nester slot w pin k o →
      list_any (leads_to x) (body_pointers (w.body (k ∷ nester))) ≡ true → IsNear w root x
  near_there w pin k x None shown h led = let off : list_any (leads_to x) (body_pointers (w.body (k ∷ nester))) ≡ false = rw h refl in
      let both = sym led ∙ off in cc
  near_there w pin k x (Some (To p)) shown h led = let there = rw h.0 at led in near_to w pin x p shown h.1 (led_one x (lifted nester slot p) there)
  near_there w pin k x (Some Unsure) shown h led = let there = rw h.1 at led in by_pin w x h.0 h.2 (led_one x h.0 there)

  pub holding : (g : Site) (w : World) → Shows nester slot g w → IsHolding nester slot w
  holding g w shows = record {
    low = shows.low;
    holder = shows.holder;
    above = shows.above;
    porter = shows.porter;
    scratch = λ k is. only_there w g.pin k (g.spot k) (shows.spots k is);
    near = λ k x is led. near_there w g.pin k x (g.spot k) shows.pin (shows.spots k is) led;
  }

  -- ---- others

  same_pin : (w v : World) (pin : Pin) → IsSameInside root w v → PinShows nester slot w pin → PinShows nester slot v pin
  same_pin w v NoPin same shown = same.bodies (FIRST_SCRATCH_SLOT ∷ []) ∙ shown
  same_pin w v Loose same shown = (shown.0, same.bodies (FIRST_SCRATCH_SLOT ∷ []) ∙ shown.1)
  same_pin w v (Fast i) same shown =
      let led : list_any (leads_to (i ∷ nester)) (body_pointers (w.body (pin_of root)))
      ≡ true = rw shown.0 (one_led (i ∷ nester) (At (i ∷ nester)) (same_path_refl (i ∷ nester))) in
      (same.bodies (FIRST_SCRATCH_SLOT ∷ []) ∙ shown.0, same.kinds (i ∷ nester) (FIRST_SCRATCH_SLOT ∷ []) led ∙ shown.1)

  same_spot : (w v : World) (pin : Pin) (k : ℕ) (o : Option Spot) → IsSameInside root w v → v.body (k ∷ nester) ≡ w.body (k ∷ nester)
      → SpotShows nester slot w pin k o → SpotShows nester slot v pin k o
  same_spot w v pin k None same is h = is ∙ h
  same_spot w v pin k (Some (To p)) same is h = (is ∙ h.0, h.1)
  same_spot w v pin k (Some Unsure) same is h = (h.0, is ∙ h.1, same.bodies (FIRST_SCRATCH_SLOT ∷ []) ∙ h.2)

  pub others : (g : Site) (w : World) (e : Event) → Shows nester slot g w → IsUsersMove nester w e → Shows nester slot g (after w e)
  others g w e shows moves =
      let kept = others_keep_hold nester slot w e (holding g w shows) moves in
      record {
        low = shows.low;
        holder = kept.holding.holder;
        above = kept.holding.above;
        porter = kept.holding.porter;
        like = same-like root (eye nester slot) g.built w (after w e) kept.inside shows.like;
        pin = same_pin w (after w e) g.pin kept.inside shows.pin;
        spots = λ k is. same_spot w (after w e) g.pin k (g.spot k) kept.inside (kept.around.scratch k is) (shows.spots k is);
      }
