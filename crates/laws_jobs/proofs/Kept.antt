-- No move of another takes away a pointer to an object of a subtree that a porter holds.
use Rattle.std.proofs.Common.{◌≡◌, ℕ, Bool, true, false, cond, not, ◌&&◌, ◌||◌, is_some, List, [], ◌∷◌, ◌++◌, Option, Some, None, option_map, refl, sym, subst}
use Rattle.std.proofs.Common.{◌∙◌, ◌⊎◌, inl, inr}
use Rattle.std.specs.List.{list_any}
use Rattle.std.proofs.lemmas.Bool.{and_parts, or_cases}
use Rattle.std.proofs.lemmas.List.Folds.{list_any-append}
use Rattle.fk_model.specs.Places.{Path, same_path, strip, is_within, Ptr, leads_to}
use Rattle.fk_model.specs.Places.Ptr.{Dead, At}
use Rattle.fk_model.specs.Objects.{Peer, Talk, Fault, Body, and_then}
use Rattle.fk_model.specs.Objects.Peer.{Server, Service, Parked}
use Rattle.fk_model.specs.Objects.Body.{Mutex, Cond, Mapping, Region, Port, Portset, Space, Thread_of, Reference}
use Rattle.fk_model.specs.World.{World, Change, Edit, edited, through, death_sweep, taker_without, talk_without, fault_without, serves, following, follow}
use Rattle.fk_model.specs.World.{follow_peer, apply, apply_all}
use Rattle.fk_model.specs.World.Change.{Alter, Make, MakeSpace, Kill, Move, PutPage, DropPage}
use Rattle.fk_model.specs.World.Edit.{SetPointer, SetHolder, SetTalk, SetPeer, SetFault, SetTaker}
use Rattle.fk_model.specs.Searches.{pointers, option_list, talk_pointers, fault_pointers, peer_pointer}
use Rattle.fk_model.specs.Holds.{is_frozen_for}
use Rattle.fk_model.specs.Freezing.{body_pointers, changed_pointers, are_unfrozen, is_swept, lost_with, talk_lost, fault_lost, IsAllowed, AreAllowed}
use Rattle.fk_model.specs.Outcomes.{Outcome, listed}
use Rattle.fk_model.specs.Outcomes.Outcome.{Refused, Waits, Goes}
use Rattle.fk_model.specs.Moves.{GoesAllowed, stepped}
use Rattle.fk_model.specs.Valid.{IsConsistent}
use Rattle.fk_model.proofs.walks.PlaceLaws.{same_path_refl, same_path_eq, same_path_ne, strip_some, leads_to_at}
use Rattle.laws_moves.proofs.InMachine.safety.Safe.{IsSafe, AreSafe}
use Rattle.laws_moves.proofs.InMachine.safety.Outcomes.{SafeOutcome}
use Rattle.laws_moves.specs.Frozen.Frozen.{IsSameInside}
use Rattle.laws_moves.specs.Frozen.Users.{IsUsers, AreUsers}
use Rattle.laws_moves.specs.Frozen.Once.{is_mild, AreMild, EitherOf, TouchOnce, MakesAnew}
use Rattle.laws_moves.proofs.InFrozen.Frozen.{frozen_inside, change-same}
use Rattle.laws_jobs.specs.Leads.{LeadsIn, IsLed}
use Rattle.laws_jobs.proofs.Bones.{bones, same_pointers, same_changed, same_lost, mild_same}
use Rattle.laws_moves.proofs.InFrozen.Frozen.{place_apart}
use Rattle.laws_jobs.proofs.Unled.{unfrozen_off, not_scratch}

module _ (z : Path) where
  abbrev On : List Ptr → Type 0
  On ps = list_any (leads_to z) ps ≡ true

  abbrev Off : List Ptr → Type 0
  Off ps = list_any (leads_to z) ps ≡ false

  pub clash : (P : Type 0) (b : Bool) → b ≡ true → b ≡ false → P
  clash P b on off = let both : true ≡ false = sym on ∙ off in cc

  on_one : (p : Ptr) → leads_to z p ≡ true → On (p ∷ [])
  on_one p h = rw h refl

  one_on : (p : Ptr) → On (p ∷ []) → leads_to z p ≡ true
  one_on p h = by (leads_to z p) h
    where
      by : (t : Bool) → (t || false) ≡ true → t ≡ true
      by true h = refl
      by false h = cc

  on_left : (ps qs : List Ptr) → On ps → On (ps ++ qs)
  on_left ps qs h = list_any-append (leads_to z) ps qs ∙ (rw h refl)

  on_right : (ps qs : List Ptr) → On qs → On (ps ++ qs)
  on_right ps qs h = list_any-append (leads_to z) ps qs ∙ by (list_any (leads_to z) ps) (list_any (leads_to z) qs) h
    where
      by : (a b : Bool) → b ≡ true → (a || b) ≡ true
      by true b h = refl
      by false b h = h

  on_cases : (ps qs : List Ptr) → On (ps ++ qs) → On ps ⊎ On qs
  on_cases ps qs h = or_cases (list_any (leads_to z) ps) (list_any (leads_to z) qs) (sym (list_any-append (leads_to z) ps qs) ∙ h)

  -- both parts are mapped
  on_both : (ps qs rs ss : List Ptr) → (On ps → On rs) → (On qs → On ss) → On (ps ++ qs) → On (rs ++ ss)
  on_both ps qs rs ss f g h = by (on_cases ps qs h)
    where
      by : On ps ⊎ On qs → On (rs ++ ss)
      by (inl e) = on_left rs ss (f e)
      by (inr e) = on_right rs ss (g e)

  off_parts : (ps qs : List Ptr) → Off (ps ++ qs) → Off ps × Off qs
  off_parts ps qs h = (by_left (list_any (leads_to z) ps) refl, by_right (list_any (leads_to z) qs) refl)
    where
      by_left : (t : Bool) → list_any (leads_to z) ps ≡ t → t ≡ false
      by_left false e = refl
      by_left true e = clash (true ≡ false) (list_any (leads_to z) (ps ++ qs)) (on_left ps qs e) h

      by_right : (t : Bool) → list_any (leads_to z) qs ≡ t → t ≡ false
      by_right false e = refl
      by_right true e = clash (true ≡ false) (list_any (leads_to z) (ps ++ qs)) (on_right ps qs e) h

  -- ---- edits

  abbrev talk_list : Option Talk → List Ptr
  talk_list o = option_list talk_pointers o

  abbrev fault_list : Option Fault → List Ptr
  fault_list o = option_list fault_pointers o

  peer_kept : (peer : Peer) (o : Option Talk) → Off (option_list (λ (talk : Talk). peer_pointer talk.peer) o) → On (talk_list o) →
      On (talk_list (option_map (λ (talk : Talk). record talk { peer = peer }) o))
  peer_kept peer None off h = h
  peer_kept peer (Some talk) off h = on_both (talk.port ∷ []) (peer_pointer talk.peer) (talk.port ∷ []) (peer_pointer peer) (λ e. e)
      (λ e. clash (On (peer_pointer peer)) _ e off) h

  taker_kept : (taker : Option Peer) (o : Option Fault) → Off (option_list (λ (fault : Fault). option_list peer_pointer fault.taker) o) → On (fault_list o) →
      On (fault_list (option_map (λ (fault : Fault). record fault { taker = taker }) o))
  taker_kept taker None off h = h
  taker_kept taker (Some fault) off h =
      on_both (fault.port ∷ []) (option_list peer_pointer fault.taker) (fault.port ∷ []) (option_list peer_pointer taker) (λ e. e)
      (λ e. clash (On (option_list peer_pointer taker)) _ e off) h

  abbrev wild_kept : Edit → Body → Type 0
  wild_kept edit b = Off (changed_pointers edit b) → On (pointers b) → On (pointers (edited edit b))

  pub talk_edit : (talk : Option Talk) (b : Body) → wild_kept (SetTalk talk) b
  unfolding edited
  talk_edit talk (Thread_of t) off h =
      on_both (talk_list t.talk) (fault_list t.fault) (talk_list talk) (fault_list t.fault) (λ e. clash (On (talk_list talk)) _ e off) (λ e. e) h
  talk_edit talk (Mutex locked) off h = h
  talk_edit talk b off h = h

  pub fault_edit : (fault : Option Fault) (b : Body) → wild_kept (SetFault fault) b
  unfolding edited
  fault_edit fault (Thread_of t) off h =
      on_both (talk_list t.talk) (fault_list t.fault) (talk_list t.talk) (fault_list fault) (λ e. e) (λ e. clash (On (fault_list fault)) _ e off) h
  fault_edit fault (Mutex locked) off h = h
  fault_edit fault b off h = h

  pub peer_edit : (peer : Peer) (b : Body) → wild_kept (SetPeer peer) b
  unfolding edited
  peer_edit peer (Thread_of t) off h =
      on_both (talk_list t.talk) (fault_list t.fault) (talk_list (option_map (λ (talk : Talk). record talk { peer = peer }) t.talk)) (fault_list t.fault)
      (peer_kept peer t.talk off) (λ e. e) h
  peer_edit peer (Mutex locked) off h = h
  peer_edit peer b off h = h

  pub taker_edit : (taker : Option Peer) (b : Body) → wild_kept (SetTaker taker) b
  unfolding edited
  taker_edit taker (Thread_of t) off h =
      on_both (talk_list t.talk) (fault_list t.fault) (talk_list t.talk) (fault_list (option_map (λ (fault : Fault). record fault { taker = taker }) t.fault))
      (λ e. e) (taker_kept taker t.fault off) h
  taker_edit taker (Mutex locked) off h = h
  taker_edit taker b off h = h

  -- ---- sweeps

  module _ (x : Path) (apart : same_path z x ≡ false) where
    not_both : (P : Type 0) (p : Ptr) → leads_to z p ≡ true → leads_to x p ≡ true → P
    not_both P p h g = let at = leads_to_at z p h in
        let there : same_path z x ≡ true = subst (λ (p : Ptr). leads_to x p ≡ true) at g in clash P (same_path z x) there apart

    if_kept : (p q : Ptr) → leads_to z p ≡ true → leads_to z (cond (leads_to x p) q p) ≡ true
    if_kept p q h = by (leads_to x p) refl
      where
        by : (t : Bool) → leads_to x p ≡ t → leads_to z (cond t q p) ≡ true
        by true e = not_both (leads_to z q ≡ true) p h e
        by false e = h

    holder_kept : (p : Ptr) → leads_to z p ≡ true → On (option_list (λ p. p ∷ []) (cond (leads_to x p) None (Some p)))
    holder_kept p h = by (leads_to x p) refl
      where
        by : (t : Bool) → leads_to x p ≡ t → On (option_list (λ p. p ∷ []) (cond t None (Some p)))
        by true e = not_both (On []) p h e
        by false e = on_one p h

    ended_kept : (A : Type 0) (f : A → List Ptr) (t : Bool) (a : A) → Off (cond t (f a) []) → On (f a) → On (option_list f (cond t None (Some a)))
    ended_kept A f true a lost h = clash (On []) (list_any (leads_to z) (f a)) h lost
    ended_kept A f false a lost h = h

    taker_less : (o : Option Peer) → On (option_list peer_pointer o) → On (option_list peer_pointer (and_then (taker_without x) o))
    taker_less None h = h
    taker_less (Some (Server thread)) h = by (leads_to x thread) refl
      where
        by : (t : Bool) → leads_to x thread ≡ t → On (option_list peer_pointer (cond t None (Some (Server thread))))
        by true e = not_both (On []) thread (one_on thread h) e
        by false e = h
    taker_less (Some Service) h = cc
    taker_less (Some Parked) h = cc

    fault_kept : (fault : Fault) → Off (fault_lost x fault) → On (fault_pointers fault) → On (option_list fault_pointers (fault_without x fault))
    fault_kept fault lost h = by (leads_to x fault.port) lost
      where
        by : (t : Bool) → Off (cond t (fault_pointers fault) [])
            → On (option_list fault_pointers (cond t None (Some (record fault { taker = and_then (taker_without x) fault.taker }))))
        by true lost = clash (On []) (list_any (leads_to z) (fault_pointers fault)) h lost
        by false lost = on_both (fault.port ∷ []) (option_list peer_pointer fault.taker) (fault.port ∷ [])
            (option_list peer_pointer (and_then (taker_without x) fault.taker)) (λ e. e) (taker_less fault.taker) h

    talks_left : (o : Option Talk) → Off (option_list (talk_lost x) o) → On (talk_list o) → On (talk_list (and_then (talk_without x) o))
    talks_left None lost h = h
    talks_left (Some talk) lost h = ended_kept Talk talk_pointers (leads_to x talk.port || serves x talk.peer) talk lost h

    faults_left : (o : Option Fault) → Off (option_list (fault_lost x) o) → On (fault_list o) → On (fault_list (and_then (fault_without x) o))
    faults_left None lost h = h
    faults_left (Some fault) lost h = fault_kept fault lost h

    body_left : (at : Path) (b : Body) → Off (lost_with x (Some b)) → On (pointers b) → On (pointers (through (death_sweep x) at b))
    body_left at (Mapping m) lost h = on_one _ (if_kept m.region Dead (one_on m.region h))
    body_left at (Region r) lost h = on_one _ (if_kept r.keeper Dead (one_on r.keeper h))
    body_left at (Reference to) lost h = on_one _ (if_kept to Dead (one_on to h))
    body_left at (Space birth None) lost h = cc
    body_left at (Space birth (Some p)) lost h = holder_kept p (one_on p h)
    body_left at (Thread_of t) lost h =
        let both = off_parts (option_list (talk_lost x) t.talk) (option_list (fault_lost x) t.fault) lost in
        on_both (talk_list t.talk) (fault_list t.fault) (talk_list (and_then (talk_without x) t.talk)) (fault_list (and_then (fault_without x) t.fault))
        (talks_left t.talk both.0) (faults_left t.fault both.1) h
    body_left at (Mutex locked) lost h = cc
    body_left at Cond lost h = cc
    body_left at (Port set served) lost h = cc
    body_left at Portset lost h = cc

    pub left : (at : Path) (o : Option Body) → Off (lost_with x o) → On (body_pointers o) → On (body_pointers (option_map (through (death_sweep x) at) o))
    left at None lost h = cc
    left at (Some b) lost h = body_left at b lost h

    module _ (y : Path) where
      peer_follows : (peer : Peer) → On (peer_pointer peer) → On (peer_pointer (follow_peer x y peer))
      peer_follows (Server thread) h = on_one _ (if_kept thread (At y) (one_on thread h))
      peer_follows Service h = h
      peer_follows Parked h = h

      port_follows : (p : Ptr) → On (p ∷ []) → On (follow x y p ∷ [])
      port_follows p h = on_one _ (if_kept p (At y) (one_on p h))

      taker_follows : (o : Option Peer) → On (option_list peer_pointer o) → On (option_list peer_pointer (option_map (follow_peer x y) o))
      taker_follows None h = h
      taker_follows (Some taker) h = peer_follows taker h

      talk_follows : (o : Option Talk) → On (talk_list o) → On (talk_list (and_then (following x y).talk o))
      talk_follows None h = h
      talk_follows (Some talk) h = on_both (talk.port ∷ []) (peer_pointer talk.peer) (follow x y talk.port ∷ []) (peer_pointer (follow_peer x y talk.peer))
          (port_follows talk.port) (peer_follows talk.peer) h

      fault_follows : (o : Option Fault) → On (fault_list o) → On (fault_list (and_then (following x y).fault o))
      fault_follows None h = h
      fault_follows (Some fault) h =
          on_both (fault.port ∷ []) (option_list peer_pointer fault.taker) (follow x y fault.port ∷ [])
          (option_list peer_pointer (option_map (follow_peer x y) fault.taker))
          (port_follows fault.port) (taker_follows fault.taker) h

      body_follows : (at : Path) (b : Body) → On (pointers b) → On (pointers (through (following x y) at b))
      body_follows at (Mapping m) h = port_follows m.region h
      body_follows at (Region r) h = port_follows r.keeper h
      body_follows at (Reference to) h = port_follows to h
      body_follows at (Space birth None) h = cc
      body_follows at (Space birth (Some p)) h = port_follows p h
      body_follows at (Thread_of t) h =
          on_both (talk_list t.talk) (fault_list t.fault) (talk_list (and_then (following x y).talk t.talk))
          (fault_list (and_then (following x y).fault t.fault))
          (talk_follows t.talk) (fault_follows t.fault) h
      body_follows at (Mutex locked) h = cc
      body_follows at Cond h = cc
      body_follows at (Port set served) h = cc
      body_follows at Portset h = cc

      pub follows : (at : Path) (o : Option Body) → On (body_pointers o) → On (body_pointers (option_map (through (following x y) at) o))
      follows at None h = cc
      follows at (Some b) h = body_follows at b h

  no_left : (a b : Bool) → (a || b) ≡ false → a ≡ false
  no_left true b h = cc
  no_left false b h = refl

  off_parts_of : (x : Path) (ps qs : List Ptr) → list_any (leads_to x) (ps ++ qs) ≡ false
      → (list_any (leads_to x) ps ≡ false) × (list_any (leads_to x) qs ≡ false)
  off_parts_of x ps qs h = by (list_any (leads_to x) ps) (list_any (leads_to x) qs) (sym (list_any-append (leads_to x) ps qs) ∙ h)
    where
      by : (a b : Bool) → (a || b) ≡ false → (a ≡ false) × (b ≡ false)
      by true b h = cc
      by false b h = (refl, h)

  serves_off : (x : Path) (peer : Peer) → list_any (leads_to x) (peer_pointer peer) ≡ false → serves x peer ≡ false
  serves_off x (Server thread) h = no_left (leads_to x thread) false h
  serves_off x Service h = refl
  serves_off x Parked h = refl

  no_talk : (x : Path) (o : Option Talk) → list_any (leads_to x) (talk_list o) ≡ false → Off (option_list (talk_lost x) o)
  no_talk x None h = refl
  no_talk x (Some talk) h =
      let both = off_parts_of x (talk.port ∷ []) (peer_pointer talk.peer) h in
      rw (no_left (leads_to x talk.port) false both.0, serves_off x talk.peer both.1) refl

  no_fault : (x : Path) (o : Option Fault) → list_any (leads_to x) (fault_list o) ≡ false → Off (option_list (fault_lost x) o)
  no_fault x None h = refl
  no_fault x (Some fault) h =
      let both = off_parts_of x (fault.port ∷ []) (option_list peer_pointer fault.taker) h in
      rw (no_left (leads_to x fault.port) false both.0) refl

  -- where nothing is swept nothing is lost
  talk_unswept : (x : Path) (o : Option Talk) (p : Option Fault) → list_any (leads_to x) (talk_list o ++ fault_list p) ≡ false
      → Off (option_list (talk_lost x) o ++ option_list (fault_lost x) p)
  talk_unswept x o p h =
      let both = off_parts_of x (talk_list o) (fault_list p) h in
      list_any-append (leads_to z) (option_list (talk_lost x) o) (option_list (fault_lost x) p) ∙ rw (no_talk x o both.0, no_fault x p both.1) refl

  pub unswept_off : (x y : Path) (o : Option Body) → is_swept x y o ≡ false → Off (lost_with x o)
  unswept_off x y None h = refl
  unswept_off x y (Some (Thread_of t)) h = talk_unswept x t.talk t.fault (no_left (list_any (leads_to x) (talk_list t.talk ++ fault_list t.fault)) false h)
  unswept_off x y (Some (Mutex locked)) h = refl
  unswept_off x y (Some Cond) h = refl
  unswept_off x y (Some (Mapping m)) h = refl
  unswept_off x y (Some (Region r)) h = refl
  unswept_off x y (Some (Port set served)) h = refl
  unswept_off x y (Some Portset) h = refl
  unswept_off x y (Some (Space birth holder)) h = refl
  unswept_off x y (Some (Reference to)) h = refl

module _ (nester : Path) (slot : ℕ) (w : World) (me : Path) (valid : IsConsistent w) (frozen : is_frozen_for w me (slot ∷ nester) ≡ true) (q : Path) where
  abbrev root : Path
  root = slot ∷ nester

  abbrev z : Path
  z = q ++ root

  abbrev Led : World → Type 0
  Led v = IsLed nester slot v z

  z_frozen : is_frozen_for w me z ≡ true
  z_frozen = frozen_inside w me root q frozen

  -- whoever leads there isn't who may be destroyed, and where it stands isn't empty
  not_at : (v : World) (x y : Path) → list_any (leads_to z) (body_pointers (v.body x)) ≡ false → list_any (leads_to z) (body_pointers (v.body y)) ≡ true
      → same_path y x ≡ false
  not_at v x y off on = same_path_ne y x (λ e. let here : list_any (leads_to z) (body_pointers (v.body x))
      ≡ true = subst (λ (y : Path). list_any (leads_to z) (body_pointers (v.body y)) ≡ true) e on in clash z ⊥ _ here off)

  nothing_off : (v : World) (x : Path) → v.body x ≡ None → list_any (leads_to z) (body_pointers (v.body x)) ≡ false
  nothing_off v x e = rw e refl

  z_apart : (x : Path) → is_frozen_for w me x ≡ false → same_path z x ≡ false
  z_apart x free = same_path_ne z x (λ e. let on : is_frozen_for w me x ≡ true = subst (λ (y : Path). is_frozen_for w me y ≡ true) e z_frozen in
      clash z ⊥ _ on free)

  off_of : (ps : List Ptr) → are_unfrozen w me ps ≡ true → list_any (leads_to z) ps ≡ false
  off_of ps h = unfrozen_off z w me z_frozen ps h

  abbrev On_at : Option Body → Type 0
  On_at o = list_any (leads_to z) (body_pointers o) ≡ true

  with_leads : (v u : World) (y : Path) → LeadsIn nester slot v z y → On_at (u.body y) → IsLed nester slot u z
  with_leads v u y its on = (y, record { outside = its.outside; scratch = its.scratch; leads = on })

  module _ (v : World) (same : IsSameInside root w v) (alike : (y : Path) → bones (v.body y) ≡ bones (w.body y)) where
    abbrev MayOff : Path → Edit → Type 0
    MayOff x edit = list_any (leads_to z) (option_list (changed_pointers edit) (v.body x)) ≡ false

    altered : (x : Path) (edit : Edit) (y : Path) → MayOff x edit → On_at (v.body y)
        → ((b : Body) → list_any (leads_to z) (changed_pointers edit b) ≡ false → list_any (leads_to z) (pointers b) ≡ true
        → list_any (leads_to z) (pointers (edited edit b)) ≡ true) →
        On_at (cond (same_path y x) (option_map (edited edit) (v.body y)) (v.body y))
    altered x edit y off on kept = by (same_path y x) refl
      where
        inner : (o : Option Body) → list_any (leads_to z) (option_list (changed_pointers edit) o) ≡ false → On_at o → On_at (option_map (edited edit) o)
        inner None off on = cc
        inner (Some b) off on = kept b off on

        by : (t : Bool) → same_path y x ≡ t → On_at (cond t (option_map (edited edit) (v.body y)) (v.body y))
        by false e = on
        by true e = inner (v.body y) (subst (λ (x : Path). list_any (leads_to z) (option_list (changed_pointers edit) (v.body x)) ≡ false)
            (sym (same_path_eq y x e)) off) on

    may_off : (x : Path) (edit : Edit) → are_unfrozen w me (option_list (changed_pointers edit) (w.body x)) ≡ true → MayOff x edit
    may_off x edit h = subst (λ (ps : List Ptr). list_any (leads_to z) ps ≡ false) (sym (same_changed edit (v.body x) (w.body x) (alike x)))
        (off_of (option_list (changed_pointers edit) (w.body x)) h)

    -- what a death takes along isn't a pointer there
    lost_off : (x y : Path) → (not (is_swept x y (w.body y)) || (not (is_frozen_for w me y) && are_unfrozen w me (lost_with x (w.body y)))) ≡ true
        → list_any (leads_to z) (lost_with x (v.body y)) ≡ false
    lost_off x y may = subst (λ (ps : List Ptr). list_any (leads_to z) ps ≡ false) (sym (same_lost x (v.body y) (w.body y) (alike y)))
        (by (is_swept x y (w.body y)) refl may)
      where
        by : (t : Bool) → is_swept x y (w.body y) ≡ t → (not t || (not (is_frozen_for w me y) && are_unfrozen w me (lost_with x (w.body y)))) ≡ true
            → list_any (leads_to z) (lost_with x (w.body y)) ≡ false
        by true e may = off_of (lost_with x (w.body y)) (and_parts (not (is_frozen_for w me y)) (are_unfrozen w me (lost_with x (w.body y))) may).1
        by false e may = unswept_off z x y (w.body y) e

    change_kept : (c : Change) → is_mild c ≡ false → IsAllowed w me c → IsSafe v c → IsUsers w c → Led v → Led (apply c v)
    unfolding apply
    change_kept (Alter x (SetPointer to)) wild may safe users led =
        with_leads v (apply (Alter x (SetPointer to)) v) led.0 led.1
        (altered x (SetPointer to) led.0 (may_off x (SetPointer to) may.changed) led.1.leads (λ b off on. clash z _ _ on off))
    change_kept (Alter x (SetHolder holder)) wild may safe users led =
        with_leads v (apply (Alter x (SetHolder holder)) v) led.0 led.1
        (altered x (SetHolder holder) led.0 (may_off x (SetHolder holder) may.changed) led.1.leads (λ b off on. clash z _ _ on off))
    change_kept (Alter x (SetTalk talk)) wild may safe users led =
        with_leads v (apply (Alter x (SetTalk talk)) v) led.0 led.1
        (altered x (SetTalk talk) led.0 (may_off x (SetTalk talk) may.changed) led.1.leads (talk_edit z talk))
    change_kept (Alter x (SetPeer peer)) wild may safe users led =
        with_leads v (apply (Alter x (SetPeer peer)) v) led.0 led.1
        (altered x (SetPeer peer) led.0 (may_off x (SetPeer peer) may.changed) led.1.leads (peer_edit z peer))
    change_kept (Alter x (SetFault fault)) wild may safe users led =
        with_leads v (apply (Alter x (SetFault fault)) v) led.0 led.1
        (altered x (SetFault fault) led.0 (may_off x (SetFault fault) may.changed) led.1.leads (fault_edit z fault))
    change_kept (Alter x (SetTaker taker)) wild may safe users led =
        with_leads v (apply (Alter x (SetTaker taker)) v) led.0 led.1
        (altered x (SetTaker taker) led.0 (may_off x (SetTaker taker) may.changed) led.1.leads (taker_edit z taker))
    change_kept (Alter x edit) wild may safe users led = cc
    change_kept (Make [] body) wild may safe users led = absurd safe
    change_kept (Make (k ∷ s) body) wild may safe users led =
        with_leads v (apply (Make (k ∷ s) body) v) led.0 led.1 (rw (not_at v (k ∷ s) led.0 (nothing_off v (k ∷ s) safe.place.empty) led.1.leads) led.1.leads)
    change_kept (MakeSpace [] holder) wild may safe users led = absurd safe
    change_kept (MakeSpace (k ∷ s) holder) wild may safe users led =
        with_leads v (apply (MakeSpace (k ∷ s) holder) v) led.0 led.1
        (rw (not_at v (k ∷ s) led.0 (nothing_off v (k ∷ s) safe.place.empty) led.1.leads) led.1.leads)
    change_kept (Kill x) wild may safe users led =
        let own : list_any (leads_to z) (body_pointers (v.body x))
        ≡ false = subst (λ (ps : List Ptr). list_any (leads_to z) ps ≡ false) (sym (same_pointers (v.body x) (w.body x) (alike x)))
        (off_of (body_pointers (w.body x)) may.changed) in
        with_leads v (apply (Kill x) v) led.0 led.1
        (rw (not_at v x led.0 own led.1.leads) (left z x (z_apart x may.object) led.0 (v.body led.0) (lost_off x led.0 (may.others led.0)) led.1.leads))
    change_kept (Move [] j) wild may safe users led = absurd safe
    change_kept (Move (k ∷ s) j) wild may safe users led = by (same_path led.0 (k ∷ s)) refl
      where
        u : World
        u = apply (Move (k ∷ s) j) v

        out : is_within root (j ∷ s) ≡ false
        out = by (strip root (j ∷ s)) refl
          where
            by : (o : Option Path) → strip root (j ∷ s) ≡ o → is_some o ≡ false
            by None e = refl
            by (Some p) e =
                let far = place_apart w v me root k j s frozen (same.bodies []) safe.empty may.object p in
                let near : same_path (p ++ root) (j ∷ s)
                ≡ true = subst (λ (y : Path). same_path (p ++ root) y ≡ true) (sym (strip_some root (j ∷ s) p e)) (same_path_refl (p ++ root)) in
                clash z (true ≡ false) _ near far

        vacant : same_path led.0 (j ∷ s) ≡ false
        vacant = not_at v (j ∷ s) led.0 (nothing_off v (j ∷ s) safe.empty) led.1.leads

        by : (t : Bool) → same_path led.0 (k ∷ s) ≡ t → Led u
        by true e =
            let at = same_path_eq led.0 (k ∷ s) e in
            let on : On_at (v.body (k ∷ s)) = subst (λ (y : Path). On_at (v.body y)) at led.1.leads in (
              j ∷ s,
              record {
                outside = out;
                scratch = not_scratch nester slot w me valid frozen q (j ∷ s) users.1;
                leads = rw (same_path_refl (j ∷ s)) (follows z (k ∷ s) (z_apart (k ∷ s) may.object) (j ∷ s) (j ∷ s) (v.body (k ∷ s)) on);
              },
            )
        by false e = with_leads v u led.0 led.1 (rw (vacant, e) (follows z (k ∷ s) (z_apart (k ∷ s) may.object) (j ∷ s) led.0 (v.body led.0) led.1.leads))
    change_kept (PutPage space page words) wild may safe users led = cc
    change_kept (DropPage space page) wild may safe users led = cc

  mild_kept : (c : Change) (v : World) → is_mild c ≡ true → Led v → Led (apply c v)
  mild_kept c v mild led = with_leads v (apply c v) led.0 led.1
      (subst (λ (ps : List Ptr). list_any (leads_to z) ps ≡ true)
      (sym (same_pointers ((apply c v).body led.0) (v.body led.0) (mild_same c v mild led.0))) led.1.leads)

  milds_kept : (cs : List Change) (v : World) → AreMild cs → Led v → Led (apply_all cs v)
  unfolding apply_all
  milds_kept [] v mild led = led
  milds_kept (c ∷ cs) v mild led = milds_kept cs (apply c v) mild.1 (mild_kept c v mild.0 led)

  changes_kept : (cs : List Change) (v : World) → IsSameInside root w v → ((y : Path) → bones (v.body y) ≡ bones (w.body y)) → AreAllowed w me cs
      → AreSafe v cs → AreUsers w cs → TouchOnce w cs → Led v → Led (apply_all cs v)
  unfolding apply_all
  changes_kept [] v same alike may safe users once led = led
  changes_kept (c ∷ cs) v same alike may safe users once led =
      by (is_mild c) refl once
      (λ mild rest. changes_kept cs (apply c v) (change-same w root me valid frozen v same c may.0 safe.0) (λ y. mild_same c v mild y
      ∙ alike y) may.1 safe.1 users.1 rest (mild_kept c v mild led))
    where
      by : (t : Bool) → is_mild c ≡ t → EitherOf t (TouchOnce w cs) (MakesAnew w c × AreMild cs)
          → (is_mild c ≡ true → TouchOnce w cs → Led (apply_all cs (apply c v))) → Led (apply_all cs (apply c v))
      by true e once rest = rest e once
      by false e once rest = milds_kept cs (apply c v) once.1 (change_kept v same alike c e may.0 safe.0 users.0 led)

  pub outcome_kept : (o : Outcome) → GoesAllowed w me o → SafeOutcome w o → AreUsers w (listed o) → TouchOnce w (listed o) → Led w → Led (stepped w o).world
  outcome_kept (Goes changes said) may safe users once led =
      changes_kept changes w (record { bodies = λ q. refl; pages = λ q page. refl; kinds = λ x q led. refl }) (λ y. refl) may safe.safe users once led
  outcome_kept (Refused status) may safe users once led = absurd may
  outcome_kept Waits may safe users once led = absurd may
