-- A thread that is to serve serves nobody yet, since it serves one talk or one fault.
use Rattle.std.proofs.Common.{◌≡◌, ℕ, ◌≤◌, ◌<◌, Bool, true, false, cond, Option, Some, None, option_map, refl, sym, arith, ◌∙◌, List}
use Rattle.fk_model.specs.Places.{Path, Ptr, leads_to}
use Rattle.fk_model.specs.Places.Ptr.{Null, Dead, At, Out, Outside, Far}
use Rattle.fk_model.specs.Objects.{Peer, Talk, Fault, Thread, Body, and_then, holds, thread_of}
use Rattle.fk_model.specs.Objects.Peer.{Server, Service, Parked}
use Rattle.fk_model.specs.Objects.Body.{Mutex, Cond, Mapping, Region, Port, Portset, Space, Thread_of, Reference}
use Rattle.fk_model.specs.World.{World, serves}
use Rattle.fk_model.specs.Valid.{services}
use Rattle.fk_model.specs.Rebind.{rebinding, rebound_ptr, rebound_peer}
use Rattle.laws_restore.specs.Sites.Fit.{IsIdleIn}
use Rattle.laws_restore.specs.Restore.Stages.{Mask, shown_talk, shown_fault, is_among, bound, leading}

module _ (bind : ℕ → ℕ) (c : World) (z : Path) where
  abbrev pub talks : Option Body → Bool
  talks o = holds (λ (talk : Talk). serves z talk.peer) (and_then (λ (t : Thread). t.talk) (and_then thread_of o))

  abbrev pub faults : Option Body → Bool
  faults o = holds (λ (fault : Fault). holds (serves z) fault.taker) (and_then (λ (t : Thread). t.fault) (and_then thread_of o))

  -- ---- a mask shows nobody more

  same_server : (p : Ptr) → leads_to z (rebound_ptr bind p) ≡ leads_to z p
  same_server Null = refl
  same_server Dead = refl
  same_server (At x) = refl
  same_server (Out i) = refl
  same_server Outside = refl
  same_server Far = refl

  same_serves : (peer : Peer) → serves z (rebound_peer bind peer) ≡ serves z peer
  same_serves (Server thread) = same_server thread
  same_serves Service = refl
  same_serves Parked = refl

  taker_same : (o : Option Peer) → holds (serves z) (option_map (rebound_peer bind) o) ≡ holds (serves z) o
  taker_same None = refl
  taker_same (Some taker) = same_serves taker

  talk_less : (m : Ptr → Bool) (o : Option Talk) → holds (λ (talk : Talk). serves z talk.peer) (and_then (rebinding bind).talk (shown_talk m o)) ≡ true
      → holds (λ (talk : Talk). serves z talk.peer) o ≡ true
  talk_less m None h = h
  talk_less m (Some talk) h = by (m talk.port) h
    where
      by : (t : Bool) → holds (λ (talk : Talk). serves z talk.peer) (and_then (rebinding bind).talk (cond t (Some talk) None)) ≡ true
          → serves z talk.peer ≡ true
      by true h = sym (same_serves talk.peer) ∙ h
      by false h = cc

  fault_less : (m : Ptr → Bool) (o : Option Fault)
      → holds (λ (fault : Fault). holds (serves z) fault.taker) (and_then (rebinding bind).fault (shown_fault m o)) ≡ true →
      holds (λ (fault : Fault). holds (serves z) fault.taker) o ≡ true
  fault_less m None h = h
  fault_less m (Some fault) h = by (m fault.port) h
    where
      by : (t : Bool) → holds (λ (fault : Fault). holds (serves z) fault.taker) (and_then (rebinding bind).fault (cond t (Some fault) None)) ≡ true
          → holds (serves z) fault.taker ≡ true
      by true h = sym (taker_same fault.taker) ∙ h
      by false h = cc

  pub talks_less : (m : Mask) (y : Path) (b : Body) → talks (Some (bound bind m y b)) ≡ true → talks (Some b) ≡ true
  talks_less m y (Thread_of t) h = talk_less m.talk t.talk h
  talks_less m y (Mutex locked) h = cc
  talks_less m y Cond h = cc
  talks_less m y (Mapping w) h = cc
  talks_less m y (Region r) h = cc
  talks_less m y (Port set served) h = cc
  talks_less m y Portset h = cc
  talks_less m y (Space birth holder) h = cc
  talks_less m y (Reference to) h = cc

  pub faults_less : (m : Mask) (y : Path) (b : Body) → faults (Some (bound bind m y b)) ≡ true → faults (Some b) ≡ true
  faults_less m y (Thread_of t) h = fault_less m.fault t.fault h
  faults_less m y (Mutex locked) h = cc
  faults_less m y Cond h = cc
  faults_less m y (Mapping w) h = cc
  faults_less m y (Region r) h = cc
  faults_less m y (Port set served) h = cc
  faults_less m y Portset h = cc
  faults_less m y (Space birth holder) h = cc
  faults_less m y (Reference to) h = cc

  module _ (new old : Mask) (done : List Path) where
    pub led_talks : (y : Path) → talks ((leading bind c new old done).body y) ≡ true → talks (c.body y) ≡ true
    led_talks y h = by (c.body y) (is_among y done) h
      where
        by : (o : Option Body) (t : Bool) → talks (option_map (λ b. cond t (bound bind new y b) (bound bind old y b)) o) ≡ true → talks o ≡ true
        by None t h = h
        by (Some b) true h = talks_less new y b h
        by (Some b) false h = talks_less old y b h

    pub led_faults : (y : Path) → faults ((leading bind c new old done).body y) ≡ true → faults (c.body y) ≡ true
    led_faults y h = by (c.body y) (is_among y done) h
      where
        by : (o : Option Body) (t : Bool) → faults (option_map (λ b. cond t (bound bind new y b) (bound bind old y b)) o) ≡ true → faults o ≡ true
        by None t h = h
        by (Some b) true h = faults_less new y b h
        by (Some b) false h = faults_less old y b h

  -- ---- it serves one

  pub by_talk : (y : Path) → talks (c.body y) ≡ true → 0 < services c z y
  by_talk y h = rw h (omega arith)

  pub by_fault : (y : Path) → faults (c.body y) ≡ true → 0 < services c z y
  by_fault y h = rw h (omega arith)

  both : (y : Path) → talks (c.body y) ≡ true → faults (c.body y) ≡ true → services c z y ≡ 2
  both y h e = rw (h, e) refl

  -- not both of them
  pub other_fault : (y : Path) → services c z y ≤ 1 → talks (c.body y) ≡ true → faults (c.body y) ≡ false
  other_fault y few h = by (faults (c.body y)) refl
    where
      by : (t : Bool) → faults (c.body y) ≡ t → t ≡ false
      by false e = refl
      by true e = let two = both y h e in absurd (omega (arith, two, few))

  pub other_talk : (y : Path) → services c z y ≤ 1 → faults (c.body y) ≡ true → talks (c.body y) ≡ false
  other_talk y few h = by (talks (c.body y)) refl
    where
      by : (t : Bool) → talks (c.body y) ≡ t → t ≡ false
      by false e = refl
      by true e = let two = both y e h in absurd (omega (arith, two, few))

  -- in a world that shows no more than c, whoever is to be served by z alone isn't yet
  pub idle_by : (v : World) (x : Path) → ((a b : Path) → 0 < services c z a → 0 < services c z b → a ≡ b) → 0 < services c z x
      → ((y : Path) → talks (v.body y) ≡ true → talks (c.body y) ≡ true) →
      ((y : Path) → faults (v.body y) ≡ true → faults (c.body y) ≡ true) → talks (v.body x) ≡ false → faults (v.body x) ≡ false → IsIdleIn v z
  idle_by v x one here less_talks less_faults no_talk no_fault y = (talk (talks (v.body y)) refl, fault (faults (v.body y)) refl)
    where
      talk : (t : Bool) → talks (v.body y) ≡ t → t ≡ false
      talk false e = refl
      talk true e =
          let same = one y x (by_talk y (less_talks y e)) here in
          let off : talks (v.body y) ≡ false = rw same no_talk in
          let clash = sym e ∙ off in
          cc

      fault : (t : Bool) → faults (v.body y) ≡ t → t ≡ false
      fault false e = refl
      fault true e =
          let same = one y x (by_fault y (less_faults y e)) here in
          let off : faults (v.body y) ≡ false = rw same no_fault in
          let clash = sym e ∙ off in
          cc
