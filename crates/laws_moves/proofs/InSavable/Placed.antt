-- Kept changes leave whoever serves a talk, or has taken a fault, where it may stand: a native server at a served port, and
-- who is parked at a nester's.
use Rattle.std.proofs.Common.{◌≡◌, ℕ, ◌+◌, min, Bool, true, false, if◌then◌else◌, ◌&&◌, ◌||◌, nat_le, is_none, List, [], ◌∷◌, Option, Some, None, option_map}
use Rattle.std.proofs.Common.{refl, sym, ap, ◌∙◌}
use Rattle.std.proofs.lemmas.Bool.{and_parts}
use Rattle.fk_model.specs.declared.limits.TheConstants.{LAST_USER_SLOT, LAST_PORTER_SLOT, MOST_MOVED}
use Rattle.fk_model.specs.declared.names.Kind.TheVariants as kinds
use Rattle.fk_model.specs.Places.{Path, same_path, parent, Ptr, leads_to}
use Rattle.fk_model.specs.Places.Ptr.{Null, At}
use Rattle.fk_model.specs.Objects.{Mode, Peer, Talk, Fault, Thread, Body, kind_of, port_of, thread_of, and_then, holds}
use Rattle.fk_model.specs.Objects.Mode.{Calling}
use Rattle.fk_model.specs.Objects.Peer.{Server, Service, Parked}
use Rattle.fk_model.specs.Objects.Body.{Mutex, Port, Space, Thread_of}
use Rattle.fk_model.specs.World.{World, Change, Edit, Sweep, edited, through, death_sweep, following, follow, follow_peer, talk_without, taker_without}
use Rattle.fk_model.specs.World.{fault_without, serves, apply, ended_in, finished_in}
use Rattle.fk_model.specs.World.Change.{Alter, Make, MakeSpace, Kill, Move, PutPage, DropPage}
use Rattle.fk_model.specs.World.Edit.{SetLocked, Finish, End, SetTalk, CountMoved, PassTurn, SetPeer, SetFault, SetTaker}
use Rattle.fk_model.specs.Searches.{talk_at, fault_at}
use Rattle.fk_model.specs.StateRows.{is_native}
use Rattle.fk_model.specs.Valid.{IsConsistent, kind_there, all_in, leads_there, is_one_of}
use Rattle.fk_model.specs.Whole.{is_placed}
use Rattle.fk_model.proofs.walks.PlaceLaws.{same_path_eq, same_path_refl}
use Rattle.laws_moves.proofs.InMachine.validity.Outlines.{Outline}
use Rattle.laws_moves.proofs.InMachine.validity.Edits.{outline-edited}
use Rattle.laws_moves.proofs.InMachine.safety.Safe.{is_plain, IsSafe}
use Rattle.laws_moves.proofs.InMachine.safety.Reads.{body-thread_of}
use Rattle.laws_moves.proofs.InFrozen.Edited.{same_kind}
use Rattle.laws_moves.proofs.InSavable.Sorts.{native-edited, native-through}
use Rattle.laws_moves.proofs.InSavable.Kept.{is_port, IsLastKill, IsKeptEdit, IsKept}

abbrev pub TalksPlaced : World → Type 0
TalksPlaced v = (x : Path) (talk : Talk) → talk_at v x ≡ Some talk → is_placed v talk.port talk.peer ≡ true

abbrev pub FaultsPlaced : World → Type 0
FaultsPlaced v = (x : Path) (fault : Fault) (taker : Peer) → fault_at v x ≡ Some fault → fault.taker ≡ Some taker → is_placed v fault.port taker ≡ true

-- ---- tests of bodies that changes leave

-- a served port
abbrev is_served_body : Body → Bool
is_served_body b = holds (λ (port : Option ℕ × Bool). port.1) (port_of b)

-- what a port and a peer need: that a served port, or a porter, stands at a place
abbrev Needs : (Path → Option Body) → Ptr → Peer → Type 0
Needs there port (Server thread) = Unit {0}
Needs there (At x) Service = holds is_served_body (there x) ≡ true
Needs there (At x) Parked = holds is_native (there (LAST_PORTER_SLOT ∷ parent x)) ≡ true
Needs there other Service = ⊥
Needs there other Parked = ⊥

served-holds : (o : Option Body) → holds (λ (port : Option ℕ × Bool). port.1) (and_then port_of o) ≡ holds is_served_body o
served-holds None = refl
served-holds (Some b) = refl

needs-placed : (v : World) (port : Ptr) (peer : Peer) → Needs (λ x. v.body x) port peer → is_placed v port peer ≡ true
needs-placed v port (Server thread) needs = refl
needs-placed v (At x) Service needs = served-holds (v.body x) ∙ needs
needs-placed v (At x) Parked needs = needs
needs-placed v other Service needs = absurd needs
needs-placed v other Parked needs = absurd needs

placed-needs : (v : World) (port : Ptr) (peer : Peer) → is_placed v port peer ≡ true → Needs (λ x. v.body x) port peer
placed-needs v port (Server thread) placed = tt
placed-needs v (At x) Service placed = sym (served-holds (v.body x)) ∙ placed
placed-needs v (At x) Parked placed = placed
placed-needs v other Service placed = cc
placed-needs v other Parked placed = cc

-- what stands for it in one world stands for it in the other
needs-more : (f g : Path → Option Body) → ((x : Path) → holds is_served_body (f x) ≡ true → holds is_served_body (g x) ≡ true) →
    ((x : Path) → holds is_native (f x) ≡ true → holds is_native (g x) ≡ true) → (port : Ptr) (peer : Peer) → Needs f port peer → Needs g port peer
needs-more f g served native port (Server thread) needs = tt
needs-more f g served native (At x) Service needs = served x needs
needs-more f g served native (At x) Parked needs = native (LAST_PORTER_SLOT ∷ parent x) needs
needs-more f g served native other Service needs = absurd needs
needs-more f g served native other Parked needs = absurd needs

-- where an object is destroyed or renamed this suffices besides
served-through : (f : Sweep) (q : Path) (b : Body) → is_served_body (through f q b) ≡ is_served_body b
served-through f q (Port set served) = refl
served-through f q (Mutex locked) = refl
served-through f q b = refl

served-swept : (f : Sweep) (q : Path) (o : Option Body) → holds is_served_body o ≡ true → holds is_served_body (option_map (through f q) o) ≡ true
served-swept f q (Some b) h = served-through f q b ∙ h
served-swept f q None h = cc

native-swept : (f : Sweep) (q : Path) (o : Option Body) → holds is_native o ≡ true → holds is_native (option_map (through f q) o) ≡ true
native-swept f q (Some b) h = native-through f q b ∙ h
native-swept f q None h = cc

-- ---- talks and faults of bodies

abbrev talk_of : Option Body → Option Talk
talk_of o = and_then (λ (t : Thread). t.talk) (and_then thread_of o)

abbrev fault_of : Option Body → Option Fault
fault_of o = and_then (λ (t : Thread). t.fault) (and_then thread_of o)

kind-thread : (b : Body) → kind_of b ≡ kinds.Thread → (t : Thread) × (b ≡ Thread_of t)
kind-thread (Thread_of t) h = (t, refl)
kind-thread (Mutex locked) h = cc
kind-thread b h = cc

-- an edited object that has a thread's parts was a thread
thread-before : (edit : Edit) (b : Body) (u : Thread) → and_then thread_of (Some (edited edit b)) ≡ Some u → (t : Thread) × (b ≡ Thread_of t)
thread-before edit b u h = kind-thread b (sym (same_kind edit b) ∙ ap kind_of (body-thread_of (edited edit b) u h))

has-thread : (o : Option Thread) (talk : Talk) → and_then (λ (t : Thread). t.talk) o ≡ Some talk → (u : Thread) × (o ≡ Some u)
has-thread (Some u) talk h = (u, refl)
has-thread None talk h = cc

faults-thread : (o : Option Thread) (fault : Fault) → and_then (λ (t : Thread). t.fault) o ≡ Some fault → (u : Thread) × (o ≡ Some u)
faults-thread (Some u) fault h = (u, refl)
faults-thread None fault h = cc

talk-ended : (status : ℕ) (answers : List ℕ) (t : Thread) (m : Mode) → (ended_in status answers t m).talk ≡ t.talk
talk-ended status answers t (Calling todo rest) = refl
talk-ended status answers t m = refl

talk-finished : (answers : List ℕ) (t : Thread) (m : Mode) → (finished_in answers t m).talk ≡ t.talk
talk-finished answers t (Calling (stage ∷ next ∷ todo) rest) = refl
talk-finished answers t (Calling (stage ∷ []) rest) = refl
talk-finished answers t (Calling [] rest) = refl
talk-finished answers t m = refl

fault-ended : (status : ℕ) (answers : List ℕ) (t : Thread) (m : Mode) → (ended_in status answers t m).fault ≡ t.fault
fault-ended status answers t (Calling todo rest) = refl
fault-ended status answers t m = refl

fault-finished : (answers : List ℕ) (t : Thread) (m : Mode) → (finished_in answers t m).fault ≡ t.fault
fault-finished answers t (Calling (stage ∷ next ∷ todo) rest) = refl
fault-finished answers t (Calling (stage ∷ []) rest) = refl
fault-finished answers t (Calling [] rest) = refl
fault-finished answers t m = refl

placed-as : (w : World) (port to : Ptr) (peer by : Peer) → port ≡ to → peer ≡ by → is_placed w to by ≡ true → is_placed w port peer ≡ true
placed-as w port to peer by e f h = rw (e, f) h

or-first : (a b : Bool) → (a || b) ≡ false → a ≡ false
or-first true b h = cc
or-first false b h = refl

module _ (v : World) (talks : TalksPlaced v) (faults : FaultsPlaced v) where
  -- what becomes of the talk that there is
  changed-talk : (x : Path) (t : Thread) → v.body x ≡ Some (Thread_of t) → (f : Talk → Talk) →
      ((talk : Talk) → talk_at v x ≡ Some talk → is_placed v (f talk).port (f talk).peer ≡ true) →
      (new : Talk) → option_map f t.talk ≡ Some new → is_placed v new.port new.peer ≡ true
  changed-talk x t there f placed new h = by t.talk refl h
    where
      by : (o : Option Talk) → t.talk ≡ o → option_map f o ≡ Some new → is_placed v new.port new.peer ≡ true
      by None e h = cc
      by (Some talk) e h = let same : f talk ≡ new = cc in rw (← same) (placed talk (rw there e))

  talk-edited : (x : Path) (edit : Edit) (t : Thread) → v.body x ≡ Some (Thread_of t) → IsKeptEdit v x edit → (new : Talk) →
      talk_of (Some (edited edit (Thread_of t))) ≡ Some new → is_placed v new.port new.peer ≡ true
  unfolding edited
  talk-edited x (SetTalk None) t there kept new h = cc
  talk-edited x (SetTalk (Some talk)) t there kept new h = let same : talk ≡ new = cc in rw (← same) kept.0
  talk-edited x (SetPeer peer) t there kept new h = changed-talk x t there (λ talk. record talk { peer = peer }) kept new h
  talk-edited x (CountMoved count) t there kept new h =
      changed-talk x t there (λ talk. record talk { moved = min MOST_MOVED (talk.moved + count) }) (λ talk at. talks x talk at) new h
  talk-edited x (PassTurn turn) t there kept new h =
      changed-talk x t there (λ talk. record talk { turn = turn; moved = 0 }) (λ talk at. talks x talk at) new h
  talk-edited x (Finish answers) t there kept new h = talks x new (rw there (sym (talk-finished answers t t.mode) ∙ h))
  talk-edited x (End status answers) t there kept new h = talks x new (rw there (sym (talk-ended status answers t t.mode) ∙ h))
  talk-edited x (SetLocked locked) t there kept new h = talks x new (rw there h)
  talk-edited x edit t there kept new h = talks x new (rw there h)

  changed-taker : (x : Path) (t : Thread) → v.body x ≡ Some (Thread_of t) → (to : Option Peer) → IsKeptEdit v x (SetTaker to) → (new : Fault) (taker : Peer) →
      option_map (λ (fault : Fault). record fault { taker = to }) t.fault ≡ Some new → new.taker ≡ Some taker → is_placed v new.port taker ≡ true
  changed-taker x t there to kept new taker h is = by t.fault to refl kept h
    where
      by : (o : Option Fault) (to : Option Peer) → t.fault ≡ o → IsKeptEdit v x (SetTaker to) →
          option_map (λ (fault : Fault). record fault { taker = to }) o ≡ Some new → is_placed v new.port taker ≡ true
      by None to e kept h = cc
      by (Some fault) None e kept h = let same : record fault { taker = None } ≡ new = cc in let none : None ≡ Some taker = rw (← same) at is in cc
      by (Some fault) (Some by_whom) e kept h =
          let same : record fault { taker = Some by_whom } ≡ new = cc in
          let whom : Some by_whom ≡ Some taker = rw (← same) at is in
          let who : by_whom ≡ taker = cc in
          rw (← same, ← who) (kept fault (rw there e))

  fault-edited : (x : Path) (edit : Edit) (t : Thread) → v.body x ≡ Some (Thread_of t) → IsKeptEdit v x edit → (new : Fault) (taker : Peer) →
      fault_of (Some (edited edit (Thread_of t))) ≡ Some new → new.taker ≡ Some taker → is_placed v new.port taker ≡ true
  unfolding edited
  fault-edited x (SetFault None) t there kept new taker h is = cc
  fault-edited x (SetFault (Some fault)) t there kept new taker h is =
      let same : fault ≡ new = cc in
      let whom : fault.taker ≡ Some taker = rw same is in
      rw (← same) (placed fault.taker whom kept.0)
    where
      placed : (o : Option Peer) → o ≡ Some taker → all_in (is_placed v fault.port) o ≡ true → is_placed v fault.port taker ≡ true
      placed o e h = rw e at h
  fault-edited x (SetTaker to) t there kept new taker h is = changed-taker x t there to kept new taker h is
  fault-edited x (Finish answers) t there kept new taker h is = faults x new taker (rw there (sym (fault-finished answers t t.mode) ∙ h)) is
  fault-edited x (End status answers) t there kept new taker h is = faults x new taker (rw there (sym (fault-ended status answers t t.mode) ∙ h)) is
  fault-edited x (SetLocked locked) t there kept new taker h is = faults x new taker (rw there h) is
  fault-edited x edit t there kept new taker h is = faults x new taker (rw there h) is

  -- ---- an object is altered

  some-thread : (o : Option Body) (f : Body → Body) (u : Thread) → and_then thread_of (option_map f o) ≡ Some u → (b : Body) × (o ≡ Some b)
  some-thread (Some b) f u h = (b, refl)
  some-thread None f u h = cc

  served-edited : (edit : Edit) (o : Option Body) → holds is_served_body o ≡ true → holds is_served_body (option_map (edited edit) o) ≡ true
  served-edited edit (Some b) h = ap (λ (o : Outline). o.served) (outline-edited edit b) ∙ h
  served-edited edit None h = cc

  module _ (x : Path) (edit : Edit) (kept : IsKeptEdit v x edit) where
    abbrev altered_at : Path → Option Body
    altered_at q = if same_path q x then option_map (edited edit) (v.body q) else v.body q

    altered-needs : (port : Ptr) (peer : Peer) → is_placed v port peer ≡ true → Needs altered_at port peer
    altered-needs port peer placed = needs-more (λ q. v.body q) altered_at served native port peer (placed-needs v port peer placed)
      where
        served : (q : Path) → holds is_served_body (v.body q) ≡ true → holds is_served_body (altered_at q) ≡ true
        served q h = by (same_path q x)
          where
            by : (t : Bool) → holds is_served_body (if t then option_map (edited edit) (v.body q) else v.body q) ≡ true
            by true = served-edited edit (v.body q) h
            by false = h

        native : (q : Path) → holds is_native (v.body q) ≡ true → holds is_native (altered_at q) ≡ true
        native q h = by (same_path q x) refl
          where
            on : (o : Option Body) → v.body q ≡ o → same_path q x ≡ true → holds is_native o ≡ true → holds is_native (option_map (edited edit) o) ≡ true
            on (Some b) e here h = let same = same_path_eq q x here in native-edited v q edit b e (rw (← same) at kept) ∙ h
            on None e here h = cc

            by : (t : Bool) → same_path q x ≡ t → holds is_native (if t then option_map (edited edit) (v.body q) else v.body q) ≡ true
            by true e = on (v.body q) refl e h
            by false e = h

    altered-talk : (q : Path) (talk : Talk) → talk_of (altered_at q) ≡ Some talk → is_placed v talk.port talk.peer ≡ true
    altered-talk q talk h = by (same_path q x) refl h
      where
        on : (o : Option Body) → v.body q ≡ o → same_path q x ≡ true → talk_of (option_map (edited edit) o) ≡ Some talk → is_placed v talk.port talk.peer ≡ true
        on None e here h = cc
        on (Some b) e here h =
            let same = same_path_eq q x here in
            let has = has-thread (and_then thread_of (Some (edited edit b))) talk h in
            let was = thread-before edit b has.0 has.1 in
            talk-edited q edit was.0 (e ∙ ap (λ b. Some b) was.1) (rw (← same) at kept) talk (rw was.1 at h)

        by : (t : Bool) → same_path q x ≡ t → talk_of (if t then option_map (edited edit) (v.body q) else v.body q) ≡ Some talk →
            is_placed v talk.port talk.peer ≡ true
        by true e h = on (v.body q) refl e h
        by false e h = talks q talk h

    altered-fault : (q : Path) (fault : Fault) (taker : Peer) → fault_of (altered_at q) ≡ Some fault → fault.taker ≡ Some taker →
        is_placed v fault.port taker ≡ true
    altered-fault q fault taker h is = by (same_path q x) refl h
      where
        on : (o : Option Body) → v.body q ≡ o → same_path q x ≡ true → fault_of (option_map (edited edit) o) ≡ Some fault → is_placed v fault.port taker ≡ true
        on None e here h = cc
        on (Some b) e here h =
            let same = same_path_eq q x here in
            let has = faults-thread (and_then thread_of (Some (edited edit b))) fault h in
            let was = thread-before edit b has.0 has.1 in
            fault-edited q edit was.0 (e ∙ ap (λ b. Some b) was.1) (rw (← same) at kept) fault taker (rw was.1 at h) is

        by : (t : Bool) → same_path q x ≡ t → fault_of (if t then option_map (edited edit) (v.body q) else v.body q) ≡ Some fault →
            is_placed v fault.port taker ≡ true
        by true e h = on (v.body q) refl e h
        by false e h = faults q fault taker h is

  -- ---- a world

  pub altered-talks : (x : Path) (edit : Edit) → IsKeptEdit v x edit → TalksPlaced (apply (Alter x edit) v)
  unfolding apply
  altered-talks x edit kept q talk h =
      needs-placed (apply (Alter x edit) v) talk.port talk.peer (altered-needs x edit kept talk.port talk.peer (altered-talk x edit kept q talk h))

  pub altered-faults : (x : Path) (edit : Edit) → IsKeptEdit v x edit → FaultsPlaced (apply (Alter x edit) v)
  unfolding apply
  altered-faults x edit kept q fault taker h is =
      needs-placed (apply (Alter x edit) v) fault.port taker (altered-needs x edit kept fault.port taker (altered-fault x edit kept q fault taker h is))

  -- ---- an object is made

  module _ (x : Path) (new : Body) (empty : v.body x ≡ None) (plain : talk_of (Some new) ≡ None) (faultless : fault_of (Some new) ≡ None) where
    abbrev made_at : Path → Option Body
    made_at q = if same_path q x then Some new else v.body q

    made-more : (test : Body → Bool) (q : Path) → holds test (v.body q) ≡ true → holds test (made_at q) ≡ true
    made-more test q h = by (same_path q x) refl
      where
        by : (t : Bool) → same_path q x ≡ t → holds test (if t then Some new else v.body q) ≡ true
        by true e = let here = same_path_eq q x e in let never : holds test None ≡ true = rw (here, empty) at h in cc
        by false e = h

    made-needs : (port : Ptr) (peer : Peer) → is_placed v port peer ≡ true → Needs made_at port peer
    made-needs port peer placed =
        needs-more (λ q. v.body q) made_at (made-more is_served_body) (made-more is_native) port peer (placed-needs v port peer placed)

    made-talk : (q : Path) (talk : Talk) → talk_of (made_at q) ≡ Some talk → is_placed v talk.port talk.peer ≡ true
    made-talk q talk h = by (same_path q x) h
      where
        by : (t : Bool) → talk_of (if t then Some new else v.body q) ≡ Some talk → is_placed v talk.port talk.peer ≡ true
        by true h = cc
        by false h = talks q talk h

    made-fault : (q : Path) (fault : Fault) (taker : Peer) → fault_of (made_at q) ≡ Some fault → fault.taker ≡ Some taker → is_placed v fault.port taker ≡ true
    made-fault q fault taker h is = by (same_path q x) h
      where
        by : (t : Bool) → fault_of (if t then Some new else v.body q) ≡ Some fault → is_placed v fault.port taker ≡ true
        by true h = cc
        by false h = faults q fault taker h is

  -- ---- an object is destroyed

  gone-talk : (x q : Path) (o : Option Body) (talk : Talk) → talk_of (option_map (through (death_sweep x) q) o) ≡ Some talk →
      (talk_of o ≡ Some talk) × (leads_to x talk.port ≡ false)
  gone-talk x q (Some (Thread_of t)) talk h = by t.talk h
    where
      test : (old : Talk) (b : Bool) → (leads_to x old.port || serves x old.peer) ≡ b → (if b then None else Some old) ≡ Some talk →
          (Some old ≡ Some talk) × (leads_to x talk.port ≡ false)
      test old true e h = cc
      test old false e h = let same : old ≡ talk = cc in (h, rw (← same) (or-first (leads_to x old.port) (serves x old.peer) e))

      by : (o : Option Talk) → and_then (talk_without x) o ≡ Some talk → (o ≡ Some talk) × (leads_to x talk.port ≡ false)
      by None h = cc
      by (Some old) h = test old _ refl h
  gone-talk x q None talk h = cc
  gone-talk x q (Some (Mutex locked)) talk h = cc
  gone-talk x q (Some b) talk h = cc

  -- the fault that stays was there, with the same taker or with one that was destroyed
  record WasFault (x : Path) (o : Option Body) (fault : Fault) (taker : Peer) : Type 0 where
    old : Fault
    was : fault_of o ≡ Some old
    port : old.port ≡ fault.port
    taken : old.taker ≡ Some taker
    apart : leads_to x fault.port ≡ false

  gone-fault : (x q : Path) (o : Option Body) (fault : Fault) (taker : Peer) → fault_of (option_map (through (death_sweep x) q) o) ≡ Some fault →
      fault.taker ≡ Some taker → WasFault x o fault taker
  gone-fault x q (Some (Thread_of t)) fault taker h is = by t.fault refl h
    where
      still : (o : Option Peer) → and_then (taker_without x) o ≡ Some taker → o ≡ Some taker
      still None h = cc
      still (Some peer) h = test (serves x peer) h
        where
          test : (b : Bool) → (if b then None else Some peer) ≡ Some taker → Some peer ≡ Some taker
          test true h = cc
          test false h = h

      test : (old : Fault) → t.fault ≡ Some old → (b : Bool) → leads_to x old.port ≡ b →
          (if b then None else Some (record old { taker = and_then (taker_without x) old.taker })) ≡ Some fault → WasFault x (Some (Thread_of t)) fault taker
      test old there true e h = cc
      test old there false e h =
          let same : record old { taker = and_then (taker_without x) old.taker } ≡ fault = cc in
          record {
            old = old;
            was = there;
            port = ap (λ (f : Fault). f.port) same;
            taken = still old.taker (ap (λ (f : Fault). f.taker) same ∙ is);
            apart = rw (← ap (λ (f : Fault). f.port) same) e;
          }

      by : (o : Option Fault) → t.fault ≡ o → and_then (fault_without x) o ≡ Some fault → WasFault x (Some (Thread_of t)) fault taker
      by None e h = cc
      by (Some old) e h = test old e _ refl h
  gone-fault x q None fault taker h is = cc
  gone-fault x q (Some (Mutex locked)) fault taker h is = cc
  gone-fault x q (Some b) fault taker h is = cc

  -- a port that is there
  abbrev IsPortThere : Ptr → Type 0
  IsPortThere (At p) = is_port (v.body p) ≡ true
  IsPortThere other = Unit {0}

  leads-port : (port : Ptr) → leads_there (kind_there v) (kinds.Port ∷ []) port ≡ true → IsPortThere port
  unfolding kind_there
  leads-port (At p) h = by (v.body p) h
    where
      by : (o : Option Body) → is_one_of (kinds.Port ∷ []) (option_map kind_of o) ≡ true → is_port o ≡ true
      by None h = cc
      by (Some (Port set served)) h = refl
      by (Some (Mutex locked)) h = cc
      by (Some b) h = cc
  leads-port port h = tt

  module _ (valid : IsConsistent v) (x : Path) (last : IsLastKill v x) where
    abbrev killed_one : Path → Option Body
    killed_one q = if same_path q x then None else option_map (through (death_sweep x) q) (v.body q)

    killed-served : (q : Path) → same_path q x ≡ false → holds is_served_body (v.body q) ≡ true → holds is_served_body (killed_one q) ≡ true
    killed-served q apart h = rw apart (served-swept (death_sweep x) q (v.body q) h)

    -- the porter of a port that is left is left
    killed-native : (p : Path) → is_port (v.body p) ≡ true → holds is_native (v.body (LAST_PORTER_SLOT ∷ parent p)) ≡ true →
        holds is_native (killed_one (LAST_PORTER_SLOT ∷ parent p)) ≡ true
    unfolding kind_there
    killed-native p port h = by p (same_path (LAST_PORTER_SLOT ∷ parent p) x) refl port h
      where
        by : (p : Path) (t : Bool) → same_path (LAST_PORTER_SLOT ∷ parent p) x ≡ t → is_port (v.body p) ≡ true →
            holds is_native (v.body (LAST_PORTER_SLOT ∷ parent p)) ≡ true →
            holds is_native (if t then None else option_map (through (death_sweep x) (LAST_PORTER_SLOT ∷ parent p))
            (v.body (LAST_PORTER_SLOT ∷ parent p))) ≡ true
        by p false e port h = native-swept (death_sweep x) (LAST_PORTER_SLOT ∷ parent p) (v.body (LAST_PORTER_SLOT ∷ parent p)) h
        by [] true e port h = absurd (rootless (v.body []) (v.body (LAST_PORTER_SLOT ∷ [])) refl refl port h)
          where
            rootless : (o u : Option Body) → v.body [] ≡ o → v.body (LAST_PORTER_SLOT ∷ []) ≡ u → is_port o ≡ true → holds is_native u ≡ true → ⊥
            rootless (Some (Port set served)) (Some b) e f port h =
                let space : option_map kind_of (v.body []) ≡ Some kinds.Space = valid.parents LAST_PORTER_SLOT [] (rw f refl) in
                let never : option_map kind_of (Some (Port set served)) ≡ Some kinds.Space = rw e at space in
                cc
            rootless None u e f port h = cc
            rootless o None e f port h = cc
            rootless (Some b) u e f port h = cc
        by (k ∷ z) true e port h =
            let here = same_path_eq (LAST_PORTER_SLOT ∷ z) x e in
            let none = (last (rw here at h)).0 k in
            let gone : is_port (v.body (k ∷ z)) ≡ false = rw (← here) at none in
            cc

    killed-needs : (port : Ptr) (peer : Peer) → IsPortThere port → leads_to x port ≡ false → is_placed v port peer ≡ true → Needs killed_one port peer
    killed-needs port (Server thread) there apart placed = tt
    killed-needs (At p) Service there apart placed = killed-served p apart (placed-needs v (At p) Service placed)
    killed-needs (At p) Parked there apart placed = killed-native p there placed
    killed-needs Null Service there apart placed = cc
    killed-needs Null Parked there apart placed = cc
    killed-needs port Service there apart placed = cc
    killed-needs port Parked there apart placed = cc

    good-talk : (q : Path) (talk : Talk) → talk_at v q ≡ Some talk → IsPortThere talk.port
    good-talk q talk h = by (v.body q) refl h
      where
        by : (o : Option Body) → v.body q ≡ o → talk_of o ≡ Some talk → IsPortThere talk.port
        by (Some (Thread_of t)) e h =
            let good = valid.good q in
            let both = and_parts _ _ (rw (e, h) at good) in
            leads-port talk.port (and_parts _ _ both.0).0
        by None e h = cc
        by (Some (Mutex locked)) e h = cc
        by (Some b) e h = cc

    good-fault : (q : Path) (fault : Fault) → fault_at v q ≡ Some fault → IsPortThere fault.port
    good-fault q fault h = by (v.body q) refl h
      where
        by : (o : Option Body) → v.body q ≡ o → fault_of o ≡ Some fault → IsPortThere fault.port
        by (Some (Thread_of t)) e h =
            let good = valid.good q in
            let both = and_parts _ _ (rw (e, h) at good) in
            leads-port fault.port (and_parts _ _ both.1).0
        by None e h = cc
        by (Some (Mutex locked)) e h = cc
        by (Some b) e h = cc

    pub killed-talks : TalksPlaced (apply (Kill x) v)
    unfolding apply
    killed-talks q talk h = by (same_path q x) h
      where
        by : (t : Bool) → talk_of (if t then None else option_map (through (death_sweep x) q) (v.body q)) ≡ Some talk →
            is_placed (apply (Kill x) v) talk.port talk.peer ≡ true
        by true h = cc
        by false h =
            let was = gone-talk x q (v.body q) talk h in
            needs-placed (apply (Kill x) v) talk.port talk.peer
            (killed-needs talk.port talk.peer (good-talk q talk was.0) was.1 (talks q talk was.0))

    pub killed-faults : FaultsPlaced (apply (Kill x) v)
    unfolding apply
    killed-faults q fault taker h is = by (same_path q x) h
      where
        by : (t : Bool) → fault_of (if t then None else option_map (through (death_sweep x) q) (v.body q)) ≡ Some fault →
            is_placed (apply (Kill x) v) fault.port taker ≡ true
        by true h = cc
        by false h =
            let was = gone-fault x q (v.body q) fault taker h is in
            let there = good-fault q was.old was.was in
            let placed = faults q was.old taker was.was was.taken in
            needs-placed (apply (Kill x) v) fault.port taker
            (killed-needs fault.port taker (rw was.port at there) was.apart (rw was.port at placed))

  -- ---- an object is renamed

  record WasTalk (x y : Path) (o : Option Body) (talk : Talk) : Type 0 where
    old : Talk
    was : talk_of o ≡ Some old
    port : talk.port ≡ follow x y old.port
    peer : talk.peer ≡ follow_peer x y old.peer

  moved-talk : (x y q : Path) (o : Option Body) (talk : Talk) → talk_of (option_map (through (following x y) q) o) ≡ Some talk → WasTalk x y o talk
  moved-talk x y q (Some (Thread_of t)) talk h = by t.talk refl h
    where
      by : (o : Option Talk) → t.talk ≡ o →
          and_then (λ (old : Talk). Some (record old { port = follow x y old.port; peer = follow_peer x y old.peer })) o ≡ Some talk →
          WasTalk x y (Some (Thread_of t)) talk
      by None e h = cc
      by (Some old) e h =
          let same : record old { port = follow x y old.port; peer = follow_peer x y old.peer } ≡ talk = cc in
          record { old = old; was = e; port = sym (ap (λ (t : Talk). t.port) same); peer = sym (ap (λ (t : Talk). t.peer) same) }
  moved-talk x y q None talk h = cc
  moved-talk x y q (Some (Mutex locked)) talk h = cc
  moved-talk x y q (Some b) talk h = cc

  record MovedFault (x y : Path) (o : Option Body) (fault : Fault) (taker : Peer) : Type 0 where
    old : Fault
    whom : Peer
    was : fault_of o ≡ Some old
    taken : old.taker ≡ Some whom
    port : fault.port ≡ follow x y old.port
    peer : taker ≡ follow_peer x y whom

  moved-fault : (x y q : Path) (o : Option Body) (fault : Fault) (taker : Peer) → fault_of (option_map (through (following x y) q) o) ≡ Some fault →
      fault.taker ≡ Some taker → MovedFault x y o fault taker
  moved-fault x y q (Some (Thread_of t)) fault taker h is = by t.fault refl h
    where
      whom_of : (o : Option Peer) → option_map (follow_peer x y) o ≡ Some taker → (whom : Peer) × (o ≡ Some whom) × (taker ≡ follow_peer x y whom)
      whom_of None h = cc
      whom_of (Some peer) h = (peer, refl, (let e : follow_peer x y peer ≡ taker = cc in sym e))

      by : (o : Option Fault) → t.fault ≡ o →
          and_then (λ (old : Fault). Some (record old { port = follow x y old.port; taker = option_map (follow_peer x y) old.taker })) o ≡ Some fault →
          MovedFault x y (Some (Thread_of t)) fault taker
      by None e h = cc
      by (Some old) e h =
          let same : record old { port = follow x y old.port; taker = option_map (follow_peer x y) old.taker } ≡ fault = cc in
          let whom = whom_of old.taker (ap (λ (f : Fault). f.taker) same ∙ is) in
          record { old = old; whom = whom.0; was = e; taken = whom.1; port = sym (ap (λ (f : Fault). f.port) same); peer = whom.2 }
  moved-fault x y q None fault taker h is = cc
  moved-fault x y q (Some (Mutex locked)) fault taker h is = cc
  moved-fault x y q (Some b) fault taker h is = cc

  module _ (i : ℕ) (s : Path) (j : ℕ) (low : nat_le i LAST_USER_SLOT ≡ true) (there : nat_le j LAST_USER_SLOT ≡ true) (empty : v.body (j ∷ s) ≡ None) where
    abbrev moved_at : Path → Option Body
    moved_at q = if same_path q (j ∷ s) then option_map (through (following (i ∷ s) (j ∷ s)) (j ∷ s)) (v.body (i ∷ s))
        else (if same_path q (i ∷ s) then None else option_map (through (following (i ∷ s) (j ∷ s)) q) (v.body q))

    -- porters stand in no slot of a user's
    low-apart : (k : ℕ) (z : Path) → nat_le k LAST_USER_SLOT ≡ true → same_path (LAST_PORTER_SLOT ∷ z) (k ∷ s) ≡ false
    low-apart k z users = by (same_path (LAST_PORTER_SLOT ∷ z) (k ∷ s)) refl
      where
        by : (t : Bool) → same_path (LAST_PORTER_SLOT ∷ z) (k ∷ s) ≡ t → t ≡ false
        by true e =
            let here = same_path_eq (LAST_PORTER_SLOT ∷ z) (k ∷ s) e in
            let slot : k ≡ LAST_PORTER_SLOT = cc in
            let high : nat_le LAST_PORTER_SLOT LAST_USER_SLOT ≡ true = rw slot at users in
            cc
        by false e = refl

    moved-native : (z : Path) → holds is_native (v.body (LAST_PORTER_SLOT ∷ z)) ≡ true → holds is_native (moved_at (LAST_PORTER_SLOT ∷ z)) ≡ true
    moved-native z h = rw (low-apart j z there, low-apart i z low)
        (native-swept (following (i ∷ s) (j ∷ s)) (LAST_PORTER_SLOT ∷ z) (v.body (LAST_PORTER_SLOT ∷ z)) h)

    moved-served : (p : Path) → holds is_served_body (v.body p) ≡ true → same_path p (i ∷ s) ≡ false → holds is_served_body (moved_at p) ≡ true
    moved-served p h apart = by (same_path p (j ∷ s)) refl
      where
        by : (t : Bool) → same_path p (j ∷ s) ≡ t → holds is_served_body
            (if t then option_map (through (following (i ∷ s) (j ∷ s)) (j ∷ s)) (v.body (i ∷ s))
            else (if same_path p (i ∷ s) then None else option_map (through (following (i ∷ s) (j ∷ s)) p) (v.body p))) ≡ true
        by true e = let here = same_path_eq p (j ∷ s) e in let never : holds is_served_body None ≡ true = rw (here, empty) at h in cc
        by false e = rw apart (served-swept (following (i ∷ s) (j ∷ s)) p (v.body p) h)

    moved-itself : holds is_served_body (v.body (i ∷ s)) ≡ true → holds is_served_body (moved_at (j ∷ s)) ≡ true
    moved-itself h = rw (same_path_refl (j ∷ s)) (served-swept (following (i ∷ s) (j ∷ s)) (j ∷ s) (v.body (i ∷ s)) h)

    moved-needs : (port : Ptr) (peer : Peer) → is_placed v port peer ≡ true →
        Needs moved_at (follow (i ∷ s) (j ∷ s) port) (follow_peer (i ∷ s) (j ∷ s) peer)
    moved-needs port (Server thread) placed = tt
    moved-needs (At p) Service placed = by (same_path p (i ∷ s)) refl (placed-needs v (At p) Service placed)
      where
        by : (t : Bool) → same_path p (i ∷ s) ≡ t → holds is_served_body (v.body p) ≡ true → Needs moved_at (if t then At (j ∷ s) else At p) Service
        by true e h = let here = same_path_eq p (i ∷ s) e in moved-itself (rw here at h)
        by false e h = moved-served p h e
    moved-needs (At p) Parked placed = by (same_path p (i ∷ s)) refl placed
      where
        by : (t : Bool) → same_path p (i ∷ s) ≡ t → holds is_native (v.body (LAST_PORTER_SLOT ∷ parent p)) ≡ true →
            Needs moved_at (if t then At (j ∷ s) else At p) Parked
        by true e h = let here = ap parent (same_path_eq p (i ∷ s) e) in moved-native s (rw here at h)
        by false e h = moved-native (parent p) h
    moved-needs Null Service placed = cc
    moved-needs Null Parked placed = cc
    moved-needs port Service placed = cc
    moved-needs port Parked placed = cc

    pub moved-talks : TalksPlaced (apply (Move (i ∷ s) j) v)
    unfolding apply
    moved-talks q talk h = by (same_path q (j ∷ s)) (same_path q (i ∷ s)) h
      where
        placed : (p z : Path) → talk_of (option_map (through (following (i ∷ s) (j ∷ s)) z) (v.body p)) ≡ Some talk →
            is_placed (apply (Move (i ∷ s) j) v) talk.port talk.peer ≡ true
        placed p z h =
            let was = moved-talk (i ∷ s) (j ∷ s) z (v.body p) talk h in
            placed-as (apply (Move (i ∷ s) j) v) talk.port (follow (i ∷ s) (j ∷ s) was.old.port) talk.peer (follow_peer (i ∷ s) (j ∷ s) was.old.peer)
            was.port was.peer (needs-placed (apply (Move (i ∷ s) j) v) (follow (i ∷ s) (j ∷ s) was.old.port)
            (follow_peer (i ∷ s) (j ∷ s) was.old.peer) (moved-needs was.old.port was.old.peer (talks p was.old was.was)))

        by : (t r : Bool) → talk_of (if t then option_map (through (following (i ∷ s) (j ∷ s)) (j ∷ s)) (v.body (i ∷ s))
            else (if r then None else option_map (through (following (i ∷ s) (j ∷ s)) q) (v.body q))) ≡ Some talk →
            is_placed (apply (Move (i ∷ s) j) v) talk.port talk.peer ≡ true
        by true r h = placed (i ∷ s) (j ∷ s) h
        by false true h = cc
        by false false h = placed q q h

    pub moved-faults : FaultsPlaced (apply (Move (i ∷ s) j) v)
    unfolding apply
    moved-faults q fault taker h is = by (same_path q (j ∷ s)) (same_path q (i ∷ s)) h
      where
        placed : (p z : Path) → fault_of (option_map (through (following (i ∷ s) (j ∷ s)) z) (v.body p)) ≡ Some fault →
            is_placed (apply (Move (i ∷ s) j) v) fault.port taker ≡ true
        placed p z h =
            let was = moved-fault (i ∷ s) (j ∷ s) z (v.body p) fault taker h is in
            placed-as (apply (Move (i ∷ s) j) v) fault.port (follow (i ∷ s) (j ∷ s) was.old.port) taker (follow_peer (i ∷ s) (j ∷ s) was.whom)
            was.port was.peer (needs-placed (apply (Move (i ∷ s) j) v) (follow (i ∷ s) (j ∷ s) was.old.port)
            (follow_peer (i ∷ s) (j ∷ s) was.whom) (moved-needs was.old.port was.whom (faults p was.old was.whom was.was was.taken)))

        by : (t r : Bool) → fault_of (if t then option_map (through (following (i ∷ s) (j ∷ s)) (j ∷ s)) (v.body (i ∷ s))
            else (if r then None else option_map (through (following (i ∷ s) (j ∷ s)) q) (v.body q))) ≡ Some fault →
            is_placed (apply (Move (i ∷ s) j) v) fault.port taker ≡ true
        by true r h = placed (i ∷ s) (j ∷ s) h
        by false true h = cc
        by false false h = placed q q h

  -- ---- every change

  plain-talk : (b : Body) → is_plain b ≡ true → talk_of (Some b) ≡ None
  plain-talk (Thread_of t) plain = by t.talk t.fault plain
    where
      by : (o : Option Talk) (f : Option Fault) → (is_none o && is_none f) ≡ true → o ≡ None
      by None f h = refl
      by (Some talk) f h = cc
  plain-talk (Mutex locked) plain = refl
  plain-talk b plain = refl

  plain-fault : (b : Body) → is_plain b ≡ true → fault_of (Some b) ≡ None
  plain-fault (Thread_of t) plain = by t.talk t.fault plain
    where
      by : (o : Option Talk) (f : Option Fault) → (is_none o && is_none f) ≡ true → f ≡ None
      by o None h = refl
      by None (Some fault) h = cc
      by (Some talk) (Some fault) h = cc
  plain-fault (Mutex locked) plain = refl
  plain-fault b plain = refl

  pub talks-apply : IsConsistent v → (c : Change) → IsSafe v c → IsKept v c → TalksPlaced (apply c v)
  unfolding apply
  talks-apply valid (Alter x edit) safe kept = altered-talks x edit kept
  talks-apply valid (Make [] body) safe kept = absurd safe
  talks-apply valid (Make (k ∷ s) body) safe kept = λ q talk h.
      let empty = safe.place.empty in
      let plain = plain-talk body safe.plain in
      let faultless = plain-fault body safe.plain in
      needs-placed (apply (Make (k ∷ s) body) v) talk.port talk.peer
      (made-needs (k ∷ s) body empty plain faultless talk.port talk.peer (made-talk (k ∷ s) body empty plain faultless q talk h))
  talks-apply valid (MakeSpace [] holder) safe kept = absurd safe
  talks-apply valid (MakeSpace (k ∷ s) holder) safe kept = λ q talk h.
      let empty = safe.place.empty in
      needs-placed (apply (MakeSpace (k ∷ s) holder) v) talk.port talk.peer
      (made-needs (k ∷ s) (Space v.next holder) empty refl refl talk.port talk.peer (made-talk (k ∷ s) (Space v.next holder) empty refl refl q talk h))
  talks-apply valid (Kill x) safe kept = killed-talks valid x kept
  talks-apply valid (Move [] j) safe kept = absurd safe
  talks-apply valid (Move (i ∷ s) j) safe kept = moved-talks i s j kept.0 kept.1 safe.empty
  talks-apply valid (PutPage space page words) safe kept = talks
  talks-apply valid (DropPage space page) safe kept = talks

  pub faults-apply : IsConsistent v → (c : Change) → IsSafe v c → IsKept v c → FaultsPlaced (apply c v)
  unfolding apply
  faults-apply valid (Alter x edit) safe kept = altered-faults x edit kept
  faults-apply valid (Make [] body) safe kept = absurd safe
  faults-apply valid (Make (k ∷ s) body) safe kept = λ q fault taker h is.
      let empty = safe.place.empty in
      let plain = plain-talk body safe.plain in
      let faultless = plain-fault body safe.plain in
      needs-placed (apply (Make (k ∷ s) body) v) fault.port taker
      (made-needs (k ∷ s) body empty plain faultless fault.port taker (made-fault (k ∷ s) body empty plain faultless q fault taker h is))
  faults-apply valid (MakeSpace [] holder) safe kept = absurd safe
  faults-apply valid (MakeSpace (k ∷ s) holder) safe kept = λ q fault taker h is.
      let empty = safe.place.empty in
      needs-placed (apply (MakeSpace (k ∷ s) holder) v) fault.port taker
      (made-needs (k ∷ s) (Space v.next holder) empty refl refl fault.port taker (made-fault (k ∷ s) (Space v.next holder) empty refl refl q fault taker h is))
  faults-apply valid (Kill x) safe kept = killed-faults valid x kept
  faults-apply valid (Move [] j) safe kept = absurd safe
  faults-apply valid (Move (i ∷ s) j) safe kept = moved-faults i s j kept.0 kept.1 safe.empty
  faults-apply valid (PutPage space page words) safe kept = faults
  faults-apply valid (DropPage space page) safe kept = faults
