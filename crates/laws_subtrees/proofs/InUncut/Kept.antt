-- What such changes leave of a world that is nobody's cut.
use Rattle.std.proofs.Common.{◌≡◌, ℕ, Bool, true, false, if◌then◌else◌, List, [], ◌∷◌, Option, Some, None, option_map, refl, ap, ◌∙◌, ◌||◌}
use Rattle.std.specs.List.{list_any}
use Rattle.fk_model.specs.Places.{Path, same_path, parent, Ptr, leads_to}
use Rattle.fk_model.specs.Places.Ptr.{At, Dead}
use Rattle.fk_model.specs.Objects.{Peer, Talk, Fault, Thread, Body, Mode, and_then}
use Rattle.fk_model.specs.Objects.Peer.{Server, Service, Parked}
use Rattle.fk_model.specs.Objects.Mode.{Running, Calling, Halted, Native}
use Rattle.fk_model.specs.Objects.Body.{Mutex, Cond, Mapping, Region, Port, Portset, Space, Thread_of, Reference}
use Rattle.fk_model.specs.World.{World, Change, Edit, Sweep, edited, through, death_sweep, following, taker_without, follow, follow_peer, serves, apply}
use Rattle.fk_model.specs.World.{apply_all, ended_in, finished_in}
use Rattle.fk_model.specs.World.Change.{Alter, Make, MakeSpace, Kill, Move, PutPage, DropPage}
use Rattle.fk_model.specs.World.Edit.{SetLocked, SetWindow, SetExtent, SetMember, SetPointer, SetHolder, Proceed, Shift, Finish, End, Replace, SetStops}
use Rattle.fk_model.specs.World.Edit.{SetTalk, CountMoved, PassTurn, SetPeer, SetFault, SetTaker}
use Rattle.fk_model.specs.Searches.{peer_pointer, option_list, talk_pointers, fault_pointers, pointers}
use Rattle.fk_model.specs.Outcomes.{Outcome}
use Rattle.fk_model.specs.Outcomes.Outcome.{Refused, Waits, Goes}
use Rattle.fk_model.specs.Moves.{stepped, outcome, step}
use Rattle.fk_model.specs.Sound.{is_cut_pointer, IsUncut}
use Rattle.laws_subtrees.specs.Uncut.Uncut.{MovesKeepUncut}
use Rattle.laws_subtrees.proofs.InUncut.Outcomes.{IsOurs, AreOurs, IsOursEdit, SetsOurs, SetOurs, IsOursRow, OursOutcome}
use Rattle.laws_subtrees.proofs.InUncut.Found.{first-ours, rest-ours, both-ours, left-ours, right-ours, one-ours}
use Rattle.laws_subtrees.proofs.InUncut.Moves.{outcome-ours}

abbrev OursBody : Body → Type 0
OursBody b = AreOurs (pointers b)

-- ---- edits

talk-ours : (t : Thread) → OursBody (Thread_of t) → AreOurs (option_list talk_pointers t.talk)
talk-ours t ours = left-ours (option_list talk_pointers t.talk) (option_list fault_pointers t.fault) ours

fault-ours : (t : Thread) → OursBody (Thread_of t) → AreOurs (option_list fault_pointers t.fault)
fault-ours t ours = right-ours (option_list talk_pointers t.talk) (option_list fault_pointers t.fault) ours

ended-ours : (status : ℕ) (answers : List ℕ) (t : Thread) (m : Mode) → OursBody (Thread_of t) → OursBody (Thread_of (ended_in status answers t m))
ended-ours status answers t (Calling todo rest) ours = ours
ended-ours status answers t (Running g) ours = ours
ended-ours status answers t (Halted g code) ours = ours
ended-ours status answers t (Native g) ours = ours

finished-ours : (answers : List ℕ) (t : Thread) (m : Mode) → OursBody (Thread_of t) → OursBody (Thread_of (finished_in answers t m))
finished-ours answers t (Calling (stage ∷ next ∷ todo) rest) ours = ours
finished-ours answers t (Calling (stage ∷ []) rest) ours = ours
finished-ours answers t (Calling [] rest) ours = ours
finished-ours answers t (Running g) ours = ours
finished-ours answers t (Halted g code) ours = ours
finished-ours answers t (Native g) ours = ours

counted-ours : (n : Talk → Talk) → ((talk : Talk) → talk_pointers (n talk) ≡ talk_pointers talk) → (o : Option Talk) → AreOurs (option_list talk_pointers o)
    → AreOurs (option_list talk_pointers (option_map n o))
counted-ours n same None ours = ours
counted-ours n same (Some talk) ours = ap (λ (ps : List Ptr). list_any is_cut_pointer ps) (same talk) ∙ ours

peered-ours : (peer : Peer) → AreOurs (peer_pointer peer) → (o : Option Talk) → AreOurs (option_list talk_pointers o) →
    AreOurs (option_list talk_pointers (option_map (λ (talk : Talk). record talk { peer = peer }) o))
peered-ours peer new None ours = ours
peered-ours peer new (Some talk) ours = both-ours (talk.port ∷ []) (peer_pointer peer)
    (one-ours talk.port (first-ours talk.port (peer_pointer talk.peer) ours)) new

taken-ours : (taker : Option Peer) → AreOurs (option_list peer_pointer taker) → (o : Option Fault) → AreOurs (option_list fault_pointers o) →
    AreOurs (option_list fault_pointers (option_map (λ (fault : Fault). record fault { taker = taker }) o))
taken-ours taker new None ours = ours
taken-ours taker new (Some fault) ours =
    both-ours (fault.port ∷ []) (option_list peer_pointer taker) (one-ours fault.port (first-ours fault.port (option_list peer_pointer fault.taker) ours)) new

thread-ours : (edit : Edit) (t : Thread) → IsOursEdit edit → OursBody (Thread_of t) → OursBody (edited edit (Thread_of t))
unfolding edited
thread-ours (Proceed mode counter) t new ours = ours
thread-ours (Shift count) t new ours = ours
thread-ours (Finish answers) t new ours = finished-ours answers t t.mode ours
thread-ours (End status answers) t new ours = ended-ours status answers t t.mode ours
thread-ours (Replace stage) t new ours = ours
thread-ours (SetStops stops) t new ours = ours
thread-ours (SetTalk talk) t new ours = both-ours (option_list talk_pointers talk) (option_list fault_pointers t.fault) new (fault-ours t ours)
thread-ours (CountMoved count) t new ours = both-ours (option_list talk_pointers _) (option_list fault_pointers t.fault)
    (counted-ours _ (λ talk. refl) t.talk (talk-ours t ours)) (fault-ours t ours)
thread-ours (PassTurn turn) t new ours = both-ours (option_list talk_pointers _) (option_list fault_pointers t.fault)
    (counted-ours _ (λ talk. refl) t.talk (talk-ours t ours)) (fault-ours t ours)
thread-ours (SetPeer peer) t new ours = both-ours (option_list talk_pointers _) (option_list fault_pointers t.fault)
    (peered-ours peer new t.talk (talk-ours t ours)) (fault-ours t ours)
thread-ours (SetFault fault) t new ours = both-ours (option_list talk_pointers t.talk) (option_list fault_pointers fault) (talk-ours t ours) new
thread-ours (SetTaker taker) t new ours = both-ours (option_list talk_pointers t.talk) (option_list fault_pointers _) (talk-ours t ours)
    (taken-ours taker new t.fault (fault-ours t ours))
thread-ours (SetLocked locked) t new ours = ours
thread-ours (SetWindow first count offset write) t new ours = ours
thread-ours (SetExtent first count write) t new ours = ours
thread-ours (SetMember set) t new ours = ours
thread-ours (SetPointer to) t new ours = ours
thread-ours (SetHolder holder) t new ours = ours

mapping-ours : (edit : Edit) (m : _) → IsOursEdit edit → OursBody (Mapping m) → OursBody (edited edit (Mapping m))
unfolding edited
mapping-ours (SetPointer to) m new ours = one-ours to new
mapping-ours (SetWindow first count offset write) m new ours = ours
mapping-ours edit m new ours = ours

region-ours : (edit : Edit) (r : _) → IsOursEdit edit → OursBody (Region r) → OursBody (edited edit (Region r))
unfolding edited
region-ours (SetPointer to) r new ours = one-ours to new
region-ours (SetExtent first count write) r new ours = ours
region-ours edit r new ours = ours

reference-edited : (edit : Edit) (to : Ptr) → IsOursEdit edit → OursBody (Reference to) → OursBody (edited edit (Reference to))
unfolding edited
reference-edited (SetPointer new_to) to new ours = one-ours new_to new
reference-edited edit to new ours = ours

space-ours : (edit : Edit) (birth : ℕ) (holder : Option Ptr) → IsOursEdit edit → OursBody (Space birth holder) → OursBody (edited edit (Space birth holder))
unfolding edited
space-ours (SetHolder new_holder) birth holder new ours = new
space-ours edit birth holder new ours = ours

mutex-ours : (edit : Edit) (locked : Bool) → OursBody (edited edit (Mutex locked))
unfolding edited
mutex-ours (SetLocked other) locked = refl
mutex-ours edit locked = refl

port-ours : (edit : Edit) (set : Option ℕ) (served : Bool) → OursBody (edited edit (Port set served))
unfolding edited
port-ours (SetMember other) set served = refl
port-ours edit set served = refl

cond-ours : (edit : Edit) → OursBody (edited edit Cond)
unfolding edited
cond-ours (SetLocked locked) = refl
cond-ours edit = refl

portset-ours : (edit : Edit) → OursBody (edited edit Portset)
unfolding edited
portset-ours (SetLocked locked) = refl
portset-ours edit = refl

edited-ours : (edit : Edit) (b : Body) → IsOursEdit edit → OursBody b → OursBody (edited edit b)
edited-ours edit (Thread_of t) new ours = thread-ours edit t new ours
edited-ours edit (Mapping m) new ours = mapping-ours edit m new ours
edited-ours edit (Region r) new ours = region-ours edit r new ours
edited-ours edit (Reference to) new ours = reference-edited edit to new ours
edited-ours edit (Space birth holder) new ours = space-ours edit birth holder new ours
edited-ours edit (Mutex locked) new ours = mutex-ours edit locked
edited-ours edit (Port set served) new ours = port-ours edit set served
edited-ours edit Cond new ours = cond-ours edit
edited-ours edit Portset new ours = portset-ours edit

-- ---- sweeps: what is destroyed is led to no more, and what is renamed is led to where it stands

record IsOursSweep (f : Sweep) : Type 0 where
  pointer : (p : Ptr) → IsOurs p → IsOurs (f.pointer p)
  holder : (p : Ptr) → IsOurs p → AreOurs (option_list (λ p. p ∷ []) (f.holder p))
  talk : (talk : Talk) → AreOurs (talk_pointers talk) → AreOurs (option_list talk_pointers (f.talk talk))
  fault : (fault : Fault) → AreOurs (fault_pointers fault) → AreOurs (option_list fault_pointers (f.fault fault))

through-ours : (f : Sweep) → IsOursSweep f → (at : Path) (b : Body) → OursBody b → OursBody (through f at b)
through-ours f its at (Mapping m) ours = one-ours _ (its.pointer m.region (first-ours m.region [] ours))
through-ours f its at (Region r) ours = one-ours _ (its.pointer r.keeper (first-ours r.keeper [] ours))
through-ours f its at (Reference to) ours = one-ours _ (its.pointer to (first-ours to [] ours))
through-ours f its at (Space birth None) ours = refl
through-ours f its at (Space birth (Some p)) ours = its.holder p (first-ours p [] ours)
through-ours f its at (Thread_of t) ours =
    both-ours (option_list talk_pointers (and_then f.talk t.talk)) (option_list fault_pointers (and_then f.fault t.fault))
    (talks t.talk (talk-ours t ours)) (faults t.fault (fault-ours t ours))
  where
    talks : (o : Option Talk) → AreOurs (option_list talk_pointers o) → AreOurs (option_list talk_pointers (and_then f.talk o))
    talks None h = refl
    talks (Some talk) h = its.talk talk h

    faults : (o : Option Fault) → AreOurs (option_list fault_pointers o) → AreOurs (option_list fault_pointers (and_then f.fault o))
    faults None h = refl
    faults (Some fault) h = its.fault fault h
through-ours f its at (Mutex locked) ours = refl
through-ours f its at Cond ours = refl
through-ours f its at (Port set served) ours = refl
through-ours f its at Portset ours = refl

death-ours : (x : Path) → IsOursSweep (death_sweep x)
death-ours x = record {
  pointer = λ p ours. dead p ours (leads_to x p);
  holder = λ p ours. held p ours (leads_to x p);
  talk = λ talk ours. left talk ours (leads_to x talk.port) (serves x talk.peer);
  fault = λ fault ours. faulted fault ours (leads_to x fault.port);
}
  where
    dead : (p : Ptr) → IsOurs p → (t : Bool) → IsOurs (if t then Dead else p)
    dead p ours true = refl
    dead p ours false = ours

    held : (p : Ptr) → IsOurs p → (t : Bool) → AreOurs (option_list (λ p. p ∷ []) (if t then None else Some p))
    held p ours true = refl
    held p ours false = one-ours p ours

    left : (talk : Talk) → AreOurs (talk_pointers talk) → (a b : Bool) → AreOurs (option_list talk_pointers (if a || b then None else Some talk))
    left talk ours true b = refl
    left talk ours false true = refl
    left talk ours false false = ours

    taker : (o : Option Peer) → AreOurs (option_list peer_pointer o) → AreOurs (option_list peer_pointer (and_then (taker_without x) o))
    taker None ours = refl
    taker (Some p) ours = by (serves x p)
      where
        by : (t : Bool) → AreOurs (option_list peer_pointer (if t then None else Some p))
        by true = refl
        by false = ours

    faulted : (fault : Fault) → AreOurs (fault_pointers fault) → (t : Bool) →
        AreOurs (option_list fault_pointers (if t then None else Some (record fault { taker = and_then (taker_without x) fault.taker })))
    faulted fault ours true = refl
    faulted fault ours false =
        both-ours (fault.port ∷ []) (option_list peer_pointer (and_then (taker_without x) fault.taker))
        (one-ours fault.port (first-ours fault.port (option_list peer_pointer fault.taker) ours))
        (taker fault.taker (rest-ours fault.port (option_list peer_pointer fault.taker) ours))

following-ours : (x y : Path) → IsOursSweep (following x y)
following-ours x y = record {
  pointer = λ p ours. follows p ours;
  holder = λ p ours. one-ours (follow x y p) (follows p ours);
  talk = λ talk ours. both-ours (follow x y talk.port ∷ []) (peer_pointer (follow_peer x y talk.peer))
      (one-ours _ (follows talk.port (first-ours talk.port (peer_pointer talk.peer) ours)))
      (peer talk.peer (rest-ours talk.port (peer_pointer talk.peer) ours));
  fault = λ fault ours. both-ours (follow x y fault.port ∷ []) (option_list peer_pointer (option_map (follow_peer x y) fault.taker))
      (one-ours _ (follows fault.port (first-ours fault.port (option_list peer_pointer fault.taker) ours)))
      (taker fault.taker (rest-ours fault.port (option_list peer_pointer fault.taker) ours));
}
  where
    follows : (p : Ptr) → IsOurs p → IsOurs (follow x y p)
    follows p ours = by (leads_to x p)
      where
        by : (t : Bool) → IsOurs (if t then At y else p)
        by true = refl
        by false = ours

    peer : (p : Peer) → AreOurs (peer_pointer p) → AreOurs (peer_pointer (follow_peer x y p))
    peer (Server thread) ours = one-ours _ (follows thread (first-ours thread [] ours))
    peer Service ours = refl
    peer Parked ours = refl

    taker : (o : Option Peer) → AreOurs (option_list peer_pointer o) → AreOurs (option_list peer_pointer (option_map (follow_peer x y) o))
    taker None ours = refl
    taker (Some p) ours = peer p ours

-- ---- worlds

abbrev OursAt : Option Body → Type 0
OursAt o = AreOurs (option_list pointers o)

mapped : (f : Body → Body) → ((b : Body) → OursBody b → OursBody (f b)) → (o : Option Body) → OursAt o → OursAt (option_map f o)
mapped f keeps None ours = ours
mapped f keeps (Some b) ours = keeps b ours

either : (t : Bool) (a b : Option Body) → OursAt a → OursAt b → OursAt (if t then a else b)
either true a b one two = one
either false a b one two = two

uncut-apply : (c : Change) (w : World) → IsUncut w → SetsOurs c → IsUncut (apply c w)
unfolding apply
uncut-apply (Alter x edit) w uncut new = λ y. either (same_path y x) _ _ (mapped (edited edit) (λ b ours. edited-ours edit b new ours) (w.body y) (uncut y))
    (uncut y)
uncut-apply (Make x body) w uncut new = λ y. either (same_path y x) (Some body) (w.body y) new.0 (uncut y)
uncut-apply (MakeSpace x holder) w uncut new = absurd new
uncut-apply (Kill x) w uncut new = λ y. either (same_path y x) None _ refl
    (mapped (through (death_sweep x) y) (through-ours (death_sweep x) (death-ours x) y) (w.body y) (uncut y))
uncut-apply (Move x slot) w uncut new = absurd new
uncut-apply (PutPage space page words) w uncut new = uncut
uncut-apply (DropPage space page) w uncut new = uncut

uncut-all : (cs : List Change) (w : World) → IsUncut w → SetOurs cs → IsUncut (apply_all cs w)
unfolding apply_all
uncut-all [] w uncut new = uncut
uncut-all (c ∷ cs) w uncut new = uncut-all cs (apply c w) (uncut-apply c w uncut new.0) new.1

uncut-move : (x : Path) (slot : ℕ) (w : World) → IsUncut w → IsUncut (apply (Move x slot) w)
unfolding apply
uncut-move x slot w uncut = λ y.
    let to = slot ∷ parent x in
    either (same_path y to) _ _ (mapped (through (following x to) to) (through-ours (following x to) (following-ours x to) to) (w.body x) (uncut x))
    (either (same_path y x) None _ refl (mapped (through (following x to) y) (through-ours (following x to) (following-ours x to) y) (w.body y) (uncut y)))

uncut-space : (x : Path) (holder : Option Ptr) (w : World) → IsUncut w → AreOurs (option_list (λ p. p ∷ []) holder) → IsUncut (apply (MakeSpace x holder) w)
unfolding apply
uncut-space x holder w uncut new = λ y. either (same_path y x) (Some (Space w.next holder)) (w.body y) new (uncut y)

uncut-row : (cs : List Change) (w : World) → IsUncut w → IsOursRow w cs → IsUncut (apply_all cs w)
unfolding apply_all
uncut-row [] w uncut new = uncut
uncut-row (Move x slot ∷ cs) w uncut new = uncut-all cs (apply (Move x slot) w) (uncut-move x slot w uncut) new.2
uncut-row (Alter x edit ∷ cs) w uncut new = uncut-all (Alter x edit ∷ cs) w uncut new
uncut-row (Make x body ∷ cs) w uncut new = uncut-all (Make x body ∷ cs) w uncut new
uncut-row (MakeSpace x holder ∷ cs) w uncut new = uncut-all cs (apply (MakeSpace x holder) w) (uncut-space x holder w uncut new.0) new.1
uncut-row (Kill x ∷ cs) w uncut new = uncut-all (Kill x ∷ cs) w uncut new
uncut-row (PutPage space page words ∷ cs) w uncut new = uncut-all (PutPage space page words ∷ cs) w uncut new
uncut-row (DropPage space page ∷ cs) w uncut new = uncut-all (DropPage space page ∷ cs) w uncut new

uncut-stepped : (w : World) (o : Outcome) → IsUncut w → OursOutcome w o → IsUncut (stepped w o).world
uncut-stepped w (Goes changes said) uncut new = uncut-row changes w uncut new.ours
uncut-stepped w (Refused status) uncut new = uncut
uncut-stepped w Waits uncut new = uncut

pub keeps_uncut : MovesKeepUncut
unfolding step
keeps_uncut w e uncut = uncut-stepped w (outcome w e.mover e.pick e.ask) uncut (outcome-ours w e.mover e.pick e.ask uncut)
