-- What a record sets is in range, and a field takes what it may hold.
use Rattle.std.proofs.Common.{◌≡◌, ℕ, ◌-◌, Bool, true, false, if◌then◌else◌, not, ◌&&◌, ◌||◌, ◌==◌, leb, List, [], ◌∷◌, map, Option, Some, None, option_map}
use Rattle.std.proofs.Common.{is_some, refl}
use Rattle.std.proofs.lemmas.Bool.{and_parts, and_from}
use Rattle.fk_model.specs.declared.limits.TheConstants.{SLOTS}
use Rattle.fk_model.specs.declared.names.Kind.{Kind}
use Rattle.fk_model.specs.declared.names.Kind.TheVariants as kinds
use Rattle.fk_model.specs.Places.{Path, Ptr}
use Rattle.fk_model.specs.Places.Ptr.{At}
use Rattle.fk_model.specs.Objects.{Peer, Talk, Fault, Thread, Body, kind_of, and_then}
use Rattle.fk_model.specs.Objects.Peer.{Server, Service, Parked}
use Rattle.fk_model.specs.Objects.Body.{Mutex, Mapping, Region, Port, Portset, Space, Thread_of, Reference}
use Rattle.fk_model.specs.World.{World}
use Rattle.fk_model.specs.World.Change.{Alter}
use Rattle.fk_model.specs.LinkRows.{portset_of}
use Rattle.fk_model.specs.Readers.{kind_at}
use Rattle.fk_model.specs.Records.{is_page_range, is_flag, is_member_word, member_by, set_edits, is_state, word}
use Rattle.fk_model.specs.StateRows.{Field, peer_field, or_null, thread_field}
use Rattle.fk_model.specs.StateRows.{field_of, first_field, field_pointer, referable, held_kinds, is_of_kinds}
use Rattle.fk_model.specs.StateRows.Field.{Pointer}
use Rattle.fk_model.specs.Valid.{kind_there, is_one_of, leads_there, may_lead, all_in, is_good, is_good_set, is_good_talk, is_good_fault}
use Rattle.fk_model.specs.Valid.{is_good_peer}
use Rattle.laws_moves.proofs.InMachine.safety.Safe.{takes_pointer, AreSafe}
use Rattle.laws_moves.proofs.InMachine.safety.Reads.{leads-among, may-among}

-- ---- what a record sets

portset-there : (o : Option Body) → is_some (and_then portset_of o) ≡ true → is_one_of (kinds.Portset ∷ []) (option_map kind_of o) ≡ true
portset-there (Some Portset) h = refl
portset-there None h = cc
portset-there (Some b) h = cc

member-good : (w : World) (k : ℕ) (s : Path) (served : Bool) (n : ℕ) →
    is_member_word w s served n ≡ true → is_good_set (kind_there w) (k ∷ s) (member_by n) served ≡ true
unfolding kind_there
member-good w k s served n h = by (n == 0) h
  where
    by : (t : Bool) → (t || (not served && leb n SLOTS && is_some (and_then portset_of (w.body ((n - 1) ∷ s))))) ≡ true →
        is_good_set (λ x. option_map kind_of (w.body x)) (k ∷ s) (if t then None else Some (n - 1)) served ≡ true
    by true h = refl
    by false h =
        let last = and_parts (not served && leb n SLOTS) _ h in
        let first = and_parts (not served) _ last.0 in
        and_from _ _ first.0 (portset-there _ last.1)

pub edits-safe : (w : World) (k : ℕ) (s : Path) (b : Body) (words : List ℕ) →
    w.body (k ∷ s) ≡ Some b → is_state w s b words ≡ true → AreSafe w (map (Alter (k ∷ s)) (set_edits b words))
edits-safe w k s (Mutex locked) words there takes = (tt, tt)
edits-safe w k s (Mapping m) words there takes = ((and_parts _ (is_flag (word words 4)) takes).0, tt)
edits-safe w k s (Region r) words there takes = ((and_parts _ (is_flag (word words 3)) takes).0, tt)
edits-safe w k s (Port set served) words there takes = (rw there (member-good w k s served (word words 1) takes), tt)
edits-safe w k s (Thread_of t) words there takes = (tt, (tt, tt))
edits-safe w k s b words there takes = tt

-- ---- what a field holds

-- a reference may get what the field holds
abbrev pub Fits : (Path → Option Kind) → Field → Type 0
Fits there field = may_lead there referable (field_pointer field) ≡ true

abbrev pub AllFit : (Path → Option Kind) → Option Field → Type 0
AllFit there None = Unit {0}
AllFit there (Some field) = Fits there field

either-fit : (there : Path → Option Kind) (t : Bool) (a b : Option Field) → AllFit there a → AllFit there b → AllFit there (if t then a else b)
either-fit there true a b first second = first
either-fit there false a b first second = second

first-fit : (there : Path → Option Kind) (n : ℕ) (field : Field) → Fits there field → AllFit there (first_field n field)
first-fit there n field fits = either-fit there (n == 0) (Some field) None fits tt

peer-fit : (there : Path → Option Kind) (peer : Peer) → is_good_peer there peer ≡ true → Fits there (peer_field peer)
peer-fit there (Server thread) good = leads-among there kinds.Thread referable thread refl good
peer-fit there Service good = refl
peer-fit there Parked good = refl

holder-fit : (there : Path → Option Kind) (holder : Option Ptr) →
    all_in (leads_there there (kinds.Thread ∷ [])) holder ≡ true → Fits there (or_null (and_then (λ p. Some (Pointer p)) holder))
holder-fit there None good = refl
holder-fit there (Some p) good = leads-among there kinds.Thread referable p refl good

talk_port-fit : (there : Path → Option Kind) (talk : Option Talk) →
    all_in (is_good_talk there) talk ≡ true → Fits there (or_null (and_then (λ (talk : Talk). Some (Pointer talk.port)) talk))
talk_port-fit there None good = refl
talk_port-fit there (Some talk) good = leads-among there kinds.Port referable talk.port refl (and_parts _ _ good).0

talk_peer-fit : (there : Path → Option Kind) (talk : Option Talk) →
    all_in (is_good_talk there) talk ≡ true → Fits there (or_null (and_then (λ (talk : Talk). Some (peer_field talk.peer)) talk))
talk_peer-fit there None good = refl
talk_peer-fit there (Some talk) good = peer-fit there talk.peer (and_parts (leads_there there (kinds.Port ∷ []) talk.port) _ good).1

fault_port-fit : (there : Path → Option Kind) (fault : Option Fault) →
    all_in (is_good_fault there) fault ≡ true → Fits there (or_null (and_then (λ (fault : Fault). Some (Pointer fault.port)) fault))
fault_port-fit there None good = refl
fault_port-fit there (Some fault) good = leads-among there kinds.Port referable fault.port refl (and_parts _ _ good).0

fault_taker-fit : (there : Path → Option Kind) (fault : Option Fault) → all_in (is_good_fault there) fault ≡ true →
    Fits there (or_null (and_then (λ (fault : Fault). and_then (λ taker. Some (peer_field taker)) fault.taker) fault))
fault_taker-fit there None good = refl
fault_taker-fit there (Some fault) good = by fault.taker (and_parts (leads_there there (kinds.Port ∷ []) fault.port) _ good).1
  where
    by : (taker : Option Peer) → all_in (is_good_peer there) taker ≡ true → Fits there (or_null (and_then (λ taker. Some (peer_field taker)) taker))
    by None h = refl
    by (Some peer) h = peer-fit there peer h

thread-fit : (there : Path → Option Kind) (t : Thread) (n : ℕ) →
    all_in (is_good_talk there) t.talk ≡ true → all_in (is_good_fault there) t.fault ≡ true → AllFit there (thread_field t n)
thread-fit there t n talk fault =
    either-fit there (n == 0) (Some (or_null (and_then (λ (talk : Talk). Some (Pointer talk.port)) t.talk))) _ (talk_port-fit there t.talk talk)
    (either-fit there (n == 1) (Some (or_null (and_then (λ (talk : Talk). Some (peer_field talk.peer)) t.talk))) _ (talk_peer-fit there t.talk talk)
    (either-fit there (n == 2) (Some (or_null (and_then (λ (fault : Fault). Some (Pointer fault.port)) t.fault))) _ (fault_port-fit there t.fault fault)
    (either-fit there (n == 3) (Some (or_null (and_then (λ (fault : Fault). and_then (λ taker. Some (peer_field taker)) fault.taker) t.fault)))
    None (fault_taker-fit there t.fault fault) tt)))

pub fields-fit : (there : Path → Option Kind) (x : Path) (b : Body) (n : ℕ) → is_good there x b ≡ true → AllFit there (field_of n b)
fields-fit there x (Mapping m) n good =
    first-fit there n (Pointer m.region) (may-among there kinds.Region referable m.region refl (and_parts (is_page_range m.first m.count && _) _ good).1)
fields-fit there x (Region r) n good =
    first-fit there n (Pointer r.keeper) (may-among there kinds.Port referable r.keeper refl (and_parts (is_page_range r.first r.count) _ good).1)
fields-fit there x (Reference to) n good = first-fit there n (Pointer to) good
fields-fit there x (Space birth holder) n good = first-fit there n (or_null (and_then (λ p. Some (Pointer p)) holder)) (holder-fit there holder good)
fields-fit there x (Thread_of t) n good = let both = and_parts (all_in (is_good_talk there) t.talk) _ good in thread-fit there t n both.0 both.1
fields-fit there x b n good = tt

-- ---- what a field takes

-- a pointer among these kinds, where it leads to something
pub among-leads : (w : World) (wanted : List Kind) (to : Ptr) →
    may_lead (kind_there w) referable to ≡ true → is_of_kinds wanted (kind_at w to) ≡ true → may_lead (kind_there w) wanted to ≡ true
unfolding kind_there
among-leads w wanted (At x) may among = by (w.body x) may among
  where
    by : (o : Option Body) → is_one_of referable (option_map kind_of o) ≡ true →
        is_of_kinds wanted (and_then (λ b. Some (kind_of b)) o) ≡ true → is_one_of wanted (option_map kind_of o) ≡ true
    by None may among = cc
    by (Some b) may among = among
among-leads w wanted to may among = refl

pub takes-held : (w : World) (to : Ptr) (b : Body) → may_lead (kind_there w) (held_kinds b) to ≡ true → takes_pointer w to b ≡ true
takes-held w to (Mapping m) may = may
takes-held w to (Region r) may = may
takes-held w to (Reference old) may = may
takes-held w to b may = refl
