-- Safe changes: what a change has to meet in the world in which it is made, so that the world stays valid.
use Rattle.std.specs.Prelude.{◌≡◌, ℕ, ◌<◌, Bool, true, false, ◌&&◌, nat_lt, is_none, IsSome, List, [], ◌∷◌, Option, Some, None}
use Rattle.fk_model.specs.declared.limits.TheConstants.{SLOTS, PAGES}
use Rattle.fk_model.specs.declared.names.Kind.TheVariants as kinds
use Rattle.fk_model.specs.Places.{Path, Ptr, leads_to}
use Rattle.fk_model.specs.Objects.{Peer, Talk, Fault, Body}
use Rattle.fk_model.specs.Objects.Peer.{Server, Service, Parked}
use Rattle.fk_model.specs.Objects.Body.{Mapping, Region, Port, Space, Thread_of, Reference}
use Rattle.fk_model.specs.World.{World, Edit, Change, apply}
use Rattle.fk_model.specs.World.Edit.{SetLocked, SetWindow, SetExtent, SetMember, SetPointer, SetHolder, Proceed, Shift, Finish, End, Replace, SetStops}
use Rattle.fk_model.specs.World.Edit.{SetTalk, CountMoved, PassTurn, SetPeer, SetFault, SetTaker}
use Rattle.fk_model.specs.World.Change.{Alter, Make, MakeSpace, Kill, Move, PutPage, DropPage}
use Rattle.fk_model.specs.Searches.{talk_at, fault_at}
use Rattle.fk_model.specs.Records.{is_page_range}
use Rattle.fk_model.specs.StateRows.{held_kinds}
use Rattle.fk_model.specs.Valid.{kind_there, leads_there, may_lead, all_in, is_good, is_good_set, is_served_port, HasService, services, lies_with, HasPlace}

-- ---- peers

-- a thread that may serve at a port: it lives in the port's space, and serves nobody
pub record IsSafeServer (w : World) (port server : Ptr) : Type 0 where
  pub good : leads_there (kind_there w) (kinds.Thread ∷ []) server ≡ true
  pub near : lies_with port server
  pub idle : (s q : Path) → leads_to s server ≡ true → services w s q ≡ 0

-- a served port whose native server may take up x: it has no other client
pub record IsSafeService (w : World) (x : Path) (port : Ptr) : Type 0 where
  pub served : is_served_port w port ≡ true
  pub alone : (q : Path) → HasService w q port → q ≡ x

abbrev pub IsSafePeer : World → Path → Ptr → Peer → Type 0
IsSafePeer w x port (Server server) = IsSafeServer w port server
IsSafePeer w x port Service = IsSafeService w x port
IsSafePeer w x port Parked = Unit {0}

abbrev pub IsSafeTaker : World → Ptr → Option Peer → Type 0
IsSafeTaker w port None = Unit {0}
IsSafeTaker w port (Some (Server server)) = IsSafeServer w port server
IsSafeTaker w port (Some Service) = Unit {0}
IsSafeTaker w port (Some Parked) = Unit {0}

-- the talk may become that of x
pub record IsSafeTalk (w : World) (x : Path) (talk : Talk) : Type 0 where
  pub port : leads_there (kind_there w) (kinds.Port ∷ []) talk.port ≡ true
  pub peer : IsSafePeer w x talk.port talk.peer

pub record IsSafeFault (w : World) (fault : Fault) : Type 0 where
  pub port : leads_there (kind_there w) (kinds.Port ∷ []) fault.port ≡ true
  pub taker : IsSafeTaker w fault.port fault.taker

abbrev pub IfAny : {A : Type 0} → (A → Type 0) → Option A → Type 0
IfAny P None = Unit {0}
IfAny P (Some a) = P a

-- ---- edits

-- a port at x may be in this set
abbrev pub takes_set : World → Path → Option ℕ → Body → Bool
takes_set w x set (Port old served) = is_good_set (kind_there w) x set served
takes_set w x set other = true

-- the pointer field may lead there
abbrev pub takes_pointer : World → Ptr → Body → Bool
takes_pointer w to (Mapping m) = may_lead (kind_there w) (held_kinds (Mapping m)) to
takes_pointer w to (Region r) = may_lead (kind_there w) (held_kinds (Region r)) to
takes_pointer w to (Reference old) = may_lead (kind_there w) (held_kinds (Reference old)) to
takes_pointer w to other = true

abbrev pub IsSafeEdit : World → Path → Edit → Type 0
IsSafeEdit w x (SetLocked locked) = Unit {0}
IsSafeEdit w x (SetWindow first count offset write) = (is_page_range first count && nat_lt offset PAGES) ≡ true
IsSafeEdit w x (SetExtent first count write) = is_page_range first count ≡ true
IsSafeEdit w x (SetMember set) = all_in (takes_set w x set) (w.body x) ≡ true
IsSafeEdit w x (SetPointer to) = all_in (takes_pointer w to) (w.body x) ≡ true
IsSafeEdit w x (SetHolder holder) = all_in (leads_there (kind_there w) (kinds.Thread ∷ [])) holder ≡ true
IsSafeEdit w x (Proceed mode counter) = Unit {0}
IsSafeEdit w x (Shift count) = Unit {0}
IsSafeEdit w x (Finish answers) = Unit {0}
IsSafeEdit w x (End status answers) = Unit {0}
IsSafeEdit w x (Replace stage) = Unit {0}
IsSafeEdit w x (SetStops stops) = Unit {0}
IsSafeEdit w x (SetTalk talk) = IfAny (IsSafeTalk w x) talk
IsSafeEdit w x (CountMoved count) = Unit {0}
IsSafeEdit w x (PassTurn turn) = Unit {0}
IsSafeEdit w x (SetPeer peer) = (talk : Talk) → talk_at w x ≡ Some talk → IsSafePeer w x talk.port peer
IsSafeEdit w x (SetFault fault) = IfAny (IsSafeFault w) fault
IsSafeEdit w x (SetTaker taker) = (fault : Fault) → fault_at w x ≡ Some fault → IsSafeTaker w fault.port taker

-- ---- changes

-- slot k of s is an empty slot of a space
pub record IsVacant (w : World) (k : ℕ) (s : Path) : Type 0 where
  pub slot : k < SLOTS
  pub space : kind_there w s ≡ Some kinds.Space
  pub empty : w.body (k ∷ s) ≡ None

-- a body that is no space, and no thread with a talk or a fault
abbrev pub is_plain : Body → Bool
is_plain (Space birth holder) = false
is_plain (Thread_of t) = is_none t.talk && is_none t.fault
is_plain other = true

pub record IsSafeMake (w : World) (k : ℕ) (s : Path) (body : Body) : Type 0 where
  pub place : IsVacant w k s
  pub plain : is_plain body ≡ true
  pub good : is_good (kind_there w) (k ∷ s) body ≡ true

pub record IsSafeMakeSpace (w : World) (k : ℕ) (s : Path) (holder : Option Ptr) : Type 0 where
  pub place : IsVacant w k s
  pub held : all_in (leads_there (kind_there w) (kinds.Thread ∷ [])) holder ≡ true

-- an object other than the root, with nothing beneath it
pub record IsAlone (w : World) (x : Path) : Type 0 where
  pub inner : x ≡ [] → ⊥
  pub empty : (k : ℕ) → w.body (k ∷ x) ≡ None

pub record IsSafeMove (w : World) (k : ℕ) (s : Path) (slot : ℕ) : Type 0 where
  pub live : IsSome (w.body (k ∷ s))
  pub alone : (j : ℕ) → w.body (j ∷ k ∷ s) ≡ None
  pub slot_fits : slot < SLOTS
  pub empty : w.body (slot ∷ s) ≡ None

abbrev pub IsSafe : World → Change → Type 0
IsSafe w (Alter x edit) = IsSafeEdit w x edit
IsSafe w (Make [] body) = ⊥
IsSafe w (Make (k ∷ s) body) = IsSafeMake w k s body
IsSafe w (MakeSpace [] holder) = ⊥
IsSafe w (MakeSpace (k ∷ s) holder) = IsSafeMakeSpace w k s holder
IsSafe w (Kill x) = IsAlone w x
IsSafe w (Move [] slot) = ⊥
IsSafe w (Move (k ∷ s) slot) = IsSafeMove w k s slot
IsSafe w (PutPage space page words) = HasPlace w space page
IsSafe w (DropPage space page) = Unit {0}

-- each is safe in the world that the earlier ones leave
abbrev pub AreSafe : World → List Change → Type 0
AreSafe w [] = Unit {0}
AreSafe w (c ∷ cs) = IsSafe w c × AreSafe (apply c w) cs
