-- Talks begin and end: connect, disconnect, wait, end, and the talks that a porter restores.
use Rattle.std.specs.Prelude.{ℕ, Bool, true, false, ◌&&◌, ◌==◌, is_some, List, [], ◌∷◌, ◌++◌, map, Option, Some, None, Result, Ok, Err, option_map}
use Rattle.std.specs.Prelude.{if◌then◌else◌, slice_index}
use Rattle.fk_model.specs.declared.names.Kind.TheVariants as kinds
use Rattle.fk_model.specs.declared.stage.Stage.{Stage}
use Rattle.fk_model.specs.declared.stage.Stage.TheVariants.{Connect}
use Rattle.fk_model.specs.declared.statuses.status.TheConstants.{LINKED, NOTLINKED, ENDED, HELD}
use Rattle.fk_model.specs.declared.thread.Turn.{Turn}
use Rattle.fk_model.specs.declared.thread.Turn.TheVariants as turns
use Rattle.fk_model.specs.Places.{Path, same_path, parent, slot_of, Ptr}
use Rattle.fk_model.specs.Places.Ptr.{At}
use Rattle.fk_model.specs.Objects.{Peer, Talk, Fault, Thread, Body, port_of, thread_of, and_then, or_else, holds, flag_of}
use Rattle.fk_model.specs.Objects.Body.{Portset}
use Rattle.fk_model.specs.Objects.Peer.{Server, Service, Parked}
use Rattle.fk_model.specs.World.{World, Change}
use Rattle.fk_model.specs.World.Change.{Alter}
use Rattle.fk_model.specs.World.Edit.{Finish, End, SetTalk, SetPeer, SetTaker}
use Rattle.fk_model.specs.Searches.{is_serving, talk_at}
use Rattle.fk_model.specs.Holds.{is_free, is_unheld, is_frozen_for}
use Rattle.fk_model.specs.Outcomes.{Said, Outcome, ◌>>=◌, refuse, or_refuse, Caller, path_of, done, ended, telling}
use Rattle.fk_model.specs.Outcomes.Outcome.{Waits}
use Rattle.fk_model.specs.Outcomes.Said.{Nothing, Ended}
use Rattle.fk_model.specs.Readers.{object_in, handle, space_argument, referred}
use Rattle.fk_model.specs.Talks.{Line, line, ends_beyond, first_stage, path_to}

-- ---- connect: a server's wait does it, or the port's native server. By itself it is only refused

-- a thread without a talk asks for one at a port, and waits until its server takes it
unfoldable pub connect : World → Caller → ℕ → Outcome
connect w c h = do
  _ ← handle w c kinds.Port h
  _ ← refuse LINKED (is_some (talk_at w (path_of c)))
  Waits

-- a new talk: its client's turn, and nothing moved
abbrev pub new_talk : Ptr → Peer → Talk
new_talk port peer = record { port = port; peer = peer; turn = turns.Client; moved = 0 }

-- a user thread as a caller
abbrev pub user_at : Path → Caller
user_at x = record { space = parent x; slot = slot_of x; is_porter = false; words = [] }

abbrev pub if_read : {A : Type 0} → Result A ℕ → Option A
if_read (Ok a) = Some a
if_read (Err status) = None

abbrev pub port_named : World → Path → Stage → Option Ptr
port_named w x (Connect h) = if_read (handle w (user_at x) kinds.Port h)
port_named w x other = None

-- the port to which a thread is at its Connect, where that isn't refused
abbrev pub connecting_to : World → Path → Thread → Option Ptr
connecting_to w x t = if is_some t.talk then None else and_then (port_named w x) (first_stage t.mode)

-- ---- wait: it picks a thread that is not held, with a fault raised or parked on a port of the set; else, where it is
-- free, one at its Connect to such a port; else, where it is free, one with a parked talk at such a port

pub data Candidate : Type 0 where
  Faulting : (slot : ℕ) (fault : Fault) → Candidate
  Connecting : (slot : ℕ) → Candidate
  Resuming : (slot : ℕ) (talk : Talk) → Candidate

-- what is in a slot is a port of this set
abbrev pub is_member : ℕ → Option Body → Bool
is_member set body = holds (λ (port : Option ℕ × Bool). holds (λ k. k == set) port.0) (and_then port_of body)

-- the slot of a port of the set
abbrev pub slot_in_set : World → Path → ℕ → Ptr → Option ℕ
slot_in_set w space set port = and_then (λ x. if same_path (parent x) space && is_member set (w.body x) then Some (slot_of x) else None) (path_to port)

-- a talk waits at its port to be taken up again
abbrev pub is_parked : Option Peer → Bool
is_parked (Some Parked) = true
is_parked (Some (Server thread)) = false
is_parked (Some Service) = false
is_parked None = false

-- a fault that nobody has taken, or that is parked
abbrev pub is_open : Option Peer → Bool
is_open None = true
is_open (Some peer) = is_parked (Some peer)

abbrev pub faulting : World → Path → ℕ → Thread → Option Candidate
faulting w space set t =
    and_then (λ (fault : Fault). if is_open fault.taker then option_map (λ slot. Faulting slot fault) (slot_in_set w space set fault.port) else None) t.fault

abbrev pub connecting : World → Path → ℕ → Path → Thread → Option Candidate
connecting w space set x t = option_map Connecting (and_then (slot_in_set w space set) (connecting_to w x t))

abbrev pub resuming : World → Path → ℕ → Thread → Option Candidate
resuming w space set t =
    and_then (λ (talk : Talk). if is_parked (Some talk.peer) then option_map (λ slot. Resuming slot talk) (slot_in_set w space set talk.port) else None) t.talk

abbrev pub candidate_by : World → Path → ℕ → Path → Thread → Option Candidate
candidate_by w space set x t =
    or_else (faulting w space set t) (if is_free w (parent x) t then or_else (connecting w space set x t) (resuming w space set t) else None)

-- which kind of candidate a thread is for a wait on this set
unfoldable pub candidate : World → Path → ℕ → Path → Option Candidate
candidate w space set x = if is_unheld w (parent x) then and_then (candidate_by w space set x) (and_then thread_of (w.body x)) else None

-- whose turn it is, as records and porters give it
abbrev pub turn_number : Turn → ℕ
turn_number turns.Client = 1
turn_number turns.Server = 2

-- a call answers the port's slot and 0; a fault 1, a resumed talk 2, a resumed fault 3, and what there is to know of it
abbrev pub takes_candidate : Caller → Path → Option Candidate → Outcome
takes_candidate c x None = Waits
takes_candidate c x (Some (Faulting slot fault)) =
    ended c (Alter x (SetTaker (Some (Server (At (path_of c))))) ∷ []) (slot ∷ (if is_some fault.taker then 3 else 1) ∷ fault.page ∷ flag_of fault.write ∷ [])
takes_candidate c x (Some (Connecting slot)) =
    done c (Alter x (SetTalk (Some (new_talk (At (slot ∷ c.space)) (Server (At (path_of c)))))) ∷ Alter x (Finish []) ∷ []) (slot ∷ 0 ∷ [])
takes_candidate c x (Some (Resuming slot talk)) =
    ended c (Alter x (SetPeer (Server (At (path_of c)))) ∷ []) (slot ∷ 2 ∷ turn_number talk.turn ∷ talk.moved ∷ [])

abbrev pub takes_picked : World → Caller → ℕ → Option Path → Outcome
takes_picked w c set None = Waits
takes_picked w c set (Some x) = takes_candidate c x (candidate w c.space set x)

abbrev pub portset_of : Body → Option Body
portset_of Portset = Some Portset
portset_of other = None

-- wait: the client is accepted that the move picks, among those who can be taken at a port of the set
unfoldable pub wait : World → Caller → Option Path → ℕ → Outcome
wait w c pick set = do
  _ ← object_in w c portset_of c.space set
  _ ← refuse LINKED (is_serving w (path_of c))
  takes_picked w c set pick

-- ---- disconnect, by the client, and end, by the server. No turn is needed

abbrev pub end_all : List Path → List Change
end_all ends = map (λ x. Alter x (End ENDED [])) ends

-- the port's native server, if it is the peer, is told
abbrev pub told_end : Talk → Peer → Said
told_end talk Service = Ended talk.port
told_end talk (Server thread) = Nothing
told_end talk Parked = Nothing

abbrev pub removes : World → Caller → Turn → Line → Outcome
removes w c side l = telling (told_end l.talk l.other) (done c (end_all (ends_beyond w side l) ++ Alter l.client (SetTalk None) ∷ []) [])

-- disconnect, and the end of a talk by its server: the caller's talk on this side ends
unfoldable pub disconnect : World → Caller → Turn → Outcome
disconnect w c side = or_refuse NOTLINKED (line w (path_of c) side) >>= removes w c side

-- ---- a porter makes a talk again: `words` are the turn and the words moved

abbrev pub turn_by : ℕ → Turn
turn_by n = if n == 1 then turns.Client else turns.Server

abbrev pub given_talk : Caller → Ptr → Peer → Option Talk
given_talk c port peer = Some (record { port = port; peer = peer; turn = turn_by (slice_index c.words 0); moved = slice_index c.words 1 })

-- link_set: a thread becomes the client of a talk again, at a port, with a thread as its server
unfoldable pub link_set : World → Caller → ℕ → ℕ → ℕ → ℕ → Outcome
link_set w c s x port server = do
  space ← space_argument w c s
  _ ← object_in w c thread_of space x
  at ← referred w c kinds.Port port
  thread ← referred w c kinds.Thread server
  _ ← refuse HELD (is_frozen_for w (path_of c) (x ∷ space))
  done c (Alter (x ∷ space) (SetTalk (given_talk c at (Server thread))) ∷ []) []

-- link_park: a thread becomes the client of a talk again that waits at a port of the caller's space to be taken up
unfoldable pub link_park : World → Caller → ℕ → ℕ → ℕ → Outcome
link_park w c s x port = do
  space ← space_argument w c s
  _ ← object_in w c thread_of space x
  _ ← object_in w c port_of c.space port
  _ ← refuse HELD (is_frozen_for w (path_of c) (x ∷ space))
  done c (Alter (x ∷ space) (SetTalk (given_talk c (At (port ∷ c.space)) Parked)) ∷ []) []
