-- Talks: a talk as one of its ends sees it, and what its other end is at.
--
-- A thread has at most one talk as a client and serves at most one. So the side on which a stage acts says which talk
-- it is of.
use Rattle.std.specs.Prelude.{ℕ, Bool, true, false, ◌&&◌, nat_le, is_some, List, [], ◌∷◌, Option, Some, None, if◌then◌else◌}
use Rattle.fk_model.specs.declared.limits.TheConstants.{LAST_USER_SLOT}
use Rattle.fk_model.specs.declared.stage.Stage.{Stage}
use Rattle.fk_model.specs.declared.stage.Stage.TheVariants.{ClientReceive, ServerReceive, ClientReceiveRef, ServerReceiveRef}
use Rattle.fk_model.specs.StageFacts.{facts_of}
use Rattle.fk_model.specs.declared.thread.Turn.{Turn}
use Rattle.fk_model.specs.declared.thread.Turn.TheVariants as turns
use Rattle.fk_model.specs.Places.{Path, parent, Ptr}
use Rattle.fk_model.specs.Places.Ptr.{At}
use Rattle.fk_model.specs.Objects.{Mode, Peer, Talk, Thread, thread_of, reference_of, and_then, holds}
use Rattle.fk_model.specs.Objects.Mode.{Calling}
use Rattle.fk_model.specs.Objects.Peer.{Server, Service, Parked}
use Rattle.fk_model.specs.World.{World}
use Rattle.fk_model.specs.Searches.{talk_at, client_of}
use Rattle.fk_model.specs.Holds.{is_unheld}

-- a side of a talk is named as its turn is
abbrev pub other_side : Turn → Turn
other_side turns.Client = turns.Server
other_side turns.Server = turns.Client

abbrev pub same_side : Turn → Turn → Bool
same_side turns.Client turns.Client = true
same_side turns.Server turns.Server = true
same_side turns.Client turns.Server = false
same_side turns.Server turns.Client = false

-- a talk, its client, and who is at its other end
pub record Line : Type 0 where
  pub client : Path
  pub talk : Talk
  pub other : Peer

abbrev pub line_from : Path → (Talk → Peer) → Option Talk → Option Line
line_from client other None = None
line_from client other (Some talk) = Some (record { client = client; talk = talk; other = other talk })

-- the talk in which a thread acts on a side
unfoldable pub line : World → Path → Turn → Option Line
line w me turns.Client = line_from me (λ talk. talk.peer) (talk_at w me)
line w me turns.Server = and_then (λ client. line_from client (λ talk. Server (At client)) (talk_at w client)) (client_of w me)

-- ---- what a thread is at

-- the stage that a thread in a call makes next
abbrev pub first_stage : Mode → Option Stage
first_stage (Calling (stage ∷ todo) rest) = Some stage
first_stage other = None

-- the address and the room of a Receive or a ReceiveRef on this side
abbrev pub receive_on : Turn → Stage → Option (ℕ × ℕ)
receive_on turns.Client (ClientReceive into room) = Some (into, room)
receive_on turns.Server (ServerReceive into room) = Some (into, room)
receive_on turns.Client (ClientReceiveRef into room reference) = Some (into, room)
receive_on turns.Server (ServerReceiveRef into room reference) = Some (into, room)
receive_on side other = None

-- the slot of the reference that is to take a pointer, of a ReceiveRef
abbrev pub reference_awaited : Stage → Option ℕ
reference_awaited (ClientReceiveRef into room reference) = Some reference
reference_awaited (ServerReceiveRef into room reference) = Some reference
reference_awaited other = None

-- the side of a talk on which a stage sends, hands over or receives, with a reference or without, if it does
abbrev pub side_of : Stage → Option Turn
side_of stage = (facts_of stage).side

abbrev pub talks_on : Turn → Stage → Bool
talks_on side stage = holds (same_side side) (side_of stage)

-- a user's slot of a space holds a reference
abbrev pub is_reference_in : World → Path → ℕ → Bool
is_reference_in w space k = nat_le k LAST_USER_SLOT && holds (λ b. is_some (reference_of b)) (w.body (k ∷ space))

-- the slot of the reference that a thread's stage is to fill
abbrev pub awaited : Mode → Option ℕ
awaited mode = and_then reference_awaited (first_stage mode)

-- a thread in this space isn't refused for its handle, where it is at a ReceiveRef
abbrev pub is_handled : World → Path → Option ℕ → Bool
is_handled w space None = true
is_handled w space (Some k) = is_reference_in w space k

-- the address and the room of a thread in a space, where it is at a Receive on this side, or at a ReceiveRef that isn't refused for its handle
abbrev pub receiving : World → Path → Turn → Mode → Option (ℕ × ℕ)
receiving w space side mode = if is_handled w space (awaited mode) then and_then (receive_on side) (first_stage mode) else None

abbrev pub is_talking : Turn → Mode → Bool
is_talking side mode = holds (talks_on side) (first_stage mode)

-- ---- the other end

abbrev pub path_to : Ptr → Option Path
path_to (At x) = Some x
path_to other = None

-- the thread at the other end, with its path
abbrev pub thread_led_to : World → Ptr → Option (Path × Thread)
thread_led_to w p = and_then (λ x. and_then (λ t. Some (x, t)) (and_then thread_of (w.body x))) (path_to p)

-- the native server of a port is free
abbrev pub is_service_free : World → Ptr → Bool
is_service_free w port = holds (λ x. is_unheld w (parent x)) (path_to port)

abbrev pub if_talking : Turn → Option (Path × Thread) → List Path
if_talking side None = []
if_talking side (Some e) = if is_talking side e.1.mode then e.0 ∷ [] else []

-- a thread whose call ends with a talk: it is at a Send, an Over or a Receive on this side of it, with a reference or without
abbrev pub talking_end : World → Turn → Ptr → List Path
talking_end w side p = if_talking side (thread_led_to w p)

-- the client of a talk that ends with the thread that serves it
abbrev pub served_end : World → Peer → List Path
served_end w (Server thread) = talking_end w turns.Server thread
served_end w Service = []
served_end w Parked = []

-- whose calls end when a talk is removed by the other end of this line
abbrev pub ends_beyond : World → Turn → Line → List Path
ends_beyond w turns.Client line = served_end w line.other
ends_beyond w turns.Server line = talking_end w turns.Client (At line.client)
