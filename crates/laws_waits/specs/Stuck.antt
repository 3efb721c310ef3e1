-- Stuck threads: for what reason no move of a thread is ready, whatever it picks, and which changes touch the reason.
--
-- Each reason says what it reads of the world: a few bodies, the kinds of a few objects, a page. A change that names none
-- of these leaves it. Only a wait reads all threads: that none of them comes to it.
use Rattle.std.specs.Prelude.{◌≡◌, ℕ, ◌/◌, Bool, true, false, not, ◌&&◌, ◌||◌, ◌==◌, nat_le, nat_lt, is_some, List, [], ◌∷◌, Option, Some, None, Ok, ◌⊎◌}
use Rattle.fk_model.specs.declared.limits.TheConstants.{OWN_SPACE, LAST_USER_SLOT, PAGE_WORDS, SPACE_WORDS}
use Rattle.fk_model.specs.declared.names.Kind.TheVariants as kinds
use Rattle.fk_model.specs.declared.stage.Stage.{Stage}
use Rattle.fk_model.specs.declared.stage.Stage.TheVariants.{SpaceHold, MutexLock, CondAsleep, Connect, Wait, ClientReceive, ClientReceiveRef, ClientSend}
use Rattle.fk_model.specs.declared.stage.Stage.TheVariants.{ClientOver}
use Rattle.fk_model.specs.declared.stage.Stage.TheVariants.{ServerReceive, ServerSend, ServerOver, FaultDone, ClientOverRef, ServerOverRef, ServerReceiveRef}
use Rattle.fk_model.specs.declared.thread.Turn.{Turn}
use Rattle.fk_model.specs.declared.thread.Turn.TheVariants as turns
use Rattle.fk_model.specs.Places.{Path, same_path, parent, slot_of, is_within, Ptr, leads_to}
use Rattle.fk_model.specs.Places.Ptr.{At}
use Rattle.fk_model.specs.Objects.{Talk, Fault, Thread, mutex_of, space_of, and_then, holds, Mode}
use Rattle.fk_model.specs.World.{World, Change, apply, serves}
use Rattle.fk_model.specs.Searches.{thread_at, talk_at, fault_at, is_service}
use Rattle.fk_model.specs.Holds.{holder_of, is_frozen_for, is_user}
use Rattle.fk_model.specs.SpaceRows.{is_held_by_other}
use Rattle.fk_model.specs.Readers.{handled}
use Rattle.fk_model.specs.Talks.{first_stage, same_side, other_side, path_to, awaited, is_handled, is_reference_in, receive_on}
use Rattle.fk_model.specs.LinkRows.{connecting_to, is_member, is_open, is_parked, portset_of}
use Rattle.fk_model.specs.Valid.{kind_there}
use Rattle.fk_model.specs.Reach.{reach_word}
use Rattle.fk_model.specs.Moves.{IsReady}
use Rattle.fk_model.specs.declared.moves.Ask.TheVariants as asks
use Rattle.laws_moves.specs.Machine.Frame.{names_body}
use Rattle.laws_waits.specs.Touching.{remakes, stirs, repoints, regroups, reholds, takes_page, is_home, LeavesMemory}

-- ---- what is read of one body

abbrev pub stage_at : World → Path → Option Stage
stage_at w x = and_then (λ (t : Thread). first_stage t.mode) (thread_at w x)

-- stopped, with a fault, or neither running nor in a call
abbrev pub is_resting : Thread → Bool
is_resting t = not (t.stops == 0) || is_some t.fault || not (is_user t.mode)

abbrev pub is_held : World → Path → Bool
is_held w space = is_some (holder_of (w.body space))

-- an object lies in or beneath a held space
abbrev pub IsBeneath : World → Path → Path → Type 0
IsBeneath w space x = (is_within space (parent x) ≡ true) × (is_held w space ≡ true)

-- ---- the other end of a talk

-- who stands at the other end, and why nothing can be moved with it
pub data End : Type 0 where
  -- a thread that rests or isn't at its Receive of the talk
  Absent : (thread : Path) → End
  -- a thread that rests, or isn't at its Receive, or would be refused there: it awaits a pointer in a slot that holds no reference
  Unnamed : (thread : Path) (slot : ℕ) → End
  -- a thread beneath a held space
  Covered : (thread space : Path) → End
  -- nobody yet
  Unclaimed : End
  -- the native server of a port beneath a held space
  Closed : (port space : Path) → End

-- whose body has the talk in which a thread acts on a side
abbrev pub talk_place : Turn → Path → Path → Path
talk_place turns.Client me client = me
talk_place turns.Server me client = client

-- a talk is the one in which `me` acts on a side, with its turn as said
abbrev pub is_talk_of : Turn → Path → Turn → Talk → Bool
is_talk_of turns.Client me turn talk = same_side talk.turn turn
is_talk_of turns.Server me turn talk = same_side talk.turn turn && serves me talk.peer

-- the thread `y` is at the other end of it
abbrev pub has_other : Turn → Path → Path → Talk → Bool
has_other turns.Client client y talk = serves y talk.peer
has_other turns.Server client y talk = same_path client y

abbrev pub is_with : Turn → Path → End → Talk → Bool
is_with side client (Absent y) talk = has_other side client y talk
is_with side client (Unnamed y k) talk = has_other side client y talk
is_with side client (Covered y space) talk = has_other side client y talk
is_with turns.Client client Unclaimed talk = is_parked (Some talk.peer)
is_with turns.Server client Unclaimed talk = false
is_with turns.Client client (Closed port space) talk = is_service talk.peer && leads_to port talk.port
is_with turns.Server client (Closed port space) talk = false

-- the address and the room of a thread at a Receive on a side, whatever its handle
abbrev pub awaits_on : Turn → Mode → Option (ℕ × ℕ)
awaits_on side mode = and_then (receive_on side) (first_stage mode)

-- a thread that a Send or an Over could move, but for a hold above it, and for its handle
abbrev pub is_at_hand : Turn → Thread → Bool
is_at_hand side t = not (is_resting t) && is_some (awaits_on side t.mode)

-- its stage is to fill the reference in this slot
abbrev pub names_slot : ℕ → Thread → Bool
names_slot k t = holds (λ j. j == k) (awaited t.mode)

abbrev pub is_at_hand_else : Turn → ℕ → Thread → Bool
is_at_hand_else side k t = is_at_hand side t && not (names_slot k t)

abbrev pub IsGone : World → Turn → End → Type 0
IsGone w side (Absent y) = holds (is_at_hand (other_side side)) (thread_at w y) ≡ false
IsGone w side (Unnamed y k) = (holds (is_at_hand_else (other_side side) k) (thread_at w y) ≡ false) × (is_reference_in w (parent y) k ≡ false)
IsGone w side (Covered y space) = IsBeneath w space y
IsGone w side Unclaimed = Unit {0}
IsGone w side (Closed port space) = IsBeneath w space port

-- a talk stands where it should, with this turn and with this other end
abbrev pub IsTalking : World → Path → Turn → Turn → Path → Type 0
IsTalking w me side turn client = holds (is_talk_of side me turn) (talk_at w (talk_place side me client)) ≡ true

abbrev pub IsTalkingTo : World → Path → Turn → Path → End → Type 0
IsTalkingTo w me side client end =
    holds (λ (talk : Talk). is_talk_of side me side talk && is_with side client end talk) (talk_at w (talk_place side me client)) ≡ true

-- ---- pages

-- the page of an address is a home page of the space
abbrev pub IsAtHome : World → Path → ℕ → Type 0
IsAtHome w space address = (nat_lt address SPACE_WORDS ≡ true) × (is_some (w.page space (address / PAGE_WORDS)) ≡ true)

-- a call reaches the page of an address: it is at home, or far and reached by mappings
abbrev pub IsReached : World → Path → ℕ → Bool → Bool → Type 0
IsReached w space address write false = IsAtHome w space address
IsReached w space address write true = is_home (reach_word w space address write) ≡ true

-- ---- who comes to a wait

-- a pointer leads to a port of the set at z
abbrev pub is_in : World → Path → Ptr → Bool
is_in w z port = holds (λ p. same_path (parent p) (parent z) && is_member (slot_of z) (w.body p)) (path_to port)

abbrev pub comes_faulting : World → Path → Thread → Bool
comes_faulting w z t = holds (λ (fault : Fault). is_open fault.taker && is_in w z fault.port) t.fault

abbrev pub comes_connecting : World → Path → Path → Thread → Bool
comes_connecting w z y t = holds (is_in w z) (connecting_to w y t)

abbrev pub comes_resuming : World → Path → Thread → Bool
comes_resuming w z t = holds (λ (talk : Talk). is_parked (Some talk.peer) && is_in w z talk.port) t.talk

-- a thread would be a candidate of a wait on the set at z, but for a hold above it
abbrev pub comes_to : World → Path → Path → Bool
comes_to w z y = holds (λ (t : Thread). comes_faulting w z t || (not (is_resting t) && (comes_connecting w z y t || comes_resuming w z t))) (thread_at w y)

-- a thread's talk is served by x, or its fault taken
abbrev pub is_served_by : Path → Thread → Bool
is_served_by x t = holds (λ (talk : Talk). serves x talk.peer) t.talk || holds (λ (fault : Fault). holds (serves x) fault.taker) t.fault

-- a set in a slot that a user can name
abbrev pub IsSet : World → Path → ℕ → Type 0
IsSet w space set = (nat_le set LAST_USER_SLOT ≡ true) × (is_some (and_then portset_of (w.body (set ∷ space))) ≡ true)

-- ---- reasons

pub data Reason : Type 0 where
  Resting : Reason
  Beneath : (space : Path) → Reason
  Locking : (mutex : ℕ) → Reason
  Sleeping : (cond mutex : ℕ) → Reason
  Connecting : (h : ℕ) (port : Path) → Reason
  -- at a Receive: with its side, its room at an address, the reference that it is to fill, if any, whether the address is far, and whose
  -- client's talk it is
  Receiving : (side : Turn) (into room : ℕ) (reference : Option ℕ) (far : Bool) (client : Path) → Reason
  -- at an Over, with the reference whose pointer goes with it, if one does
  Passing : (side : Turn) (reference : Option ℕ) (client : Path) (end : End) → Reason
  Sending : (side : Turn) (address count : ℕ) (far : Bool) (client : Path) (end : End) → Reason
  -- the page at the other end isn't there: of a thread with so much room at an address
  Lacking : (side : Turn) (address count : ℕ) (far : Bool) (client y : Path) (into room : ℕ) → Reason
  -- at fault_done: who has the fault lies beneath a held space
  Ending : (faulter space : Path) → Reason
  -- at space_hold of a space that another holds
  Holding : (s x : ℕ) (space : Path) → Reason
  -- nobody comes
  Waiting : (set : ℕ) → Reason
  -- nobody comes but some that are held
  WaitingOut : (set : ℕ) → Reason
  -- any other: by the freezing rule alone, in most cases
  Barred : Reason

abbrev pub receive_stage : Turn → ℕ → ℕ → Option ℕ → Stage
receive_stage turns.Client into room None = ClientReceive into room
receive_stage turns.Server into room None = ServerReceive into room
receive_stage turns.Client into room (Some k) = ClientReceiveRef into room k
receive_stage turns.Server into room (Some k) = ServerReceiveRef into room k

abbrev pub send_stage : Turn → ℕ → ℕ → Stage
send_stage turns.Client address count = ClientSend address count
send_stage turns.Server address count = ServerSend address count

abbrev pub over_stage : Turn → Option ℕ → Stage
over_stage turns.Client None = ClientOver
over_stage turns.Server None = ServerOver
over_stage turns.Client (Some k) = ClientOverRef k
over_stage turns.Server (Some k) = ServerOverRef k

-- a thread is at its Receive with this room at an address, which isn't 0
abbrev pub HasRoom : World → Turn → Path → ℕ → ℕ → Type 0
HasRoom w side y into room =
    (and_then (λ (t : Thread). awaits_on (other_side side) t.mode) (thread_at w y) ≡ Some (into, room)) × ((room == 0) ≡ false)

-- x has taken the fault of y
abbrev pub HasTaken : World → Path → Path → Type 0
HasTaken w x y = holds (λ (fault : Fault). holds (serves x) fault.taker) (fault_at w y) ≡ true

-- a place that a user names: its own space, or a space by a handle
abbrev pub IsPlace : World → Path → ℕ → Path → Type 0
IsPlace w me s space =
    (((s == OWN_SPACE) ≡ true) × (space ≡ parent me))
    ⊎ (((s == OWN_SPACE) ≡ false) × (nat_le s LAST_USER_SLOT ≡ true) × (handled w kinds.Space (s ∷ parent me) (w.body (s ∷ parent me)) ≡ Ok (At space)))

-- a thread is at a stage of a call
abbrev pub IsAtStage : World → Path → Stage → Type 0
IsAtStage w x stage = stage_at w x ≡ Some stage

-- the reason holds
abbrev pub IsStuck : World → Path → Reason → Type 0
IsStuck w x Resting = holds is_resting (thread_at w x) ≡ true
IsStuck w x (Beneath space) = IsBeneath w space x
IsStuck w x (Locking m) =
    IsAtStage w x (MutexLock m) × (nat_le m LAST_USER_SLOT ≡ true) × (and_then mutex_of (w.body (m ∷ parent x)) ≡ Some true)
IsStuck w x (Sleeping c m) =
    IsAtStage w x (CondAsleep c m) × (nat_le c LAST_USER_SLOT ≡ true) × (nat_le m LAST_USER_SLOT ≡ true)
    × (kind_there w (c ∷ parent x) ≡ Some kinds.Cond) × (kind_there w (m ∷ parent x) ≡ Some kinds.Mutex)
IsStuck w x (Connecting h port) =
    IsAtStage w x (Connect h) × (nat_le h LAST_USER_SLOT ≡ true) × (talk_at w x ≡ None)
    × (handled w kinds.Port (h ∷ parent x) (w.body (h ∷ parent x)) ≡ Ok (At port))
IsStuck w x (Receiving side into room reference far client) =
    IsAtStage w x (receive_stage side into room reference) × IsTalking w x side (other_side side) client
    × ((room == 0) ≡ true ⊎ IsReached w (parent x) into true far) × (is_handled w (parent x) reference ≡ true)
IsStuck w x (Passing side reference client end) =
    IsAtStage w x (over_stage side reference) × IsTalkingTo w x side client end × IsGone w side end × (is_handled w (parent x) reference ≡ true)
IsStuck w x (Sending side address count far client end) =
    IsAtStage w x (send_stage side address count) × ((count == 0) ≡ false) × IsReached w (parent x) address false far
    × IsTalkingTo w x side client end × IsGone w side end
IsStuck w x (Lacking side address count far client y into room) =
    IsAtStage w x (send_stage side address count) × ((count == 0) ≡ false) × IsReached w (parent x) address false far
    × IsTalkingTo w x side client (Absent y) × HasRoom w side y into room × (is_home (reach_word w (parent y) into true) ≡ false)
IsStuck w x (Ending y space) = IsAtStage w x FaultDone × HasTaken w x y × IsBeneath w space y
IsStuck w me (Holding s x space) =
    IsAtStage w me (SpaceHold s x) × (nat_le x LAST_USER_SLOT ≡ true) × IsPlace w me s space
    × (is_some (and_then space_of (w.body (x ∷ space))) ≡ true) × (is_frozen_for w me space ≡ false)
    × (is_within (x ∷ space) (parent me) ≡ false) × (is_held_by_other w me (x ∷ space) ≡ true)
IsStuck w x (Waiting set) =
    IsAtStage w x (Wait set) × IsSet w (parent x) set × ((y : Path) → holds (is_served_by x) (thread_at w y) ≡ false)
    × ((y : Path) → comes_to w (set ∷ parent x) y ≡ false)
IsStuck w x (WaitingOut set) =
    IsAtStage w x (Wait set) × IsSet w (parent x) set × ((y : Path) → holds (is_served_by x) (thread_at w y) ≡ false)
    × ((y : Path) → (comes_to w (set ∷ parent x) y ≡ false) ⊎ ((space : Path) × IsBeneath w space y))
IsStuck w x Barred = (pick : Option Path) → IsReady w x pick asks.Run → ⊥

-- ---- what touches a reason

-- a change leaves the other end of a talk
abbrev pub LeavesEnd : World → Change → End → Type 0
LeavesEnd w c (Absent y) = stirs w c y ≡ false
LeavesEnd w c (Unnamed y k) = (stirs w c y ≡ false) × (remakes c (k ∷ parent y) ≡ false)
LeavesEnd w c (Covered y space) = names_body w c space ≡ false
LeavesEnd w c Unclaimed = Unit {0}
LeavesEnd w c (Closed port space) = names_body w c space ≡ false

-- a change leaves where a place is
abbrev pub LeavesPlace : World → Change → Path → ℕ → Path → Type 0
LeavesPlace w c me s space = ((s == OWN_SPACE) ≡ true) ⊎ ((names_body w c (s ∷ parent me) ≡ false) × (remakes c space ≡ false))

-- a change leaves what stands in a slot of a space that a thread names, if it names one
abbrev pub LeavesHandle : Change → Path → Option ℕ → Type 0
LeavesHandle c space None = Unit {0}
LeavesHandle c space (Some k) = remakes c (k ∷ space) ≡ false

-- a change leaves a page within reach
abbrev pub LeavesPage : World → Change → Path → ℕ → Bool → Type 0
LeavesPage w c space address false = takes_page c space (address / PAGE_WORDS) ≡ false
LeavesPage w c space address true = LeavesMemory w c

-- what it changes doesn't come to a wait on the set at z, and x doesn't come to serve it
pub record BringsNobody (w : World) (c : Change) (x z : Path) : Type 0 where
  -- no port that it puts into a set is in this one
  pub ports : (p : Path) → regroups w c p ≡ true → is_in (apply c w) z (At p) ≡ false
  -- no thread that it changes comes there, or is served by x
  pub threads : (y : Path) → stirs w c y ≡ true → comes_to (apply c w) z y ≡ false
  pub unserved : (y : Path) → stirs w c y ≡ true → holds (is_served_by x) (thread_at (apply c w) y) ≡ false
  -- nor does one that connects by a handle that it sets
  pub handles : (y : Path) (h : ℕ) → stage_at w y ≡ Some (Connect h) → repoints w c (h ∷ parent y) ≡ true → comes_to (apply c w) z y ≡ false

-- a change leaves the reason
abbrev pub IsUntouched : World → Change → Path → Reason → Type 0
IsUntouched w c x Resting = names_body w c x ≡ false
IsUntouched w c x (Beneath space) = names_body w c space ≡ false
IsUntouched w c x (Locking m) = (names_body w c x ≡ false) × (names_body w c (m ∷ parent x) ≡ false)
IsUntouched w c x (Sleeping cond m) = (names_body w c x ≡ false) × (remakes c (cond ∷ parent x) ≡ false) × (remakes c (m ∷ parent x) ≡ false)
IsUntouched w c x (Connecting h port) = (names_body w c x ≡ false) × (repoints w c (h ∷ parent x) ≡ false) × (remakes c port ≡ false)
IsUntouched w c x (Receiving side into room reference far client) =
    (names_body w c x ≡ false) × (stirs w c (talk_place side x client) ≡ false) × LeavesPage w c (parent x) into far × LeavesHandle c (parent x) reference
IsUntouched w c x (Passing side reference client end) =
    (names_body w c x ≡ false) × (stirs w c (talk_place side x client) ≡ false) × LeavesEnd w c end × LeavesHandle c (parent x) reference
IsUntouched w c x (Sending side address count far client end) =
    (names_body w c x ≡ false) × (stirs w c (talk_place side x client) ≡ false) × LeavesEnd w c end × LeavesPage w c (parent x) address far
IsUntouched w c x (Lacking side address count far client y into room) =
    (names_body w c x ≡ false) × (stirs w c (talk_place side x client) ≡ false) × (names_body w c y ≡ false) × LeavesPage w c (parent x) address far
    × LeavesMemory w c
IsUntouched w c x (Ending y space) = (names_body w c x ≡ false) × (stirs w c y ≡ false) × (names_body w c space ≡ false)
IsUntouched w c me (Holding s x space) =
    (names_body w c me ≡ false) × LeavesPlace w c me s space × (names_body w c (x ∷ space) ≡ false)
    × ((q : Path) → is_within q space ≡ true → reholds w c q ≡ false)
IsUntouched w c x (Waiting set) = (names_body w c x ≡ false) × (names_body w c (set ∷ parent x) ≡ false) × BringsNobody w c x (set ∷ parent x)
IsUntouched w c x (WaitingOut set) =
    (names_body w c x ≡ false) × (names_body w c (set ∷ parent x) ≡ false) × BringsNobody w c x (set ∷ parent x)
    × ((space : Path) → is_held w space ≡ true → names_body w c space ≡ false)
IsUntouched w c x Barred = ⊥

-- and a list of changes does, each in the world in which it is made
abbrev pub AreUntouched : World → List Change → Path → Reason → Type 0
AreUntouched w [] x r = Unit {0}
AreUntouched w (c ∷ cs) x r = IsUntouched w c x r × AreUntouched (apply c w) cs x r
