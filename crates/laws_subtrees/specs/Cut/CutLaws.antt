-- The law of the cut: what a move of the world does to a plain subtree is what the subtree, seen alone, does by the move
-- as which it is seen.
use Rattle.std.specs.Prelude.{◌≡◌, ℕ, Bool, true, false, not, ◌&&◌, List, [], ◌∷◌, Option, Some}
use Rattle.fk_model.specs.declared.moves.Ask.TheVariants as asks
use Rattle.fk_model.specs.declared.stage.Stage.{Stage}
use Rattle.fk_model.specs.declared.stage.Stage.TheVariants.{Create, Destroy, Rename, Search, Point, Clear, Locate, CountIn, GetState, SetState, GetPtr, SetPtr}
use Rattle.fk_model.specs.declared.stage.Stage.TheVariants.{ClientOverRef}
use Rattle.fk_model.specs.declared.stage.Stage.TheVariants.{SpaceHold, SpaceRelease, ThreadStop, ThreadGo, PageGive, PageTake, PageRead, PageNext, MutexLock}
use Rattle.fk_model.specs.declared.stage.Stage.TheVariants.{ClientReceiveRef}
use Rattle.fk_model.specs.declared.stage.Stage.TheVariants.{MutexTrylock, MutexUnlock, CondWait, CondAsleep, CondSignal, CondBroadcast, Connect, ClientReceive}
use Rattle.fk_model.specs.declared.stage.Stage.TheVariants.{ServerOverRef}
use Rattle.fk_model.specs.declared.stage.Stage.TheVariants.{ClientSend, ClientOver, Disconnect, Wait, ServerReceive, ServerSend, ServerOver, ServerEnd}
use Rattle.fk_model.specs.declared.stage.Stage.TheVariants.{ServerReceiveRef}
use Rattle.fk_model.specs.declared.stage.Stage.TheVariants.{FaultDone, LinkSet, LinkPark, FaultSet, FaultPark, HoldSet, SpaceMakeHeld}
use Rattle.fk_model.specs.Places.{Path, is_within}
use Rattle.fk_model.specs.Objects.{Thread, thread_of, and_then}
use Rattle.fk_model.specs.Objects.Mode.{Running, Calling}
use Rattle.fk_model.specs.World.{World}
use Rattle.fk_model.specs.Moves.{is_for_porters, is_for_users, IsReady}
use Rattle.fk_model.specs.Valid.{is_fit}
use Rattle.fk_model.specs.Whole.{IsWhole}
use Rattle.fk_model.specs.Runs.{Event, after}
use Rattle.fk_model.specs.Cut.{cut, IsPlain}
use Rattle.fk_model.specs.Further.{Onward, Told, IsOnward, IsFurther}
use Rattle.fk_model.specs.Seen.{Seen, IsSeen}
use Rattle.fk_model.specs.Seen.Seen.{Onwards, Unseen, Other}

-- what a move that is seen so does to a subtree. An unseen one leaves the cut as it was, by what unseen means
abbrev pub HasDone : World → Path → ℕ → Event → Seen → Type 0
HasDone w nester slot e (Onwards m) = IsPlain (after w e) nester slot × ((told : List Told) × IsOnward (cut w nester slot) m told (cut (after w e) nester slot))
HasDone w nester slot e Unseen = IsPlain (after w e) nester slot
HasDone w nester slot e Other = Unit {0}

-- the law, for one event
abbrev pub KeepsCut : World → Path → ℕ → Event → Type 0
KeepsCut w nester slot e =
    IsWhole w → IsPlain w nester slot →
    is_fit w e.mover e.ask ≡ true → IsReady w e.mover e.pick e.ask → (seen : Seen) → IsSeen w nester slot e seen → HasDone w nester slot e seen

-- ---- the kinds of move for which it is proved

-- a thread moves that stands at x and is at this stage
abbrev pub IsAtStage : World → Path → Stage → Type 0
IsAtStage w x stage = (t : Thread) × (todo : List Stage) × (rest : List ℕ) × (and_then thread_of (w.body x) ≡ Some t) × (t.mode ≡ Calling (stage ∷ todo) rest)

abbrev pub moves : Path → Option Path → Event
moves x pick = record { mover = x; pick = pick; ask = asks.Run }

-- the law for every move of a user thread at such a stage, inside the subtree or outside
abbrev pub StageKeepsCut : (Stage → Type 0) → Type 0
StageKeepsCut IsSuch = (w : World) (nester : Path) (slot : ℕ) (x : Path) (pick : Option Path) (stage : Stage) →
    IsSuch stage → IsAtStage w x stage → KeepsCut w nester slot (moves x pick)

-- the law for every move of a user thread inside the subtree that is at such a stage
abbrev pub StageInsideKeepsCut : (Stage → Type 0) → Type 0
StageInsideKeepsCut IsSuch = (w : World) (nester : Path) (slot : ℕ) (x : Path) (pick : Option Path) (stage : Stage) →
    IsSuch stage → is_within (slot ∷ nester) x ≡ true → IsAtStage w x stage → KeepsCut w nester slot (moves x pick)

-- the law for every move of a user thread outside the subtree that is at such a stage
abbrev pub StageOutsideKeepsCut : (Stage → Type 0) → Type 0
StageOutsideKeepsCut IsSuch = (w : World) (nester : Path) (slot : ℕ) (x : Path) (pick : Option Path) (stage : Stage) →
    IsSuch stage → is_within (slot ∷ nester) x ≡ false → IsAtStage w x stage → KeepsCut w nester slot (moves x pick)

-- ---- which stages are meant

-- of these stages nothing is seen from outside, and they pick nobody: each changes what lies in the caller's reach, or waits
abbrev pub is_hidden_stage : Stage → Bool
is_hidden_stage (Create s x kind) = true
is_hidden_stage (Destroy s x) = false
is_hidden_stage (Rename s x y) = false
is_hidden_stage (Search s from) = true
is_hidden_stage (Point s x s2 x2) = true
is_hidden_stage (Clear s x) = true
is_hidden_stage (Locate reference s) = true
is_hidden_stage (CountIn base s x) = false
is_hidden_stage (GetState s x address) = true
is_hidden_stage (SetState s x address) = true
is_hidden_stage (GetPtr s x field reference) = true
is_hidden_stage (SetPtr s x field reference) = true
is_hidden_stage (SpaceHold s x) = true
is_hidden_stage (SpaceRelease s x) = true
is_hidden_stage (ThreadStop h) = true
is_hidden_stage (ThreadGo h) = true
is_hidden_stage (PageGive s page address) = false
is_hidden_stage (PageTake s page address) = false
is_hidden_stage (PageRead s page address) = true
is_hidden_stage (PageNext s from) = true
is_hidden_stage (MutexLock m) = true
is_hidden_stage (MutexTrylock m) = true
is_hidden_stage (MutexUnlock m) = true
is_hidden_stage (CondWait c m) = true
is_hidden_stage (CondAsleep c m) = true
is_hidden_stage (CondSignal c) = false
is_hidden_stage (CondBroadcast c) = true
is_hidden_stage (Connect h) = true
is_hidden_stage (ClientReceive into room) = true
is_hidden_stage (ClientSend address count) = false
is_hidden_stage ClientOver = false
is_hidden_stage Disconnect = false
is_hidden_stage (ClientOverRef reference) = false
is_hidden_stage (ClientReceiveRef into room reference) = true
is_hidden_stage (Wait set) = false
is_hidden_stage (ServerReceive into room) = false
is_hidden_stage (ServerSend address count) = false
is_hidden_stage ServerOver = false
is_hidden_stage ServerEnd = false
is_hidden_stage FaultDone = false
is_hidden_stage (ServerOverRef reference) = false
is_hidden_stage (ServerReceiveRef into room reference) = false
is_hidden_stage (LinkSet s x port server) = false
is_hidden_stage (LinkPark s x port) = false
is_hidden_stage (FaultSet s x port taker) = false
is_hidden_stage (FaultPark s x port taken) = false
is_hidden_stage (HoldSet s x thread) = false
is_hidden_stage (SpaceMakeHeld x) = false

-- a stage of which nothing is seen from outside
abbrev pub IsPlainStage : Stage → Type 0
IsPlainStage stage = is_hidden_stage stage ≡ true

-- those that a user, or a porter, is denied
abbrev pub IsForPorters : Stage → Type 0
IsForPorters stage = is_for_porters stage ≡ true

-- a stage that a porter is denied
abbrev pub IsForUsers : Stage → Type 0
IsForUsers stage = is_for_users stage ≡ true

-- a porter's stages that name a server, and its other own ones
abbrev pub names_server : Stage → Bool
names_server (LinkSet s x port server) = true
names_server (FaultSet s x port taker) = true
names_server other = false

-- a porter's stage that makes a talk or a fault again with its server
abbrev pub IsServerNamed : Stage → Type 0
IsServerNamed stage = names_server stage ≡ true

-- another of a porter's own stages, which names no server
abbrev pub IsServerless : Stage → Type 0
IsServerless stage = (is_for_porters stage && not (names_server stage)) ≡ true

-- a server receives
abbrev pub IsServerReceive : Stage → Type 0
IsServerReceive stage = (into : ℕ) × (room : ℕ) × (stage ≡ ServerReceive into room)

abbrev pub IsServerReceiveRef : Stage → Type 0
IsServerReceiveRef stage = (into : ℕ) × (room : ℕ) × (reference : ℕ) × (stage ≡ ServerReceiveRef into room reference)

-- a page is taken from a space
abbrev pub IsPageTake : Stage → Type 0
IsPageTake stage = (s : ℕ) × (page : ℕ) × (address : ℕ) × (stage ≡ PageTake s page address)

-- a page is given to a space
abbrev pub IsPageGive : Stage → Type 0
IsPageGive stage = (s : ℕ) × (page : ℕ) × (address : ℕ) × (stage ≡ PageGive s page address)

-- a condition is signalled
abbrev pub IsSignal : Stage → Type 0
IsSignal stage = (cond : ℕ) × (stage ≡ CondSignal cond)

-- a fault that was taken is ended
abbrev pub IsFaultDone : Stage → Type 0
IsFaultDone stage = stage ≡ FaultDone

-- an object gets another slot
abbrev pub IsRename : Stage → Type 0
IsRename stage = (s : ℕ) × (x : ℕ) × (y : ℕ) × (stage ≡ Rename s x y)

-- an object is destroyed
abbrev pub IsDestroy : Stage → Type 0
IsDestroy stage = (s : ℕ) × (x : ℕ) × (stage ≡ Destroy s x)

-- ---- instructions

-- a running thread stands at x
abbrev pub IsRunning : World → Path → Type 0
IsRunning w x = (t : Thread) × (g : List ℕ) × (and_then thread_of (w.body x) ≡ Some t) × (t.mode ≡ Running g)

-- the law for every instruction of a user thread, also for one that stores through a mapping
abbrev pub InstructionKeepsCut : Type 0
InstructionKeepsCut = (w : World) (nester : Path) (slot : ℕ) (x : Path) (pick : Option Path) → IsRunning w x → KeepsCut w nester slot (moves x pick)

-- ---- native servers

-- the law for every accept of a native server
abbrev pub AcceptKeepsCut : Type 0
AcceptKeepsCut = (w : World) (nester : Path) (slot : ℕ) (port : Path) (pick : Option Path) →
    KeepsCut w nester slot (record { mover = port; pick = pick; ask = asks.Accept })

-- ---- messages

-- a server sends words
abbrev pub IsServerSend : Stage → Type 0
IsServerSend stage = (address : ℕ) × (count : ℕ) × (stage ≡ ServerSend address count)

-- a client sends words
abbrev pub IsClientSend : Stage → Type 0
IsClientSend stage = (address : ℕ) × (count : ℕ) × (stage ≡ ClientSend address count)

-- a server hands its client the turn
abbrev pub IsServerOver : Stage → Type 0
IsServerOver stage = stage ≡ ServerOver

-- a client hands its peer the turn
abbrev pub IsClientOver : Stage → Type 0
IsClientOver stage = stage ≡ ClientOver

abbrev pub IsServerOverRef : Stage → Type 0
IsServerOverRef stage = (reference : ℕ) × (stage ≡ ServerOverRef reference)

abbrev pub IsClientOverRef : Stage → Type 0
IsClientOverRef stage = (reference : ℕ) × (stage ≡ ClientOverRef reference)

-- the law for every give of a native server
abbrev pub GiveKeepsCut : Type 0
GiveKeepsCut = (w : World) (nester : Path) (slot : ℕ) (port : Path) (pick : Option Path) (words : List ℕ) (len : ℕ) →
    KeepsCut w nester slot (record { mover = port; pick = pick; ask = asks.Give words len })

-- the law for every Over of a native server
abbrev pub OverKeepsCut : Type 0
OverKeepsCut = (w : World) (nester : Path) (slot : ℕ) (port : Path) (pick : Option Path) →
    KeepsCut w nester slot (record { mover = port; pick = pick; ask = asks.Over })

-- ---- ends

-- a client ends its talk
abbrev pub IsDisconnect : Stage → Type 0
IsDisconnect stage = stage ≡ Disconnect

-- a server ends the talk of its client
abbrev pub IsServerEnd : Stage → Type 0
IsServerEnd stage = stage ≡ ServerEnd

-- ---- waits

-- a thread waits at a port set
abbrev pub IsWait : Stage → Type 0
IsWait stage = (set : ℕ) × (stage ≡ Wait set)

-- the law for every call of a porter with such a stage. There is no porter in a plain subtree, so it stands outside
abbrev pub CallKeepsCut : (Stage → Type 0) → Type 0
CallKeepsCut IsSuch =
    (w : World) (nester : Path) (slot : ℕ) (x : Path) (pick : Option Path) (stage : Stage) (words : List ℕ) →
    IsSuch stage → KeepsCut w nester slot (record { mover = x; pick = pick; ask = asks.Call stage words })

-- ---- all of them

-- the law for every move that is made inside, by whomever
abbrev pub InsideKeepsCut : Type 0
InsideKeepsCut = (w : World) (nester : Path) (slot : ℕ) (e : Event) → is_within (slot ∷ nester) e.mover ≡ true → KeepsCut w nester slot e

-- the law for every move that the world makes
abbrev pub EventKeepsCut : Type 0
EventKeepsCut = (w : World) (nester : Path) (slot : ℕ) (e : Event) → KeepsCut w nester slot e

-- ---- lists of moves

-- moves of the world one after the other, each fit and ready in a whole world, and the moves as which a subtree sees them
pub data IsWatched (nester : Path) (slot : ℕ) : World → List Onward → World → Type 0 where
  Ends : (w : World) → IsWatched nester slot w [] w
  Sees : (w later : World) (e : Event) (m : Onward) (ms : List Onward) → IsWhole w → is_fit w e.mover e.ask ≡ true → IsReady w e.mover e.pick e.ask →
      IsSeen w nester slot e (Onwards m) → IsWatched nester slot (after w e) ms later → IsWatched nester slot w (m ∷ ms) later
  Misses : (w later : World) (e : Event) (ms : List Onward) → IsWhole w → is_fit w e.mover e.ask ≡ true → IsReady w e.mover e.pick e.ask →
      IsSeen w nester slot e Unseen → IsWatched nester slot (after w e) ms later → IsWatched nester slot w ms later

-- whatever the world does, where no move is seen as other: the subtree, seen alone, does the moves as which these are seen
abbrev pub RunKeepsCut : Type 0
RunKeepsCut = (w later : World) (nester : Path) (slot : ℕ) (ms : List Onward) → IsWatched nester slot w ms later → IsPlain w nester slot →
    IsPlain later nester slot × ((told : List Told) × IsFurther (cut w nester slot) ms told (cut later nester slot))
