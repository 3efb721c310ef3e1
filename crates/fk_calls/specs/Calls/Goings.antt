-- Goings: what came of one look at a thread, and what it is at then.
use Rattle.std.specs.Prelude.{◌≡◌, ◌&&◌, ℕ, Bool, true, false, is_some, List, [], ◌∷◌, Option, Some, None, if◌then◌else◌, ⊤}
use Rattle.fk_model.specs.declared.moves.Ask.TheVariants as asks
use Rattle.fk_model.specs.declared.moves.Move.{Move}
use Rattle.fk_model.specs.declared.moves.Said.TheVariants as says
use Rattle.fk_model.specs.declared.names.Who.{Who}
use Rattle.fk_model.specs.declared.stage.Stage.{Stage}
use Rattle.fk_model.specs.declared.stage.Stage.TheVariants.{ClientOver, ClientReceive, ClientSend, CondAsleep, CondWait, Create, MutexLock, MutexTrylock, MutexUnlock}
use Rattle.fk_model.specs.declared.stage.Stage.TheVariants.{ServerOver, ServerReceive, ServerSend}
use Rattle.fk_model.specs.declared.thread.Turn.{Turn}
use Rattle.fk_model.specs.declared.thread.Turn.TheVariants as turns
use Rattle.fk_model.specs.Moves.{IsReady}
use Rattle.fk_model.specs.Holds.{is_user}
use Rattle.fk_model.specs.Objects.{Thread, and_then, holds, mutex_of}
use Rattle.fk_model.specs.Outcomes.{listed}
use Rattle.fk_model.specs.Places.{Path}
use Rattle.fk_model.specs.Searches.{thread_at}
use Rattle.fk_model.specs.Talks.{other_side}
use Rattle.fk_model.specs.World.{World, Change, Edit}
use Rattle.fk_model.specs.World.Change.{Alter, PutPage}
use Rattle.fk_model.specs.World.Edit.{CountMoved, Finish, PassTurn, Replace, SetLocked, Shift}
use Rattle.fk_plans.specs.declared.wakes.touching.Touched.{Touched}
use Rattle.fk_plans.specs.declared.wakes.touching.Touched.TheVariants.{Few}
use Rattle.fk_store.specs.Store.Contents.{Contents}
use Rattle.fk_store.specs.Store.Paths.{path, place}
use Rattle.fk_store.specs.Store.Threads.{todo_at}
use Rattle.fk_store.specs.Store.World.{world}
pub use Rattle.fk_transfer.specs.Lines.{over_on, sending, IsReceiver, Meets}
use Rattle.fk_calls.specs.declared.calls.going.Talked.{Talked}
use Rattle.fk_calls.specs.declared.calls.going.Talked.TheVariants as talkeds
use Rattle.fk_calls.specs.declared.calls.going.Then.{Then}
use Rattle.fk_calls.specs.declared.calls.going.Then.TheVariants as thens
use Rattle.fk_calls.specs.declared.calls.going.Went.{Went}
use Rattle.fk_calls.specs.declared.calls.going.Went.TheVariants as wents
use Rattle.fk_calls.specs.declared.calls.going.What.{What}
use Rattle.fk_calls.specs.declared.calls.going.What.TheVariants as whats
use Rattle.fk_calls.specs.Calls.Judgements.{outcome_of, IsEnded, IsReadyMove, IsStepTo, TellsTouched}
use Rattle.fk_calls.specs.Calls.Runs.{is_under_way_at}

-- a thread's own move, which picks nobody
abbrev pub run_of : Who → Move
run_of who = record { who = who; pick = None }

-- ---- what a stage did

-- the mutex that it set
abbrev pub mutex_by : What → Who
mutex_by (whats.Locks mutex) = mutex
mutex_by (whats.Unlocks mutex) = mutex
mutex_by (whats.Sleeps cond mutex) = mutex

-- and whether it is locked then. It was the other way before
abbrev pub locks_by : What → Bool
locks_by (whats.Locks mutex) = true
locks_by (whats.Unlocks mutex) = false
locks_by (whats.Sleeps cond mutex) = false

abbrev pub was_locked : What → Bool
was_locked (whats.Locks mutex) = false
was_locked (whats.Unlocks mutex) = true
was_locked (whats.Sleeps cond mutex) = true

-- what became of its thread
abbrev pub own_by : What → Edit
own_by (whats.Locks mutex) = Finish []
own_by (whats.Unlocks mutex) = Finish []
own_by (whats.Sleeps cond mutex) = Replace (CondAsleep cond mutex.slot)

-- its changes, in their order
abbrev pub changes_of : (ℕ → Path) → Who → What → List Change
changes_of p who what = Alter (place p (mutex_by what)) (SetLocked (locks_by what)) ∷ Alter (place p who) (own_by what) ∷ []

-- it locks a mutex or unlocks it
abbrev pub is_lock : Stage → Bool
is_lock (CondWait cond m) = true
is_lock (MutexLock m) = true
is_lock (MutexTrylock m) = true
is_lock (MutexUnlock m) = true
is_lock (Create s x kind) = false
is_lock other = false

-- a thread's call has such a stage alone
pub record IsLocking (w : World) (x : Path) : Type 0 where
  pub stage : Stage
  pub alone : todo_at w x ≡ stage ∷ []
  pub lock : is_lock stage ≡ true

-- the row of a thread's stage did this, and found that
pub record HasRow (m : Contents) (who : Who) (what : What) : Type 0 where
  pub begins : IsLocking (world m) (place (path m) who)
  pub changes : listed (outcome_of m (run_of who) asks.Run) ≡ changes_of (path m) who what
  pub found : and_then mutex_of ((world m).body (place (path m) (mutex_by what))) ≡ Some (was_locked what)

-- ---- what a stage did in a talk

abbrev pub is_receive : Turn → Stage → Bool
is_receive turns.Client (ClientReceive into room) = true
is_receive turns.Server (ServerReceive into room) = true
is_receive side other = false

abbrev pub is_over : Turn → Stage → Bool
is_over turns.Client ClientOver = true
is_over turns.Server ServerOver = true
is_over side other = false

-- the Receive of a side
abbrev pub receive_on : Turn → ℕ → ℕ → Stage
receive_on turns.Client into room = ClientReceive into room
receive_on turns.Server into room = ServerReceive into room

-- behind an Over is nothing, or a Receive; behind a Send nothing, or an Over and what is behind that
abbrev pub is_behind_over : Turn → List Stage → Bool
is_behind_over side [] = true
is_behind_over side (stage ∷ []) = is_receive side stage
is_behind_over side (stage ∷ next ∷ todo) = false

abbrev pub is_behind_send : Turn → List Stage → Bool
is_behind_send side [] = true
is_behind_send side (stage ∷ todo) = is_over side stage && is_behind_over side todo

-- so it is in any call
abbrev pub is_orderly : List Stage → Bool
is_orderly (ClientSend address count ∷ todo) = is_behind_send turns.Client todo
is_orderly (ServerSend address count ∷ todo) = is_behind_send turns.Server todo
is_orderly (ClientOver ∷ todo) = is_behind_over turns.Client todo
is_orderly (ServerOver ∷ todo) = is_behind_over turns.Server todo
is_orderly other = true

-- a thread is at this stage, and the rest of its call can be told by its registers' code alone
pub record IsAtOrderly (w : World) (x : Path) (stage : Stage) : Type 0 where
  pub later : List Stage
  pub todo : todo_at w x ≡ stage ∷ later
  pub orderly : is_orderly (stage ∷ later) ≡ true

-- words go to a page that is there, and both ends of a talk have moved so many; with the last of them the sender's stage is done
pub record SendsWords (w : World) (me client receiver : Path) (cs : List Change) : Type 0 where
  pub space : Path
  pub page : ℕ
  pub words : List ℕ
  pub count : ℕ
  pub last : Bool
  pub there : is_some (w.page space page) ≡ true
  pub changes : cs ≡ PutPage space page words ∷ Alter client (CountMoved count) ∷ Alter receiver (Shift count) ∷ Alter me (Shift count)
      ∷ (if last then Alter me (Finish []) ∷ [] else [])

-- the row of a Send did that, to a thread at its Receive
pub record HasSent (m : Contents) (who client receiver : Who) : Type 0 where
  pub side : Turn
  pub address : ℕ
  pub count : ℕ
  pub at : IsAtOrderly (world m) (place (path m) who) (sending side address count)
  pub meets : Meets (world m) (place (path m) who) (place (path m) client) (place (path m) receiver) side
  pub receiving : IsReceiver (world m) (place (path m) receiver) (other_side side)
  pub sends : SendsWords (world m) (place (path m) who) (place (path m) client) (place (path m) receiver) (listed (outcome_of m (run_of who) asks.Run))

-- the row of an Over ended the Receive of a thread, whose turn it is then
pub record HasPassed (m : Contents) (who client receiver : Who) : Type 0 where
  pub side : Turn
  pub at : IsAtOrderly (world m) (place (path m) who) (over_on side)
  pub meets : Meets (world m) (place (path m) who) (place (path m) client) (place (path m) receiver) side
  pub receiving : IsReceiver (world m) (place (path m) receiver) (other_side side)
  pub answers : List ℕ
  pub changes : listed (outcome_of m (run_of who) asks.Run) ≡ Alter (place (path m) receiver) (Finish answers)
      ∷ Alter (place (path m) client) (PassTurn (other_side side)) ∷ Alter (place (path m) who) (Finish []) ∷ []

-- what it touched besides the thread
abbrev pub touched_in : Talked → Touched
touched_in (talkeds.Sends client receiver sender) = Few (Some client) (Some receiver) (Some sender)
touched_in (talkeds.Passes client receiver) = Few (Some receiver) (Some client) None

-- what such a stage has done is what its row says
abbrev pub HasTalkRow : Contents → Who → Talked → Type 0
HasTalkRow m who (talkeds.Sends client receiver sender) = HasSent m who client receiver
HasTalkRow m who (talkeds.Passes client receiver) = HasPassed m who client receiver

-- a thread's stage was made, which did this in a talk
pub record HasTalked (m n : Contents) (who : Who) (by : Talked) : Type 0 where
  pub ready : IsReadyMove m (run_of who) asks.Run
  pub step : IsStepTo m (run_of who) asks.Run n says.Nothing
  pub ended : IsEnded m n None
  pub touched : TellsTouched m (run_of who) asks.Run (touched_in by)
  pub row : HasTalkRow m who by

-- ---- what a look came to

-- a stage was made
abbrev pub was_made : Went → Bool
was_made wents.Not = false
was_made wents.Waits = false
was_made (wents.Made what at) = true
was_made (wents.Talked by) = true

-- so it is with what it did, and what the thread is at then
abbrev pub IfMade : Went → (What → Then → Type 0) → Type 0
IfMade (wents.Made what at) P = P what at
IfMade wents.Not P = ⊤
IfMade wents.Waits P = ⊤
IfMade (wents.Talked by) P = ⊤

-- so it is with what it did in a talk, if it did something there
abbrev pub IfTalked : Went → (Talked → Type 0) → Type 0
IfTalked (wents.Talked by) P = P by
IfTalked wents.Not P = ⊤
IfTalked wents.Waits P = ⊤
IfTalked (wents.Made what at) P = ⊤

-- what it touched besides the thread
abbrev pub touched_by : What → Touched
touched_by what = Few (Some (mutex_by what)) None None

-- a move of the user at a path is ready, whomever it picks
abbrev pub IsAnyReady : World → Path → Type 0
IsAnyReady w x = (pick : Option Path) × IsReady w x pick asks.Run

-- a user's thread sleeps on a condition, and no move of it is ready
pub record IsSleeper (n : Contents) (who : Who) : Type 0 where
  pub user : holds (λ (t : Thread). is_user t.mode) (thread_at (world n) (place (path n) who)) ≡ true
  pub waits : IsAnyReady (world n) (place (path n) who) → ⊥

-- what a thread is at
abbrev pub IsThen : Contents → Who → Then → Type 0
IsThen n who thens.Runs = is_under_way_at n who ≡ true
IsThen n who thens.Asleep = IsSleeper n who

-- a thread's stage was made, which did this, and that is where the thread is then
pub record HasGone (m n : Contents) (who : Who) (what : What) (at : Then) : Type 0 where
  pub ready : IsReadyMove m (run_of who) asks.Run
  pub step : IsStepTo m (run_of who) asks.Run n says.Nothing
  pub ended : IsEnded m n None
  pub touched : TellsTouched m (run_of who) asks.Run (touched_by what)
  pub row : HasRow m who what
  pub at_then : IsThen n who at

-- a look came to this
abbrev pub WentTo : Contents → Contents → Who → Went → Type 0
WentTo m n who wents.Not = n ≡ m
WentTo m n who wents.Waits = (n ≡ m) × (IsAnyReady (world m) (place (path m) who) → ⊥)
WentTo m n who (wents.Made what at) = HasGone m n who what at
WentTo m n who (wents.Talked by) = HasTalked m n who by
