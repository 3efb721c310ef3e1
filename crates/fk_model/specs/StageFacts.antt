-- What there is to know of a stage besides its row: one line a stage. All tables of facts about calls are read from it.
use Rattle.std.specs.Prelude.{ℕ, Bool, true, false, Option, Some, None}
use Rattle.fk_model.specs.declared.call.TheConstants.{CREATE, DESTROY, RENAME, SEARCH, POINT, CLEAR, LOCATE, COUNT_IN, GET_STATE, SET_STATE, GET_PTR, SET_PTR}
use Rattle.fk_model.specs.declared.call.TheConstants.{SPACE_HOLD, SPACE_RELEASE, THREAD_STOP, THREAD_GO, PAGE_GIVE, PAGE_TAKE, PAGE_READ, PAGE_NEXT, MUTEX_LOCK}
use Rattle.fk_model.specs.declared.call.TheConstants.{MUTEX_TRYLOCK, MUTEX_UNLOCK, COND_WAIT, COND_ASLEEP, COND_SIGNAL, COND_BROADCAST, CONNECT, CLIENT_RECEIVE}
use Rattle.fk_model.specs.declared.call.TheConstants.{CLIENT_SEND, CLIENT_OVER, DISCONNECT, CLIENT_OVER_REF, CLIENT_RECEIVE_REF, WAIT, SERVER_RECEIVE}
use Rattle.fk_model.specs.declared.call.TheConstants.{SERVER_SEND, SERVER_OVER, SERVER_END, FAULT_DONE, SERVER_OVER_REF, SERVER_RECEIVE_REF, LINK_SET}
use Rattle.fk_model.specs.declared.call.TheConstants.{LINK_PARK, FAULT_SET, FAULT_PARK, HOLD_SET, SPACE_MAKE_HELD}
use Rattle.fk_model.specs.declared.stage.Stage.{Stage}
use Rattle.fk_model.specs.declared.stage.Stage.TheVariants.{Create, Destroy, Rename, Search, Point, Clear, Locate, CountIn, GetState, SetState, GetPtr, SetPtr}
use Rattle.fk_model.specs.declared.stage.Stage.TheVariants.{SpaceHold, SpaceRelease, ThreadStop, ThreadGo, PageGive, PageTake, PageRead, PageNext, MutexLock}
use Rattle.fk_model.specs.declared.stage.Stage.TheVariants.{MutexTrylock, MutexUnlock, CondWait, CondAsleep, CondSignal, CondBroadcast, Connect, ClientReceive}
use Rattle.fk_model.specs.declared.stage.Stage.TheVariants.{ClientSend, ClientOver, Disconnect, ClientOverRef, ClientReceiveRef, Wait, ServerReceive}
use Rattle.fk_model.specs.declared.stage.Stage.TheVariants.{ServerSend, ServerOver, ServerEnd, FaultDone, ServerOverRef, ServerReceiveRef, LinkSet, LinkPark}
use Rattle.fk_model.specs.declared.stage.Stage.TheVariants.{FaultSet, FaultPark, HoldSet, SpaceMakeHeld}
use Rattle.fk_model.specs.declared.thread.Turn.{Turn}
use Rattle.fk_model.specs.declared.thread.Turn.TheVariants as turns

-- who may make it
pub data Maker : Type 0 where
  Anybody : Maker
  Users : Maker
  Porters : Maker

-- what it makes, for which memory is taken
pub data Made : Type 0 where
  Makes_nothing : Made
  An_object : Made
  A_page : Made

-- what a porter builds again by it, of a subtree that was saved
pub data Rebuilt : Type 0 where
  Rebuilds_nothing : Rebuilt
  A_talk : Rebuilt
  A_fault : Rebuilt
  A_hold : Rebuilt
  A_space : Rebuilt

-- which users may learn or change by it what pages are home: whoever makes it, or those of the root alone
pub data Peeking : Type 0 where
  Nobody_peeks : Peeking
  Everybody_peeks : Peeking
  Roots_peek : Peeking

pub record Facts : Type 0 where
  -- the code of the call that has this stage alone
  pub code : ℕ
  pub who : Maker
  -- the side of a talk on which it sends, hands over or receives, with a reference or without
  pub side : Option Turn
  -- its row can come to a wait
  pub waits : Bool
  -- it chooses a thread
  pub picks : Bool
  -- a thread in the call that has this stage alone waits for nobody while nothing is held
  pub acts : Bool
  pub makes : Made
  pub rebuilds : Rebuilt
  pub peeks : Peeking

-- a stage of users and porters
abbrev pub of_anybody : (code : ℕ) (waits picks acts : Bool) → Made → Peeking → Facts
of_anybody code waits picks acts makes peeks = record {
  code = code;
  who = Anybody;
  side = None;
  waits = waits;
  picks = picks;
  acts = acts;
  makes = makes;
  rebuilds = Rebuilds_nothing;
  peeks = peeks;
}

-- one of users alone
abbrev pub of_users : (code : ℕ) (side : Option Turn) (waits picks acts : Bool) → Facts
of_users code side waits picks acts = record {
  code = code;
  who = Users;
  side = side;
  waits = waits;
  picks = picks;
  acts = acts;
  makes = Makes_nothing;
  rebuilds = Rebuilds_nothing;
  peeks = Nobody_peeks;
}

-- one of porters alone
abbrev pub of_porters : (code : ℕ) (acts : Bool) → Made → Rebuilt → Facts
of_porters code acts makes rebuilds = record {
  code = code;
  who = Porters;
  side = None;
  waits = false;
  picks = false;
  acts = acts;
  makes = makes;
  rebuilds = rebuilds;
  peeks = Nobody_peeks;
}

abbrev pub facts_of : Stage → Facts
-- of anybody: whether it waits, picks, acts, what it makes, who peeks by it
facts_of (Create s x kind) = of_anybody CREATE false false true An_object Everybody_peeks
facts_of (Destroy s x) = of_anybody DESTROY false false true Makes_nothing Everybody_peeks
facts_of (Rename s x y) = of_anybody RENAME false false true Makes_nothing Everybody_peeks
facts_of (Search s from) = of_anybody SEARCH false false true Makes_nothing Nobody_peeks
facts_of (Point s x s2 x2) = of_anybody POINT false false true Makes_nothing Nobody_peeks
facts_of (Clear s x) = of_anybody CLEAR false false true Makes_nothing Nobody_peeks
facts_of (Locate reference s) = of_anybody LOCATE false false true Makes_nothing Nobody_peeks
facts_of (GetState s x address) = of_anybody GET_STATE false false true Makes_nothing Everybody_peeks
facts_of (SetState s x address) = of_anybody SET_STATE false false true Makes_nothing Everybody_peeks
facts_of (GetPtr s x field reference) = of_anybody GET_PTR false false true Makes_nothing Everybody_peeks
facts_of (SetPtr s x field reference) = of_anybody SET_PTR false false true Makes_nothing Everybody_peeks
facts_of (SpaceHold s x) = of_anybody SPACE_HOLD true false false Makes_nothing Everybody_peeks
facts_of (SpaceRelease s x) = of_anybody SPACE_RELEASE false false true Makes_nothing Everybody_peeks
facts_of (ThreadStop h) = of_anybody THREAD_STOP false false true Makes_nothing Nobody_peeks
facts_of (ThreadGo h) = of_anybody THREAD_GO false false true Makes_nothing Nobody_peeks
facts_of (PageGive s page address) = of_anybody PAGE_GIVE false false true A_page Everybody_peeks
facts_of (PageTake s page address) = of_anybody PAGE_TAKE false false true Makes_nothing Everybody_peeks
facts_of (PageRead s page address) = of_anybody PAGE_READ false false true Makes_nothing Everybody_peeks
facts_of (PageNext s from) = of_anybody PAGE_NEXT false false true Makes_nothing Everybody_peeks
facts_of (Wait set) = of_anybody WAIT true true false Makes_nothing Roots_peek
facts_of FaultDone = of_anybody FAULT_DONE true false false Makes_nothing Nobody_peeks
-- of users alone: the side of a talk, whether it waits, picks, acts
facts_of (MutexLock m) = of_users MUTEX_LOCK None true false false
facts_of (MutexTrylock m) = of_users MUTEX_TRYLOCK None false false true
facts_of (MutexUnlock m) = of_users MUTEX_UNLOCK None false false true
facts_of (CondWait c m) = of_users COND_WAIT None false false false
facts_of (CondAsleep c m) = of_users COND_ASLEEP None true false false
facts_of (CondSignal c) = of_users COND_SIGNAL None true true false
facts_of (CondBroadcast c) = of_users COND_BROADCAST None false false false
facts_of (Connect h) = of_users CONNECT None true false false
facts_of (ClientReceive into room) = of_users CLIENT_RECEIVE (Some turns.Client) true false false
facts_of (ClientSend address count) = of_users CLIENT_SEND (Some turns.Client) true false false
facts_of ClientOver = of_users CLIENT_OVER (Some turns.Client) true false false
facts_of Disconnect = of_users DISCONNECT None false false true
facts_of (ClientOverRef reference) = of_users CLIENT_OVER_REF (Some turns.Client) true false false
facts_of (ClientReceiveRef into room reference) = of_users CLIENT_RECEIVE_REF (Some turns.Client) true false false
facts_of (ServerReceive into room) = of_users SERVER_RECEIVE (Some turns.Server) true false false
facts_of (ServerSend address count) = of_users SERVER_SEND (Some turns.Server) true false false
facts_of ServerOver = of_users SERVER_OVER (Some turns.Server) true false false
facts_of ServerEnd = of_users SERVER_END None false false false
facts_of (ServerOverRef reference) = of_users SERVER_OVER_REF (Some turns.Server) true false false
facts_of (ServerReceiveRef into room reference) = of_users SERVER_RECEIVE_REF (Some turns.Server) true false false
-- of porters alone: whether it acts, what it makes, what it builds again
facts_of (CountIn base s x) = of_porters COUNT_IN true Makes_nothing Rebuilds_nothing
facts_of (LinkSet s x port server) = of_porters LINK_SET false Makes_nothing A_talk
facts_of (LinkPark s x port) = of_porters LINK_PARK false Makes_nothing A_talk
facts_of (FaultSet s x port taker) = of_porters FAULT_SET false Makes_nothing A_fault
facts_of (FaultPark s x port taken) = of_porters FAULT_PARK false Makes_nothing A_fault
facts_of (HoldSet s x thread) = of_porters HOLD_SET false Makes_nothing A_hold
facts_of (SpaceMakeHeld x) = of_porters SPACE_MAKE_HELD false An_object A_space

abbrev pub is_porters_alone : Maker → Bool
is_porters_alone Porters = true
is_porters_alone Users = false
is_porters_alone Anybody = false

abbrev pub is_users_alone : Maker → Bool
is_users_alone Users = true
is_users_alone Porters = false
is_users_alone Anybody = false
