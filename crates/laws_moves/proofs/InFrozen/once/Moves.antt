-- Moves of users and of native servers touch pointers once.
use Rattle.std.proofs.Common.{◌≡◌, ℕ, Bool, true, false, if◌then◌else◌, is_none, [], ◌∷◌, take, Option, Some, None, option_map, refl}
use Rattle.std.proofs.lemmas.Bool.{and_parts}
use Rattle.fk_model.specs.declared.moves.Ask.{Ask}
use Rattle.fk_model.specs.declared.moves.Ask.TheVariants as asks
use Rattle.fk_model.specs.declared.stage.Stage.{Stage}
use Rattle.fk_model.specs.declared.stage.Stage.TheVariants.{Create, Destroy, Rename, Search, Point, Clear, Locate, CountIn, GetState, SetState, GetPtr, SetPtr}
use Rattle.fk_model.specs.declared.stage.Stage.TheVariants.{ClientOverRef}
use Rattle.fk_model.specs.declared.stage.Stage.TheVariants.{SpaceHold, SpaceRelease, ThreadStop, ThreadGo, PageGive, PageTake, PageRead, PageNext, MutexLock}
use Rattle.fk_model.specs.declared.stage.Stage.TheVariants.{ClientReceiveRef}
use Rattle.fk_model.specs.declared.stage.Stage.TheVariants.{MutexTrylock, MutexUnlock, CondWait, CondAsleep, CondSignal, CondBroadcast, Connect, ClientReceive}
use Rattle.fk_model.specs.declared.stage.Stage.TheVariants.{ServerOverRef}
use Rattle.fk_model.specs.declared.stage.Stage.TheVariants.{ClientSend, ClientOver, Disconnect, Wait, ServerReceive, ServerSend, ServerOver, ServerEnd}
use Rattle.fk_model.specs.declared.stage.Stage.TheVariants.{ServerReceiveRef}
use Rattle.fk_model.specs.declared.stage.Stage.TheVariants.{FaultDone, LinkSet, LinkPark, FaultSet, FaultPark, HoldSet, SpaceMakeHeld}
use Rattle.fk_model.specs.declared.statuses.status.TheConstants.{DENIED}
use Rattle.fk_model.specs.declared.thread.Turn.TheVariants as turns
use Rattle.fk_model.specs.Places.{Path, parent}
use Rattle.fk_model.specs.declared.names.Kind.TheVariants as kinds
use Rattle.fk_model.specs.Objects.{Fault, Mode, Thread, Body, kind_of, thread_of, and_then}
use Rattle.fk_model.specs.Objects.Body.{Mutex, Cond, Mapping, Region, Port, Portset, Space, Thread_of, Reference}
use Rattle.fk_model.specs.Valid.{kind_there}
use Rattle.fk_model.specs.Objects.Mode.{Running, Calling}
use Rattle.fk_model.specs.World.{World}
use Rattle.fk_model.specs.Outcomes.{Outcome, Caller, path_of, listed}
use Rattle.fk_model.specs.Outcomes.Outcome.{Refused, Waits, Goes}
use Rattle.fk_model.specs.LinkRows.{user_at}
use Rattle.fk_model.specs.Holds.{is_free}
use Rattle.fk_model.specs.Moves.{stage_row, is_for_users, is_for_porters, allowed_row, chooses, with_pick, closed, call_row, goes_on, user_move, outcome}
use Rattle.laws_moves.specs.Frozen.Users.{is_users}
use Rattle.laws_moves.specs.Frozen.Once.{IsFaultless, TouchOnce, UsersTouchOnce}
use Rattle.laws_moves.proofs.InFrozen.once.Outcomes.{OnceOutcome, refused, waits, goes, once-when}
use Rattle.laws_moves.proofs.InFrozen.once.Rows.{run_row-once, mutex_lock-once, mutex_trylock-once, mutex_unlock-once, cond_wait-once, cond_asleep-once}
use Rattle.laws_moves.proofs.InFrozen.once.Rows.{cond_signal-once, cond_broadcast-once, send-once, receive-once, over-once, receive_ref-once, over_ref-once}
use Rattle.laws_moves.proofs.InFrozen.once.Rows.{thread_stop-once, thread_go-once}
use Rattle.laws_moves.proofs.InFrozen.once.Rows.{page_give-once, page_take-once, page_read-once, page_next-once}
use Rattle.laws_moves.proofs.InFrozen.once.Objects.{create-once, destroy-once, rename-once, point-once, clear-once, search_row-once, locate-once}
use Rattle.laws_moves.proofs.InFrozen.once.Objects.{space_hold-once}
use Rattle.laws_moves.proofs.InFrozen.once.Objects.{space_release-once, get_state-once, set_state-once, get_ptr-once, set_ptr-once, wait-once, connect-once}
use Rattle.laws_moves.proofs.InFrozen.once.Objects.{disconnect-once, fault_done-once, accept_row-once, give_row-once, over_row-once}
use Rattle.fk_model.specs.Objects.Peer.{Server}

-- ---- one stage of a user's call

stage_row-once : (w : World) (c : Caller) (pick : Option Path) (stage : Stage) → IsFaultless w (path_of c) → is_for_porters stage ≡ false →
    OnceOutcome w (stage_row w c pick stage)
stage_row-once w c pick (Create s x kind) clean off = create-once w c s x kind
stage_row-once w c pick (Destroy s x) clean off = destroy-once w c s x
stage_row-once w c pick (Rename s x y) clean off = rename-once w c s x y
stage_row-once w c pick (Search s from) clean off = search_row-once w c s from
stage_row-once w c pick (Point s x s2 x2) clean off = point-once w c s x s2 x2
stage_row-once w c pick (Clear s x) clean off = clear-once w c s x
stage_row-once w c pick (Locate reference s) clean off = locate-once w c reference s
stage_row-once w c pick (CountIn base s x) clean off = cc
stage_row-once w c pick (GetState s x address) clean off = get_state-once w c s x address clean
stage_row-once w c pick (SetState s x address) clean off = set_state-once w c s x address clean
stage_row-once w c pick (GetPtr s x field reference) clean off = get_ptr-once w c s x field reference
stage_row-once w c pick (SetPtr s x field reference) clean off = set_ptr-once w c s x field reference
stage_row-once w c pick (SpaceHold s x) clean off = space_hold-once w c s x
stage_row-once w c pick (SpaceRelease s x) clean off = space_release-once w c s x
stage_row-once w c pick (ThreadStop h) clean off = thread_stop-once w c h
stage_row-once w c pick (ThreadGo h) clean off = thread_go-once w c h
stage_row-once w c pick (PageGive s page address) clean off = page_give-once w c s page address clean
stage_row-once w c pick (PageTake s page address) clean off = page_take-once w c s page address clean
stage_row-once w c pick (PageRead s page address) clean off = page_read-once w c s page address clean
stage_row-once w c pick (PageNext s from) clean off = page_next-once w c s from
stage_row-once w c pick (MutexLock m) clean off = mutex_lock-once w c m
stage_row-once w c pick (MutexTrylock m) clean off = mutex_trylock-once w c m
stage_row-once w c pick (MutexUnlock m) clean off = mutex_unlock-once w c m
stage_row-once w c pick (CondWait cond m) clean off = cond_wait-once w c cond m
stage_row-once w c pick (CondAsleep cond m) clean off = cond_asleep-once w c cond m
stage_row-once w c pick (CondSignal cond) clean off = cond_signal-once w c pick cond
stage_row-once w c pick (CondBroadcast cond) clean off = cond_broadcast-once w c cond
stage_row-once w c pick (Connect h) clean off = connect-once w c h
stage_row-once w c pick (ClientReceive into room) clean off = receive-once w c turns.Client into room clean
stage_row-once w c pick (ClientSend address count) clean off = send-once w c turns.Client address count clean
stage_row-once w c pick ClientOver clean off = over-once w c turns.Client None
stage_row-once w c pick Disconnect clean off = disconnect-once w c turns.Client
stage_row-once w c pick (ClientOverRef reference) clean off = over_ref-once w c turns.Client reference
stage_row-once w c pick (ClientReceiveRef into room reference) clean off = receive_ref-once w c turns.Client into room reference clean
stage_row-once w c pick (Wait set) clean off = wait-once w c pick set
stage_row-once w c pick (ServerReceive into room) clean off = receive-once w c turns.Server into room clean
stage_row-once w c pick (ServerSend address count) clean off = send-once w c turns.Server address count clean
stage_row-once w c pick ServerOver clean off = over-once w c turns.Server None
stage_row-once w c pick ServerEnd clean off = disconnect-once w c turns.Server
stage_row-once w c pick FaultDone clean off = fault_done-once w c
stage_row-once w c pick (ServerOverRef reference) clean off = over_ref-once w c turns.Server reference
stage_row-once w c pick (ServerReceiveRef into room reference) clean off = receive_ref-once w c turns.Server into room reference clean
stage_row-once w c pick (LinkSet s x port server) clean off = cc
stage_row-once w c pick (LinkPark s x port) clean off = cc
stage_row-once w c pick (FaultSet s x port taker) clean off = cc
stage_row-once w c pick (FaultPark s x port taken) clean off = cc
stage_row-once w c pick (HoldSet s x thread) clean off = cc
stage_row-once w c pick (SpaceMakeHeld x) clean off = cc

with_pick-once : (w : World) (chosen : Bool) (pick : Option Path) (o : Outcome) → OnceOutcome w o → OnceOutcome w (with_pick chosen pick o)
with_pick-once w chosen pick (Refused status) once = search once-when
with_pick-once w chosen pick Waits once = waits
with_pick-once w chosen pick (Goes changes said) once = search once-when

pub closed-once : (w : World) (c : Caller) (o : Outcome) → OnceOutcome w o → OnceOutcome w (closed c o)
closed-once w c (Refused status) once = by c.is_porter
  where
    by : (porter : Bool) → OnceOutcome w (closed (record c { is_porter = porter }) (Refused status))
    by true = goes tt
    by false = goes tt
closed-once w c Waits once = waits
closed-once w c (Goes changes said) once = once

allowed_row-once : (w : World) (c : Caller) (pick : Option Path) (stage : Stage) → c.is_porter ≡ false → IsFaultless w (path_of c) →
    OnceOutcome w (allowed_row w c pick stage)
allowed_row-once w c pick stage user clean = by c.is_porter user (is_for_porters stage) refl
  where
    by : (p : Bool) → p ≡ false → (t : Bool) → is_for_porters stage ≡ t →
        OnceOutcome w (if (if p then is_for_users stage else t) then Refused DENIED else stage_row w c pick stage)
    by true e t f = cc
    by false e true f = refused
    by false e false f = stage_row-once w c pick stage clean f

call_row-once : (w : World) (c : Caller) (pick : Option Path) (stage : Stage) → c.is_porter ≡ false → IsFaultless w (path_of c) →
    OnceOutcome w (call_row w c pick stage)
unfolding call_row
call_row-once w c pick stage user clean =
    closed-once w c _ (with_pick-once w (chooses stage) pick (allowed_row w c pick stage) (allowed_row-once w c pick stage user clean))

-- ---- who moves

-- a free thread has no fault
pub free-faultless : (w : World) (x : Path) (t : Thread) → and_then thread_of (w.body x) ≡ Some t → is_free w (parent x) t ≡ true → IsFaultless w x
free-faultless w x t there free = record { thread = t; there = there; none = none t.fault (and_parts _ _ (and_parts _ _ free).0).1 }
  where
    none : (o : Option Fault) → is_none o ≡ true → o ≡ None
    none None h = refl
    none (Some fault) h = cc

pub goes_on-once : (w : World) (k : ℕ) (s : Path) (pick : Option Path) (t : Thread) (mode : Mode) → IsFaultless w (k ∷ s) →
    OnceOutcome w (goes_on w (k ∷ s) pick t mode)
goes_on-once w k s pick t (Running g) clean = with_pick-once w false pick _ (run_row-once w s k g t.counter clean)
goes_on-once w k s pick t (Calling (stage ∷ todo) rest) clean = call_row-once w (user_at (k ∷ s)) pick stage refl clean
goes_on-once w k s pick t mode clean = waits

-- the root is no thread
pub rootless : (w : World) (t : Thread) → and_then thread_of (w.body []) ≡ Some t → kind_there w [] ≡ Some kinds.Space → ⊥
unfolding kind_there
rootless w t there root = by (w.body []) there root
  where
    by : (o : Option Body) → and_then thread_of o ≡ Some t → option_map kind_of o ≡ Some kinds.Space → ⊥
    by (Some (Thread_of u)) h g = cc
    by (Some (Mutex locked)) h g = cc
    by (Some Cond) h g = cc
    by (Some (Mapping m)) h g = cc
    by (Some (Region r)) h g = cc
    by (Some (Port set served)) h g = cc
    by (Some Portset) h g = cc
    by (Some (Space birth holder)) h g = cc
    by (Some (Reference to)) h g = cc
    by None h g = cc

pub user_move-once : (w : World) (x : Path) (pick : Option Path) (o : Option Thread) → kind_there w [] ≡ Some kinds.Space →
    and_then thread_of (w.body x) ≡ o → OnceOutcome w (user_move w x pick o)
user_move-once w x pick None root there = waits
user_move-once w [] pick (Some t) root there = absurd (rootless w t there root)
user_move-once w (k ∷ s) pick (Some t) root there =
    once-when w (is_free w s t) (goes_on w (k ∷ s) pick t t.mode) (λ free. goes_on-once w k s pick t t.mode (free-faultless w (k ∷ s) t there free))

outcome-once : (w : World) (x : Path) (pick : Option Path) (ask : Ask) → kind_there w [] ≡ Some kinds.Space → is_users ask ≡ true →
    OnceOutcome w (outcome w x pick ask)
unfolding outcome
outcome-once w x pick asks.Run root is = user_move-once w x pick _ root refl
outcome-once w x pick (asks.Call stage words) root is = cc
outcome-once w x pick asks.Accept root is = accept_row-once w x pick
outcome-once w x pick (asks.Give words len) root is = with_pick-once w false pick _ (give_row-once w x (take len words))
outcome-once w x pick asks.Over root is = with_pick-once w false pick _ (over_row-once w x)

pub listed-once : (w : World) (o : Outcome) → OnceOutcome w o → TouchOnce w (listed o)
listed-once w (Goes changes said) once = once.once
listed-once w (Refused status) once = tt
listed-once w Waits once = tt

pub users_touch_once : UsersTouchOnce
users_touch_once w x pick ask root is = listed-once w (outcome w x pick ask) (outcome-once w x pick ask root is)
