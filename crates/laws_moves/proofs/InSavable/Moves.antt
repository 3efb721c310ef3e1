-- What every move comes to keeps what can be saved, where a porter's call gives what it owes.
use Rattle.std.proofs.Common.{◌≡◌, ℕ, ◌+◌, ◌<◌, Bool, true, false, if◌then◌else◌, not, ◌&&◌, ◌||◌, ◌==◌, is_none, length, List, [], ◌∷◌, take, Option, Some}
use Rattle.std.proofs.Common.{None, refl, ap, arith}
use Rattle.std.proofs.lemmas.Bool.{and_parts, eqb-true}
use Rattle.fk_model.specs.declared.limits.TheConstants.{LAST_PORTER_SLOT, PAGE_WORDS, SPACE_WORDS}
use Rattle.fk_model.specs.declared.moves.Ask.{Ask}
use Rattle.fk_model.specs.declared.moves.Ask.TheVariants as asks
use Rattle.fk_model.specs.declared.stage.Stage.{Stage}
use Rattle.fk_model.specs.declared.stage.Stage.TheVariants.{Create, Destroy, Rename, Search, Point, Clear, Locate, CountIn, GetState, SetState, GetPtr, SetPtr}
use Rattle.fk_model.specs.declared.stage.Stage.TheVariants.{ClientOverRef}
use Rattle.fk_model.specs.declared.stage.Stage.TheVariants.{SpaceHold, SpaceRelease, ThreadStop, ThreadGo, PageGive, PageTake, PageRead, PageNext, MutexLock}
use Rattle.fk_model.specs.declared.stage.Stage.TheVariants.{ClientReceiveRef}
use Rattle.fk_model.specs.declared.stage.Stage.TheVariants.{MutexTrylock, MutexUnlock, CondWait, CondAsleep, CondSignal, CondBroadcast, Connect, ClientReceive}
use Rattle.fk_model.specs.declared.stage.Stage.TheVariants.{ServerOverRef}
use Rattle.fk_model.specs.declared.stage.Stage.TheVariants.{ClientSend, ClientOver, Disconnect, Wait, ServerReceive, ServerSend, ServerOver, ServerEnd}
use Rattle.fk_model.specs.declared.stage.Stage.TheVariants.{ServerReceiveRef}
use Rattle.fk_model.specs.declared.stage.Stage.TheVariants.{FaultDone, LinkSet, LinkPark, FaultSet, FaultPark, HoldSet, SpaceMakeHeld}
use Rattle.fk_model.specs.declared.statuses.status.TheConstants.{DENIED}
use Rattle.fk_model.specs.declared.thread.Turn.TheVariants as turns
use Rattle.fk_model.specs.Places.{Path}
use Rattle.fk_model.specs.Objects.{Mode, Thread, Body, thread_of, and_then, holds}
use Rattle.fk_model.specs.Objects.Body.{Thread_of}
use Rattle.fk_model.specs.Objects.Mode.{Running, Calling, Native}
use Rattle.fk_model.specs.World.{World}
use Rattle.fk_model.specs.Holds.{is_free, is_unheld, is_porter}
use Rattle.fk_model.specs.Outcomes.{Outcome, Caller, path_of}
use Rattle.fk_model.specs.Outcomes.Outcome.{Refused, Waits, Goes}
use Rattle.fk_model.specs.LinkRows.{user_at}
use Rattle.fk_model.specs.StateRows.{is_native}
use Rattle.fk_model.specs.Moves.{stage_row, is_for_porters, is_denied, allowed_row, chooses, with_pick, closed, call_row, goes_on, user_move, porter_at}
use Rattle.fk_model.specs.Moves.{porter_move, outcome}
use Rattle.fk_model.specs.Calls.{arguments}
use Rattle.fk_model.specs.Valid.{IsConsistent, IsRooted, are_talk_words, are_fault_words, is_fit_stage, is_fit}
use Rattle.fk_model.specs.Whole.{are_words, HasFullPages, KeepsSlots}
use Rattle.laws_moves.proofs.InMachine.safety.Reads.{IsCaller, kind-there, body-thread_of}
use Rattle.laws_moves.proofs.InMachine.safety.Moves.{thread-caller}
use Rattle.laws_moves.specs.Whole.Runnable.{has_all_words}
use Rattle.laws_moves.specs.Savable.Savable.{OwesStage, OwesAsk}
use Rattle.laws_moves.proofs.InSavable.Words.{AreWords, AreValues, below-word, all-words, words-take, IsNumbered, has_way}
use Rattle.laws_moves.proofs.InSavable.Pages.{PagesHaveWords}
use Rattle.laws_moves.proofs.InSavable.Scratch.{ScratchKept}
use Rattle.laws_moves.proofs.InSavable.Reached.{Memory}
use Rattle.laws_moves.proofs.InSavable.Kept.{AreTidy, is_single, leaves_room, of_thread, KeptOutcome, refused, waits, goes, kept-when, if-kept}
use Rattle.laws_moves.proofs.InSavable.Todos.{is_last_receive, opens, is_wait, opens_first, GoesOn, has_rest}
use Rattle.laws_moves.proofs.InSavable.Standing.{native-last}
use Rattle.laws_moves.proofs.InSavable.Rows.{run_row-kept, mutex_lock-kept, mutex_trylock-kept, mutex_unlock-kept, cond_wait-kept, cond_asleep-kept}
use Rattle.laws_moves.proofs.InSavable.Rows.{cond_signal-kept}
use Rattle.laws_moves.proofs.InSavable.Rows.{cond_broadcast-kept, send-kept, receive-kept, over-kept, receive_ref-kept, over_ref-kept, thread_stop-kept}
use Rattle.laws_moves.proofs.InSavable.Rows.{thread_go-kept, page_give-kept, page_take-kept}
use Rattle.laws_moves.proofs.InSavable.Rows.{page_read-kept, page_next-kept}
use Rattle.laws_moves.proofs.InSavable.Objects.{IsUsersHold, create-kept, destroy-kept, rename-kept, point-kept, clear-kept, search_row-kept, locate-kept}
use Rattle.laws_moves.proofs.InSavable.Objects.{count_in-kept, space_hold-kept, space_release-kept, hold_set-kept, space_make_held-kept, get_state-kept}
use Rattle.laws_moves.proofs.InSavable.Objects.{set_state-kept}
use Rattle.laws_moves.proofs.InSavable.Objects.{get_ptr-kept, set_ptr-kept}
use Rattle.laws_moves.proofs.InSavable.Links.{IsNester, wait-kept, connect-kept, disconnect-kept, fault_done-kept, link_set-kept, link_park-kept}
use Rattle.laws_moves.proofs.InSavable.Links.{fault_set-kept}
use Rattle.laws_moves.proofs.InSavable.Links.{fault_park-kept, accept_row-kept, give_row-kept, over_row-kept}

-- what is known of the world in which a move is judged
pub record Premise (w : World) : Type 0 where
  pub valid : IsConsistent w
  pub rooted : IsRooted w
  pub pages : HasFullPages w
  pub words : PagesHaveWords w
  pub tidy : AreTidy w
  pub stand : KeepsSlots w
  pub scratch : ScratchKept w

-- a porter in its space's last slot gives 64 words in their ranges, and what its call owes
pub record IsGiving (w : World) (c : Caller) (stage : Stage) : Type 0 where
  pub nester : IsNester w c
  pub words : length c.words ≡ PAGE_WORDS
  pub all : AreWords c.words
  pub fit : is_fit_stage w c stage ≡ true
  pub owes : OwesStage w c stage

-- the address from which a stage sends
abbrev pub sends_from : Stage → Option ℕ
sends_from (ClientSend address count) = Some address
sends_from (ServerSend address count) = Some address
sends_from other = None

-- a user is at the stage; a porter gives
pub record IsMaking (w : World) (c : Caller) (stage : Stage) : Type 0 where
  pub caller : IsCaller w c
  pub single : c.is_porter ≡ false → opens stage ≡ false → of_thread is_single (w.body (path_of c)) ≡ true
  pub room : c.is_porter ≡ false → is_wait stage ≡ true → of_thread (leaves_room 2) (w.body (path_of c)) ≡ true
  pub values : c.is_porter ≡ false → AreValues (arguments stage)
  pub way : (address : ℕ) → sends_from stage ≡ Some address → address < SPACE_WORDS → of_thread (has_way 128) (w.body (path_of c)) ≡ true
  pub mine : IsUsersHold w c
  pub giving : c.is_porter ≡ true → IsGiving w c stage
  pub allowed : is_denied c stage ≡ false

module _ (w : World) (premise : Premise w) where
  memory : Memory w
  memory = record { valid = premise.valid; full = premise.pages; words = premise.words }

  -- who makes a stage that is for porters is one
  for-porters : (c : Caller) (stage : Stage) → is_denied c stage ≡ false → is_for_porters stage ≡ true → c.is_porter ≡ true
  for-porters c stage allowed for = by c.is_porter allowed for
    where
      by : (porter : Bool) → is_denied (record c { is_porter = porter }) stage ≡ false → is_for_porters stage ≡ true → porter ≡ true
      by true allowed for = refl
      by false allowed for = cc

  -- and who makes one that is for users is none
  stage_row-kept : (c : Caller) (pick : Option Path) (stage : Stage) → IsMaking w c stage → KeptOutcome w (stage_row w c pick stage)
  stage_row-kept c pick (Create s x kind) m = create-kept w c s x kind (λ e. (m.giving e).owes)
  stage_row-kept c pick (Destroy s x) m = destroy-kept w premise.stand c s x (λ e. (m.giving e).owes)
  stage_row-kept c pick (Rename s x y) m = rename-kept w c s x y (λ e. (m.giving e).owes)
  stage_row-kept c pick (Search s from) m = search_row-kept w c (λ user. m.single user refl) s from
  stage_row-kept c pick (Point s x s2 x2) m = point-kept w c s x s2 x2
  stage_row-kept c pick (Clear s x) m = clear-kept w c s x
  stage_row-kept c pick (Locate reference s) m = locate-kept w premise.valid premise.rooted c (λ user. m.single user refl) reference s
  stage_row-kept c pick (CountIn base s x) m = count_in-kept w c (for-porters c (CountIn base s x) m.allowed refl) base s x
  stage_row-kept c pick (GetState s x address) m = get_state-kept w memory premise.rooted premise.tidy c s x address
  stage_row-kept c pick (SetState s x address) m = set_state-kept w memory c (λ e. (m.giving e).words) (λ e. (m.giving e).all) s x address
  stage_row-kept c pick (GetPtr s x field reference) m = get_ptr-kept w c (λ user. m.single user refl) s x field reference
  stage_row-kept c pick (SetPtr s x field reference) m = set_ptr-kept w c s x field reference
  stage_row-kept c pick (SpaceHold s x) m = space_hold-kept w premise.scratch c m.caller s x
  stage_row-kept c pick (SpaceRelease s x) m = space_release-kept w premise.stand premise.valid premise.scratch c m.mine s x (λ e. (m.giving e).owes)
  stage_row-kept c pick (ThreadStop h) m = thread_stop-kept w c h
  stage_row-kept c pick (ThreadGo h) m = thread_go-kept w premise.tidy c h
  stage_row-kept c pick (PageGive s page address) m = page_give-kept w memory c (λ e. (m.giving e).all) s page address
  stage_row-kept c pick (PageTake s page address) m = page_take-kept w memory c s page address
  stage_row-kept c pick (PageRead s page address) m = page_read-kept w memory c s page address
  stage_row-kept c pick (PageNext s from) m = page_next-kept w c (λ user. m.single user refl) s from
  stage_row-kept c pick (MutexLock mutex) m = mutex_lock-kept w c mutex
  stage_row-kept c pick (MutexTrylock mutex) m = mutex_trylock-kept w c mutex
  stage_row-kept c pick (MutexUnlock mutex) m = mutex_unlock-kept w c mutex
  stage_row-kept c pick (CondWait cond mutex) m = cond_wait-kept w c cond mutex (m.single user refl) (m.values user, tt)
    where
      user : c.is_porter ≡ false
      user = by c.is_porter refl m.allowed
        where
          by : (porter : Bool) → c.is_porter ≡ porter → is_denied (record c { is_porter = porter }) (CondWait cond mutex) ≡ false → porter ≡ false
          by true e allowed = cc
          by false e allowed = refl
  stage_row-kept c pick (CondAsleep cond mutex) m = cond_asleep-kept w c cond mutex
  stage_row-kept c pick (CondSignal cond) m = cond_signal-kept w premise.tidy c pick cond
  stage_row-kept c pick (CondBroadcast cond) m = cond_broadcast-kept w premise.tidy c cond
  stage_row-kept c pick (Connect h) m = connect-kept w c h
  stage_row-kept c pick (ClientReceive into room) m = receive-kept w memory c turns.Client into room
  stage_row-kept c pick (ClientSend address count) m = send-kept w memory c turns.Client address count (m.way address refl)
  stage_row-kept c pick ClientOver m = over-kept w premise.tidy c turns.Client None
  stage_row-kept c pick Disconnect m = disconnect-kept w c turns.Client
  stage_row-kept c pick (ClientOverRef reference) m = over_ref-kept w premise.tidy c turns.Client reference
  stage_row-kept c pick (ClientReceiveRef into room reference) m = receive_ref-kept w memory c turns.Client into room reference
  stage_row-kept c pick (Wait set) m = wait-kept w premise.valid premise.rooted premise.tidy c (λ user. m.room user refl) pick set
  stage_row-kept c pick (ServerReceive into room) m = receive-kept w memory c turns.Server into room
  stage_row-kept c pick (ServerSend address count) m = send-kept w memory c turns.Server address count (m.way address refl)
  stage_row-kept c pick ServerOver m = over-kept w premise.tidy c turns.Server None
  stage_row-kept c pick ServerEnd m = disconnect-kept w c turns.Server
  stage_row-kept c pick FaultDone m = fault_done-kept w c
  stage_row-kept c pick (ServerOverRef reference) m = over_ref-kept w premise.tidy c turns.Server reference
  stage_row-kept c pick (ServerReceiveRef into room reference) m = receive_ref-kept w memory c turns.Server into room reference
  stage_row-kept c pick (LinkSet s x port server) m =
      link_set-kept w c (and_parts (are_talk_words c.words) _ (m.giving (for-porters c (LinkSet s x port server) m.allowed refl)).fit).0 s x port server
  stage_row-kept c pick (LinkPark s x port) m =
      let giving = m.giving (for-porters c (LinkPark s x port) m.allowed refl) in link_park-kept w c giving.nester giving.fit s x port
  stage_row-kept c pick (FaultSet s x port taker) m =
      fault_set-kept w c (and_parts (are_fault_words c.words) _ (m.giving (for-porters c (FaultSet s x port taker) m.allowed refl)).fit).0 s x port taker
  stage_row-kept c pick (FaultPark s x port taken) m =
      let giving = m.giving (for-porters c (FaultPark s x port taken) m.allowed refl) in
      fault_park-kept w c giving.nester (and_parts (are_fault_words c.words) _ giving.fit).0 s x port taken
  stage_row-kept c pick (HoldSet s x thread) m =
      let owes = (m.giving (for-porters c (HoldSet s x thread) m.allowed refl)).owes in hold_set-kept w c s x thread owes.0 owes.1
  stage_row-kept c pick (SpaceMakeHeld x) m = space_make_held-kept w c m.caller x (m.giving (for-porters c (SpaceMakeHeld x) m.allowed refl)).owes

  allowed_row-kept : (c : Caller) (pick : Option Path) (stage : Stage) → (is_denied c stage ≡ false → IsMaking w c stage) →
      KeptOutcome w (allowed_row w c pick stage)
  allowed_row-kept c pick stage making = by (is_denied c stage) refl
    where
      by : (t : Bool) → is_denied c stage ≡ t → KeptOutcome w (if t then Refused DENIED else stage_row w c pick stage)
      by true e = refused refl
      by false e = stage_row-kept c pick stage (making e)

  with_pick-kept : (chosen : Bool) (pick : Option Path) (o : Outcome) → KeptOutcome w o → KeptOutcome w (with_pick chosen pick o)
  with_pick-kept chosen pick (Refused status) kept = kept-when w (is_none pick) (Refused status) (λ e. kept)
  with_pick-kept chosen pick Waits kept = kept
  with_pick-kept chosen pick (Goes changes said) kept = kept-when w (chosen || is_none pick) (Goes changes said) (λ e. kept)

  closed-kept : (c : Caller) (o : Outcome) → KeptOutcome w o → KeptOutcome w (closed c o)
  closed-kept c (Refused status) kept = if-kept w c.is_porter _ _ (goes tt) (goes ((kept.kept, tt), tt))
  closed-kept c Waits kept = kept
  closed-kept c (Goes changes said) kept = kept

  call_row-kept : (c : Caller) (pick : Option Path) (stage : Stage) → (is_denied c stage ≡ false → IsMaking w c stage) → KeptOutcome w (call_row w c pick stage)
  unfolding call_row
  call_row-kept c pick stage making =
      closed-kept c _ (with_pick-kept (chooses stage) pick (allowed_row w c pick stage) (allowed_row-kept c pick stage making))

  -- ---- who moves

  thread-body : (o : Option Body) (t : Thread) → and_then thread_of o ≡ Some t → o ≡ Some (Thread_of t)
  thread-body None t h = cc
  thread-body (Some b) t h = ap (λ b. Some b) (body-thread_of b t h)

  rootless : (t : Thread) → and_then thread_of (w.body []) ≡ Some t → ⊥
  rootless t h = let root = premise.rooted.root in let kind = kind-there w [] (Thread_of t) (thread-body _ t h) in cc

  -- a user at a stage of a call
  making : (k : ℕ) (s : Path) (t : Thread) (stage : Stage) (todo : List Stage) (rest : List ℕ) → and_then thread_of (w.body (k ∷ s)) ≡ Some t →
      t.mode ≡ Calling (stage ∷ todo) rest → is_denied (user_at (k ∷ s)) stage ≡ false → IsMaking w (user_at (k ∷ s)) stage
  making k s t stage todo rest there mode allowed = record {
    caller = thread-caller w premise.valid (user_at (k ∷ s)) t there;
    single = λ user last. rw (there, mode) (single todo goes.first last);
    room = λ user wait. rw (there, mode) (room todo goes.first wait);
    values = λ user. all.0.0;
    way = λ address from low. rw (there, mode) (way stage refl address from low);
    mine = λ user. rw (thread-body (w.body (k ∷ s)) t there, mode) refl;
    giving = λ porter. cc;
    allowed = allowed;
  }
    where
      all : IsNumbered (Calling (stage ∷ todo) rest)
      all = let numbers = (premise.tidy (k ∷ s) t there).numbers in rw mode at numbers

      way : (at : Stage) → at ≡ stage → (address : ℕ) → sends_from at ≡ Some address → address < SPACE_WORDS → has_way 128 (Calling (at ∷ todo) rest) ≡ true
      way (ClientSend from count) e address is low =
          let same : from ≡ address = cc in below-word (from + 128) (rw same (omega (arith, low)))
      way (ServerSend from count) e address is low =
          let same : from ≡ address = cc in below-word (from + 128) (rw same (omega (arith, low)))
      way (ClientReceive into room) e address is low = cc
      way (ServerReceive into room) e address is low = cc
      way (ClientReceiveRef into room reference) e address is low = cc
      way (ServerReceiveRef into room reference) e address is low = cc
      way at e address is low = refl

      goes : GoesOn (stage ∷ todo)
      goes = has_rest (stage ∷ todo) (let shaped = (premise.tidy (k ∷ s) t there).shaped in (rw mode at shaped).0)

      single : (todo : List Stage) → opens_first (stage ∷ todo) ≡ true → opens stage ≡ false → is_single (Calling (stage ∷ todo) rest) ≡ true
      single [] first last = refl
      single (next ∷ todo) first last = let no = (and_parts (opens stage) (not (is_wait stage) || is_last_receive (next ∷ todo)) first).0 in cc

      room : (todo : List Stage) → opens_first (stage ∷ todo) ≡ true → is_wait stage ≡ true → leaves_room 2 (Calling (stage ∷ todo) rest) ≡ true
      room [] first wait = refl
      room (next ∷ todo) first wait = let second = (and_parts (opens stage) (not (is_wait stage) || is_last_receive (next ∷ todo)) first).1 in rw wait at second

  user-runs : (x : Path) (t : Thread) (g : List ℕ) → and_then thread_of (w.body x) ≡ Some t → t.mode ≡ Running g → holds is_native (w.body x) ≡ false
  user-runs x t g there mode = let body = thread-body (w.body x) t there in rw (body, mode) refl

  goes_on-kept : (k : ℕ) (s : Path) (pick : Option Path) (t : Thread) (mode : Mode) → and_then thread_of (w.body (k ∷ s)) ≡ Some t →
      t.mode ≡ mode → KeptOutcome w (goes_on w (k ∷ s) pick t mode)
  goes_on-kept k s pick t (Running g) there is = with_pick-kept false pick _
      (run_row-kept w memory s k g t.counter (record {
        mine = user-runs (k ∷ s) t g there is;
        sixteen = let shaped = (premise.tidy (k ∷ s) t there).shaped in rw is at shaped;
        all = let numbers = (premise.tidy (k ∷ s) t there).numbers in rw is at numbers;
        next = (premise.tidy (k ∷ s) t there).counter;
      }))
  goes_on-kept k s pick t (Calling (stage ∷ todo) rest) there is = call_row-kept (user_at (k ∷ s)) pick stage (making k s t stage todo rest there is)
  goes_on-kept k s pick t (Calling [] rest) there is = waits
  goes_on-kept k s pick t mode there is = waits

  user_move-kept : (x : Path) (pick : Option Path) (o : Option Thread) → and_then thread_of (w.body x) ≡ o → KeptOutcome w (user_move w x pick o)
  user_move-kept x pick None there = waits
  user_move-kept [] pick (Some t) there = absurd (rootless t there)
  user_move-kept (k ∷ s) pick (Some t) there =
      kept-when w (is_free w s t) (goes_on w (k ∷ s) pick t t.mode) (λ free. goes_on-kept k s pick t t.mode there refl)

  porter-way : (m : Mode) → is_porter m ≡ true → has_way 128 m ≡ true
  porter-way (Native g) h = refl
  porter-way (Running g) h = cc
  porter-way m h = cc

  porter-gives : (k : ℕ) (s : Path) (stage : Stage) (words : List ℕ) (t : Thread) → (length words ≡ PAGE_WORDS) × AreWords words →
      is_fit_stage w (porter_at (k ∷ s) words) stage ≡ true → OwesStage w (porter_at (k ∷ s) words) stage → and_then thread_of (w.body (k ∷ s)) ≡ Some t
      → is_porter t.mode ≡ true →
      IsGiving w (porter_at (k ∷ s) words) stage
  porter-gives k s stage words t all fit owes there porter = record { nester = nester; words = all.0; all = all.1; fit = fit; owes = owes }
    where
      native : holds is_native (w.body (k ∷ s)) ≡ true
      native = rw (thread-body (w.body (k ∷ s)) t there) porter

      nester : holds is_native (w.body (LAST_PORTER_SLOT ∷ s)) ≡ true
      nester = let last = native-last w premise.stand k s native in rw last at native

  porter_move-kept : (x : Path) (pick : Option Path) (stage : Stage) (words : List ℕ) (o : Option Thread) → (length words ≡ PAGE_WORDS) × AreWords words →
      is_fit_stage w (porter_at x words) stage ≡ true → OwesStage w (porter_at x words) stage → and_then thread_of (w.body x) ≡ o →
      KeptOutcome w (porter_move w x pick stage words o)
  porter_move-kept x pick stage words None all fit owes there = waits
  porter_move-kept [] pick stage words (Some t) all fit owes there = absurd (rootless t there)
  porter_move-kept (k ∷ s) pick stage words (Some t) all fit owes there =
      kept-when w (is_porter t.mode && is_unheld w s) (call_row w (porter_at (k ∷ s) words) pick stage)
      (λ free. call_row-kept (porter_at (k ∷ s) words) pick stage (λ allowed. record {
        caller = thread-caller w premise.valid (porter_at (k ∷ s) words) t there;
        single = λ user last. cc;
        room = λ user wait. cc;
        values = λ user. cc;
        way = λ address from low. rw there (porter-way t.mode (and_parts _ _ free).0);
        mine = λ user. cc;
        giving = λ porter. porter-gives k s stage words t all fit owes there (and_parts _ _ free).0;
        allowed = allowed;
      }))

  -- ---- a move

  pub outcome-kept : (x : Path) (pick : Option Path) (ask : Ask) → is_fit w x ask ≡ true → has_all_words ask ≡ true → OwesAsk w x ask →
      KeptOutcome w (outcome w x pick ask)
  unfolding outcome is_fit
  outcome-kept x pick asks.Run fit all owes = user_move-kept x pick _ refl
  outcome-kept x pick (asks.Call stage words) fit all owes =
      let both = and_parts (length words == PAGE_WORDS) (are_words words) all in
      porter_move-kept x pick stage words _ (eqb-true (length words) PAGE_WORDS both.0, all-words words both.1) fit owes refl
  outcome-kept x pick asks.Accept fit all owes = accept_row-kept w x pick
  outcome-kept x pick (asks.Give words len) fit all owes =
      with_pick-kept false pick _ (give_row-kept w memory x (take len words) (words-take len words (all-words words all)))
  outcome-kept x pick asks.Over fit all owes = with_pick-kept false pick _ (over_row-kept w premise.tidy x)
