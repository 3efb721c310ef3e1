-- While nothing is held, a thread that isn't ready has a reason.
use Rattle.std.proofs.Common.{◌≡◌, ℕ, ◌≤◌, Bool, true, false, not, if◌then◌else◌, ◌&&◌, ◌||◌, ◌==◌, ◌%◌, nat_le, is_some, List, [], ◌∷◌, Option, Some, None}
use Rattle.std.proofs.Common.{cond, eq-eqb}
use Rattle.std.proofs.Common.{option_map, Result, Ok, Err, refl, ap, sym, subst, ◌∙◌, ◌⊎◌, inl, inr}
use Rattle.std.specs.List.{list_any, flat_map}
use Rattle.std.proofs.lemmas.Bool.{and_parts}
use Rattle.fk_model.specs.declared.limits.TheConstants.{LAST_USER_SLOT, SLOTS, PAGE_WORDS, BLOCK_WORDS}
use Rattle.fk_model.specs.declared.moves.Ask.TheVariants as asks
use Rattle.fk_model.specs.declared.instruction.Act.{Act}
use Rattle.fk_model.specs.declared.instruction.Act.TheVariants as acts_of
use Rattle.fk_model.specs.declared.names.Kind.{Kind}
use Rattle.fk_model.specs.declared.names.Kind.TheVariants as kinds
use Rattle.fk_model.specs.declared.stage.Stage.{Stage}
use Rattle.fk_model.specs.declared.stage.Stage.TheVariants.{Create, SpaceHold, MutexLock, CondAsleep, CondSignal, Connect, ClientReceive, ClientSend}
use Rattle.fk_model.specs.declared.stage.Stage.TheVariants.{ClientOverRef, ClientReceiveRef}
use Rattle.fk_model.specs.declared.stage.Stage.TheVariants.{ClientOver, Wait, ServerReceive, ServerSend, ServerOver, FaultDone, ServerOverRef, ServerReceiveRef}
use Rattle.fk_model.specs.declared.statuses.status.TheConstants as status
use Rattle.fk_model.specs.declared.thread.Turn.{Turn}
use Rattle.fk_model.specs.declared.thread.Turn.TheVariants as turns
use Rattle.fk_model.specs.Places.{Path, parent, slot_of, Ptr}
use Rattle.fk_model.specs.Places.Ptr.{Null, Dead, At, Out, Outside, Far}
use Rattle.fk_model.specs.Objects.{Mode, Peer, Talk, Thread, Body, kind_of, mutex_of, thread_of, and_then, or_else, holds, reference_of}
use Rattle.fk_model.specs.Objects.Mode.{Running, Calling, Halted, Native}
use Rattle.fk_model.specs.Objects.Peer.{Server, Service, Parked}
use Rattle.fk_model.specs.Objects.Body.{Mutex, Cond, Port, Thread_of, Reference}
use Rattle.fk_model.specs.World.{World, Change, serves}
use Rattle.fk_model.specs.World.Change.{Alter, Make, MakeSpace, Kill, Move, PutPage, DropPage}
use Rattle.fk_model.specs.Searches.{thread_at, talk_at, slots, depth, beneath, objects, client_of, faulter_of, is_serving, option_list, pointers, talk_pointers}
use Rattle.fk_model.specs.Holds.{holder_of, decider, is_frozen_for, leads_to_frozen, is_free, is_unheld, is_user}
use Rattle.fk_model.specs.Freezing.{are_unfrozen, is_swept, lost_with, changed_pointers, made_pointers, body_pointers, IsAllowed, AreAllowed}
use Rattle.fk_model.specs.Outcomes.{Outcome, ◌>>=◌, when, refuse, or_refuse, done, path_of}
use Rattle.fk_model.specs.World.Edit.{End}
use Rattle.fk_model.specs.Outcomes.Outcome.{Refused, Waits, Goes}
use Rattle.fk_model.specs.Readers.{and_read, seen_as, slot_for, object_in, is_kind, kind_at, handled, handle}
use Rattle.fk_model.specs.SyncRows.{cond_of, sets_locked, mutex_lock, cond_asleep}
use Rattle.fk_model.specs.LinkRows.{connect}
use Rattle.fk_model.specs.Valid.{kind_there}
use Rattle.fk_model.specs.Talks.{first_stage, awaited, is_handled}
use Rattle.fk_model.specs.LinkRows.{user_at}
use Rattle.fk_model.specs.UserRows.{performs, executes, run_row_by, run_row, halts_with, loads, stores, enters, word_at}
use Rattle.fk_model.specs.Instructions.{act}
use Rattle.fk_model.specs.Readers.{accessed}
use Rattle.fk_model.specs.Calls.{todo_of}
use Rattle.fk_model.specs.Moves.{chooses, with_pick, closed, is_denied, stage_row, allowed_row, call_row, GoesAllowed, goes_on, user_move, outcome, IsReady}
use Rattle.fk_model.specs.Valid.{IsValid}
use Rattle.laws_waits.specs.Rows.{can_wait, FreeRunnersAreReady}
use Rattle.laws_waits.specs.Stuck.{is_resting, Reason, IsStuck, IsAtStage, IsGone, awaits_on, is_at_hand_else}
use Rattle.laws_waits.specs.Stuck.Reason.{Resting, Locking, Sleeping, Connecting, Receiving, Passing, Sending, Lacking, Waiting}
use Rattle.laws_waits.specs.Complete.{is_outer, is_barred, IsWholeWorld, HasReason, UnheldThreadsHaveReasons}
use Rattle.laws_waits.proofs.Never.{never_wait_lem, either, goes, done-moves, telling-moves}
use Rattle.laws_waits.proofs.Rows.{line_of}
use Rattle.fk_model.proofs.walks.Members.{find_some}
use Rattle.fk_model.specs.Reach.{Reach, reach_word, words_at}
use Rattle.fk_model.specs.Reach.Reach.{Home, Missing, Bad}
use Rattle.fk_model.specs.Readers.{own_page_at}
use Rattle.fk_model.specs.Talks.{Line, line_from, line, same_side, other_side, receiving, thread_led_to, is_service_free}
use Rattle.fk_model.specs.TransferRows.{at_turn, in_turn, receive, passes, passes_to, passes_to_thread, over, overwritten, block, moved_words, has_sent}
use Rattle.fk_model.specs.TransferRows.{may_carry, over_ref}
use Rattle.fk_model.specs.TransferRows.{sends_words, sends_into, sends_to_thread, sends_to_service, sends_to, sends, send, passes_on, receive_ref, takes_turn}
use Rattle.laws_waits.specs.Touching.{is_home}
use Rattle.fk_model.specs.FaultRows.{frees, fault_done}
use Rattle.fk_model.specs.SpaceRows.{has_porter, is_held_by_other, space_hold}
use Rattle.fk_model.specs.Objects.{space_of}
use Rattle.fk_model.specs.Places.{is_within}
use Rattle.fk_model.specs.Readers.{space_argument}
use Rattle.fk_model.specs.LinkRows.{portset_of, wait}
use Rattle.fk_model.specs.SyncRows.{cond_signal, sleepers, asleep_on, woken}
use Rattle.fk_model.specs.World.Edit.{Replace, SetFault, SetHolder}
use Rattle.fk_model.proofs.walks.Members.{IsIn, of_flat_map}
use Rattle.laws_waits.proofs.Found.{unheld_waits_lem}
use Rattle.fk_model.specs.Outcomes.{Said, telling}
use Rattle.fk_model.specs.Outcomes.Said.{Nothing, Passed, Words}
use Rattle.fk_model.specs.World.Edit.{Finish, CountMoved, Shift}
use Rattle.fk_model.specs.Readers.{their_page_at}
use Rattle.fk_model.specs.LinkRows.{is_parked}
use Rattle.fk_model.specs.Searches.{peer_pointer, fault_pointers}
use Rattle.fk_model.specs.Valid.{leads_there, all_in, is_good, is_good_talk, is_good_peer}
use Rattle.fk_model.proofs.walks.PlaceLaws.{same_path_refl}
use Rattle.std.proofs.lemmas.List.Folds.{list_any-append}
use Rattle.laws_moves.proofs.InMachine.Frame.{or_off}
use Rattle.laws_waits.proofs.Found.{awake-free}
use Rattle.laws_waits.specs.Stuck.{End as End_of_talk, is_at_hand, is_with, HasRoom, IsTalkingTo}
use Rattle.laws_waits.specs.Stuck.End.{Absent, Unclaimed, Unnamed}
use Rattle.laws_moves.proofs.InRows.Handles.{received-stage}
use Rattle.laws_waits.specs.Stuck.{talk_place, is_talk_of, IsReached, receive_stage, send_stage, over_stage}
use Rattle.fk_model.specs.declared.statuses.status.TheConstants.{BADHANDLE}

module _ (w : World) (unheld : (q : Path) → decider w q ≡ None) (me : Path) where
  unfrozen : (x : Path) → is_frozen_for w me x ≡ false
  unfrozen x = rw (unheld x) refl

  leads-free : (p : Ptr) → leads_to_frozen w me p ≡ false
  leads-free (At x) = unfrozen x
  leads-free Null = refl
  leads-free p = refl

  all-free : (ps : List Ptr) → are_unfrozen w me ps ≡ true
  all-free [] = refl
  all-free (p ∷ ps) = rw (leads-free p) (all-free ps)

  or-true : (b : Bool) → (b || true) ≡ true
  or-true true = refl
  or-true false = refl

  allowed : (c : Change) → IsAllowed w me c
  allowed (Alter x edit) = record {
    object = unfrozen x;
    changed = all-free (option_list (changed_pointers edit) (w.body x));
    made = all-free (made_pointers edit);
  }
  allowed (Make x body) = record { object = unfrozen x; made = all-free (pointers body) }
  allowed (MakeSpace x holder) = record { object = unfrozen x; made = all-free (option_list (λ p. p ∷ []) holder) }
  allowed (Kill x) = record {
    object = unfrozen x;
    changed = all-free (body_pointers (w.body x));
    others = λ q. rw (unfrozen q, all-free (lost_with x (w.body q))) (or-true (not (is_swept x q (w.body q))));
  }
  allowed (Move x slot) = record { object = unfrozen x; others = λ q. rw (unfrozen q) (or-true (not (is_swept x q (w.body q)))) }
  allowed (PutPage space page words) = unfrozen space
  allowed (DropPage space page) = unfrozen space

  pub all-allowed : (cs : List Change) → AreAllowed w me cs
  all-allowed [] = tt
  all-allowed (c ∷ cs) = (allowed c, all-allowed cs)

-- a stage that doesn't choose, and doesn't wait, is ready
module _ (w : World) (unheld : (q : Path) → decider w q ≡ None) (x : Path) where
  closed-ready : (o : Outcome) → (o ≡ Waits → ⊥) → GoesAllowed w x (closed (user_at x) (with_pick false None o))
  closed-ready (Refused status) moves = all-allowed w unheld x (Alter (path_of (user_at x)) (End status []) ∷ [])
  closed-ready (Goes changes said) moves = all-allowed w unheld x changes
  closed-ready Waits moves = absurd (moves refl)

  pub stage-ready : (stage : Stage) → chooses stage ≡ false → (allowed_row w (user_at x) None stage ≡ Waits → ⊥)
      → GoesAllowed w x (call_row w (user_at x) None stage)
  unfolding call_row
  stage-ready stage plain moves =
      subst (λ b. GoesAllowed w x (closed (user_at x) (with_pick b None (allowed_row w (user_at x) None stage)))) (sym plain)
      (closed-ready (allowed_row w (user_at x) None stage) moves)

  other-ready : (stage : Stage) → chooses stage ≡ false → can_wait stage ≡ false → GoesAllowed w x (call_row w (user_at x) None stage)
  other-ready stage plain other = stage-ready stage plain (by (is_denied (user_at x) stage))
    where
      by : (b : Bool) → (if b then Refused status.DENIED else stage_row w (user_at x) None stage) ≡ Waits → ⊥
      by true h = absurd (cc)
      by false h = never_wait_lem w (user_at x) None stage other h

  -- a thread at a stage that it makes is ready
  pub thread_ready : (pick : Option Path) (t : Thread) (stage : Stage) (todo : List Stage) (rest : List ℕ) → thread_at w x ≡ Some t
      → is_free w (parent x) t ≡ true →
      t.mode ≡ Calling (stage ∷ todo) rest → GoesAllowed w x (call_row w (user_at x) pick stage) → IsReady w x pick asks.Run
  unfolding outcome
  thread_ready pick t stage todo rest there free mode goes =
      subst (λ o. GoesAllowed w x (user_move w x pick o)) (sym there)
      (subst (λ b. GoesAllowed w x (when b (goes_on w x pick t t.mode))) (sym free)
      (subst (λ m. GoesAllowed w x (goes_on w x pick t m)) (sym mode) goes))

-- ---- instructions always go

pub record IsAct (o : Outcome) : Type 0 where
  pub changes : List Change
  pub said : Said
  pub is : o ≡ Goes changes said

acts : (changes : List Change) (said : Said) → IsAct (Goes changes said)
acts changes said = record { changes = changes; said = said; is = refl }

access-acts : (me : Path) (write : Bool) (halts : ℕ → Outcome) (go : Path → ℕ → Outcome) (r : Reach) → ((n : ℕ) → IsAct (halts n)) →
    ((s : Path) (g : ℕ) → IsAct (go s g)) → IsAct (accessed me write halts go r)
access-acts me write halts go (Home s g) stop moves = moves s g
access-acts me write halts go (Missing s g (Some port)) stop moves = acts _ _
access-acts me write halts go (Missing s g None) stop moves = stop _
access-acts me write halts go Bad stop moves = stop _

module _ (w : World) (space me : Path) (g : List ℕ) (counter : ℕ) where
  stop-acts : (code : ℕ) → IsAct (halts_with me g counter code)
  stop-acts code = acts _ _

  enters-acts : (o : Option (List Stage)) → IsAct (enters me g counter o)
  enters-acts None = acts _ _
  enters-acts (Some todo) = acts _ _

  performs-acts : (a : Act) → IsAct (performs todo_of w space me g counter a)
  performs-acts (acts_of.Put register value) = acts _ _
  performs-acts (acts_of.Jump to) = acts _ _
  performs-acts (acts_of.Load register address) =
      access-acts me false (halts_with me g counter) (loads w me g counter register address) (reach_word w space address false) stop-acts (λ s page. acts _ _)
  performs-acts (acts_of.Store address value) =
      access-acts me true (halts_with me g counter) (stores w me g counter address value) (reach_word w space address true) stop-acts (λ s page. acts _ _)
  performs-acts (acts_of.Halt code) = stop-acts code
  performs-acts acts_of.Call = enters-acts (todo_of g)

instruction-acts : (w : World) (space : Path) (slot : ℕ) (g : List ℕ) (counter : ℕ) → IsAct (run_row w space slot g counter)
unfolding run_row_by
instruction-acts w space slot g counter =
    access-acts (slot ∷ space) false (halts_with (slot ∷ space) g counter) (executes todo_of w space (slot ∷ space) g counter)
    (reach_word w space counter false)
    (stop-acts w space (slot ∷ space) g counter) (λ s page. performs-acts w space (slot ∷ space) g counter (act (word_at w s page counter) g counter))

-- so a free thread that runs is ready while nothing is held
pub free_runners_are_ready : FreeRunnersAreReady
unfolding outcome
free_runners_are_ready w x t g unheld there free mode =
    subst (λ o. GoesAllowed w x (user_move w x None o)) (sym there)
    (subst (λ b. GoesAllowed w x (when b (goes_on w x None t t.mode))) (sym free)
    (subst (λ m. GoesAllowed w x (goes_on w x None t m)) (sym mode)
    (on (run_row w (parent x) (slot_of x) g t.counter) (instruction-acts w (parent x) (slot_of x) g t.counter))))
  where
    on : (o : Outcome) → IsAct o → GoesAllowed w x (with_pick false None o)
    on o act = subst (λ o. GoesAllowed w x (with_pick false None o)) (sym act.is) (all-allowed w unheld x act.changes)

-- ---- what a row that waits has read

abbrev Read : {A : Type 0} → Result A ℕ → (A → Outcome) → Type 0
Read {A = A} r go = (a : A) × (r ≡ Ok a) × (go a ≡ Waits)

read : {A : Type 0} (r : Result A ℕ) (go : A → Outcome) → (r >>= go) ≡ Waits → Read r go
read (Ok a) go h = (a, refl, h)
read (Err status) go h = absurd (cc)

unrefused : (status : ℕ) (b : Bool) (go : Unit {0} → Outcome) → (refuse status b >>= go) ≡ Waits → (b ≡ false) × (go tt ≡ Waits)
unrefused status true go h = absurd (cc)
unrefused status false go h = (refl, h)

module _ (w : World) (k : ℕ) (s : Path) where
  object-is : {A : Type 0} (view : Body → Option A) (space : Path) (j : ℕ) (a : A) → object_in w (user_at (k ∷ s)) view space j ≡ Ok a →
      (nat_le j LAST_USER_SLOT ≡ true) × (and_then view (w.body (j ∷ space)) ≡ Some a)
  unfolding object_in
  object-is {A = A} view space j a h = by (nat_le j LAST_USER_SLOT) h
    where
      seen : (o : Option Body) → seen_as view o ≡ Ok a → and_then view o ≡ Some a
      seen None h = cc
      seen (Some b) h = on (view b) h
        where
          on : (v : Option A) → or_refuse status.WRONGKIND v ≡ Ok a → v ≡ Some a
          on None h = cc
          on (Some c) h = cc

      by : (b : Bool) → and_read (if b then Ok j else Err status.BADHANDLE) (λ j. seen_as view (w.body (j ∷ space))) ≡ Ok a
          → (b ≡ true) × (and_then view (w.body (j ∷ space)) ≡ Some a)
      by true h = (refl, seen (w.body (j ∷ space)) h)
      by false h = cc

  cond-kind : (o : Option Body) (b : Body) → and_then cond_of o ≡ Some b → option_map kind_of o ≡ Some kinds.Cond
  cond-kind (Some Cond) b h = refl
  cond-kind None b h = cc
  cond-kind (Some (Mutex locked)) b h = cc
  cond-kind (Some other) b h = cc

  mutex-kind : (o : Option Body) (b : Bool) → and_then mutex_of o ≡ Some b → option_map kind_of o ≡ Some kinds.Mutex
  mutex-kind (Some (Mutex locked)) b h = refl
  mutex-kind None b h = cc
  mutex-kind (Some Cond) b h = cc
  mutex-kind (Some other) b h = cc

  abbrev me : Path
  me = k ∷ s

  found : (r : Reason) → IsStuck w me r → is_barred r ≡ false → HasReason w me
  found r stuck named = record { reason = r; stuck = stuck; named = named }

  lock-reason : (m : ℕ) → IsAtStage w me (MutexLock m) → mutex_lock w (user_at me) m ≡ Waits → HasReason w me
  unfolding mutex_lock
  lock-reason m at h =
      let got = read (object_in w (user_at me) mutex_of s m) _ h in
      let seen = object-is mutex_of s m got.0 got.1 in
      by got.0 got.2 seen.1 seen.0
    where
      by : (locked : Bool) → when (not locked) (done (user_at me) (sets_locked (m ∷ s) true ∷ []) []) ≡ Waits
          → and_then mutex_of (w.body (m ∷ s)) ≡ Some locked →
          nat_le m LAST_USER_SLOT ≡ true → HasReason w me
      by true h seen low = found (Locking m) (at, low, seen) refl
      by false h seen low = absurd (cc)

  sleep-reason : (c m : ℕ) → IsAtStage w me (CondAsleep c m) → cond_asleep w (user_at me) c m ≡ Waits → HasReason w me
  unfolding cond_asleep kind_there
  sleep-reason c m at h =
      let first = read (object_in w (user_at me) cond_of s c) _ h in
      let second = read (object_in w (user_at me) mutex_of s m) _ first.2 in
      let one = object-is cond_of s c first.0 first.1 in
      let two = object-is mutex_of s m second.0 second.1 in
      found (Sleeping c m) (at, one.0, two.0, cond-kind (w.body (c ∷ s)) first.0 one.1, mutex-kind (w.body (m ∷ s)) second.0 two.1) refl

  no-some : {A : Type 0} (o : Option A) → is_some o ≡ false → o ≡ None
  no-some None h = refl
  no-some (Some a) h = cc

  module _ (whole : IsWholeWorld w) where
    handled-at : (z : Path) (o : Option Body) (p : Ptr) → list_any is_outer (body_pointers o) ≡ false → handled w kinds.Port z o ≡ Ok p
        → (port : Path) × (p ≡ At port)
    handled-at z None p inner h = cc
    handled-at z (Some (Reference Null)) p inner h = cc
    handled-at z (Some (Reference Dead)) p inner h = cc
    handled-at z (Some (Reference (At q))) p inner h = by (is_kind kinds.Port (kind_at w (At q))) h
      where
        by : (b : Bool) → (if b then Ok (At q) else Err status.WRONGKIND) ≡ Ok p → (port : Path) × (p ≡ At port)
        by true h = (q, cc)
        by false h = cc
    handled-at z (Some (Reference (Out slot))) p inner h = cc
    handled-at z (Some (Reference Outside)) p inner h = cc
    handled-at z (Some (Reference Far)) p inner h = cc
    handled-at z (Some (Port set served)) p inner h = (z, cc)
    handled-at z (Some (Mutex locked)) p inner h = cc
    handled-at z (Some b) p inner h = cc

    connect-reason : (h : ℕ) → IsAtStage w me (Connect h) → connect w (user_at me) h ≡ Waits → HasReason w me
    unfolding connect handle
    connect-reason h at waits =
        let got = read (and_read (slot_for (user_at me) h) (λ h. handled w kinds.Port (h ∷ s) (w.body (h ∷ s)))) _ waits in
        let talk = unrefused status.LINKED (is_some (talk_at w me)) _ got.2 in
        by (nat_le h LAST_USER_SLOT) refl got.0 got.1 (no-some (talk_at w me) talk.0)
      where
        by : (b : Bool) → nat_le h LAST_USER_SLOT ≡ b → (p : Ptr) →
            and_read (if b then Ok h else Err status.BADHANDLE) (λ h. handled w kinds.Port (h ∷ s) (w.body (h ∷ s))) ≡ Ok p → talk_at w me ≡ None
            → HasReason w me
        by true low p leads none =
            let port = handled-at (h ∷ s) (w.body (h ∷ s)) p (whole (h ∷ s)) leads in
            found (Connecting h port.0) (at, low, none, leads ∙ ap Ok port.1) refl
        by false low p leads none = cc

  -- ---- talks

  -- the talk of a line
  record Talked (side turn : Turn) (l : Line) : Type 0 where
    pub client : Path
    pub talk : Talk
    pub at : talk_at w (talk_place side me client) ≡ Some talk
    pub is : is_talk_of side me turn talk ≡ true
    pub same : l ≡ line_of side me client talk

  at-turn : (turn : Turn) (l m : Line) → at_turn turn (Some l) ≡ Ok m → (same_side l.talk.turn turn ≡ true) × (l ≡ m)
  at-turn turn l m h = by (same_side l.talk.turn turn) h
    where
      by : (b : Bool) → (if b then Ok l else Err status.WRONGTURN) ≡ Ok m → (b ≡ true) × (l ≡ m)
      by true h = (refl, cc)
      by false h = cc

  talked : (side turn : Turn) (l : Line) → in_turn w me side turn ≡ Ok l → Talked side turn l
  unfolding line client_of
  talked turns.Client turn l h = by (talk_at w me) refl h
    where
      by : (o : Option Talk) → talk_at w me ≡ o → at_turn turn (line_from me (λ (talk : Talk). talk.peer) o) ≡ Ok l → Talked turns.Client turn l
      by None at h = absurd (cc)
      by (Some talk) at h =
          let both = at-turn turn (line_of turns.Client me me talk) l h in
          record { client = me; talk = talk; at = at; is = both.0; same = sym both.1 }
  talked turns.Server turn l h = by (client_of w me) refl h
    where
      on : (client : Path) (o : Option Talk) → talk_at w client ≡ o → holds (λ (talk : Talk). serves me talk.peer) o ≡ true →
          at_turn turn (line_from client (λ (talk : Talk). Server (At client)) o) ≡ Ok l → Talked turns.Server turn l
      on client None at serving h = absurd (cc)
      on client (Some talk) at serving h =
          let both = at-turn turn (line_of turns.Server me client talk) l h in
          record { client = client; talk = talk; at = at; is = rw (both.0, serving) refl; same = sym both.1 }

      by : (o : Option Path) → client_of w me ≡ o →
          at_turn turn (and_then (λ client. line_from client (λ (talk : Talk). Server (At client)) (talk_at w client)) o) ≡ Ok l → Talked turns.Server turn l
      by None e h = absurd (cc)
      by (Some client) e h =
          let serving = (find_some (λ c. holds (λ (talk : Talk). serves me talk.peer) (talk_at w c)) client (objects w) e).1 in
          on client (talk_at w client) refl serving h

  -- a call's own page that makes it wait is there
  own-there : (write : Bool) (go : Path → ℕ → Outcome) (r : Reach) → own_page_at me write go r ≡ Waits
      → (is_home r ≡ true) × ((t : Path) × (g : ℕ) × (go t g ≡ Waits))
  own-there write go (Home t g) h = (refl, (t, g, h))
  own-there write go (Missing t g (Some port)) h = absurd (cc)
  own-there write go (Missing t g None) h = absurd (cc)
  own-there write go Bad h = absurd (cc)

  receive-at : (side : Turn) (into room : ℕ) (reference : Option ℕ) → IsAtStage w me (receive_stage side into room reference) →
      is_handled w s reference ≡ true → receive w (user_at me) side into room ≡ Waits → HasReason w me
  unfolding receive
  receive-at side into room reference at handled h =
      let got = read (in_turn w me side (other_side side)) _ h in
      let t = talked side (other_side side) got.0 got.1 in
      found (Receiving side into room reference true t.client)
      (at, ap (holds (is_talk_of side me (other_side side))) t.at ∙ t.is, by (room == 0) refl got.2, handled) refl
    where
      by : (b : Bool) → (room == 0) ≡ b → (if b then Waits else own_page_at me true (λ s page. Waits) (reach_word w s into true)) ≡ Waits →
          (b ≡ true) ⊎ IsReached w s into true true
      by true e h = inl refl
      by false e h = inr (own-there true (λ s page. Waits) (reach_word w s into true) h).0

  -- a reference that is read is handled
  handled-read : (k : ℕ) (p : Ptr) → object_in w (user_at me) reference_of s k ≡ Ok p → is_handled w s (Some k) ≡ true
  unfolding object_in
  handled-read k p read = by (nat_le k LAST_USER_SLOT) read
    where
      seen : (o : Option Body) → seen_as reference_of o ≡ Ok p → holds (λ b. is_some (reference_of b)) o ≡ true
      seen None h = cc
      seen (Some (Reference to)) h = refl
      seen (Some (Mutex locked)) h = cc
      seen (Some b) h = cc

      by : (b : Bool) → and_read (if b then Ok k else Err status.BADHANDLE) (λ k. seen_as reference_of (w.body (k ∷ s))) ≡ Ok p →
          (b && holds (λ b. is_some (reference_of b)) (w.body (k ∷ s))) ≡ true
      by true h = seen (w.body (k ∷ s)) h
      by false h = cc

  receive_ref-at : (side : Turn) (into room reference : ℕ) → IsAtStage w me (receive_stage side into room (Some reference)) →
      receive_ref w (user_at me) side into room reference ≡ Waits → HasReason w me
  unfolding receive_ref
  receive_ref-at side into room reference at h =
      let got = read (object_in w (user_at me) reference_of s reference) _ h in
      receive-at side into room (Some reference) at (handled-read reference got.0 got.1) got.2

  module _ (valid : IsValid w) (whole : IsWholeWorld w) (unheld : (q : Path) → decider w q ≡ None) where
    inner-at : (p : Ptr) (wanted : List Kind) → is_outer p ≡ false → leads_there (kind_there w) wanted p ≡ true → (y : Path) × (p ≡ At y)
    inner-at (At y) wanted inner good = (y, refl)
    inner-at Null wanted inner good = cc
    inner-at Dead wanted inner good = cc
    inner-at (Out slot) wanted inner good = cc
    inner-at Outside wanted inner good = cc
    inner-at Far wanted inner good = cc

    -- a talk's port and its peer are inside
    talk-good : (x : Path) (talk : Talk) → talk_at w x ≡ Some talk
        → (is_good_talk (kind_there w) talk ≡ true) × (list_any is_outer (talk_pointers talk) ≡ false)
    talk-good x talk at = by (w.body x) (valid.consistent.good x) (whole x) at
      where
        by : (o : Option Body) → all_in (is_good (kind_there w) x) o ≡ true → list_any is_outer (body_pointers o) ≡ false →
            and_then (λ (t : Thread). t.talk) (and_then thread_of o) ≡ Some talk
            → (is_good_talk (kind_there w) talk ≡ true) × (list_any is_outer (talk_pointers talk) ≡ false)
        by (Some (Thread_of t)) good inner at = on t.talk at (and_parts _ _ good).0
            (or_off _ _ (sym (list_any-append is_outer (option_list talk_pointers t.talk) (option_list fault_pointers t.fault)) ∙ inner)).0
          where
            on : (o : Option Talk) → o ≡ Some talk → all_in (is_good_talk (kind_there w)) o ≡ true → list_any is_outer (option_list talk_pointers o) ≡ false →
                (is_good_talk (kind_there w) talk ≡ true) × (list_any is_outer (talk_pointers talk) ≡ false)
            on (Some other) e good inner = let same : other ≡ talk = cc in rw (← same) (good, inner)
            on None e good inner = cc
        by None good inner at = cc
        by (Some (Mutex locked)) good inner at = cc
        by (Some b) good inner at = cc

    port-at : (x : Path) (talk : Talk) → talk_at w x ≡ Some talk → (port : Path) × (talk.port ≡ At port)
    port-at x talk at =
        let facts = talk-good x talk at in
        inner-at talk.port (kinds.Port ∷ []) (or_off (is_outer talk.port) _ facts.1).0 (and_parts _ _ facts.0).0

    peer-at : (x : Path) (talk : Talk) (p : Ptr) → talk_at w x ≡ Some talk → talk.peer ≡ Server p → (y : Path) × (p ≡ At y)
    peer-at x talk p at peer =
        let facts = talk-good x talk at in
        let good : is_good_peer (kind_there w) (Server p) ≡ true = ap (is_good_peer (kind_there w)) (sym peer) ∙ (and_parts _ _ facts.0).1 in
        let inner : list_any is_outer (p ∷ []) ≡ false = ap (λ q. list_any is_outer (peer_pointer q)) (sym peer) ∙ (or_off (is_outer talk.port) _ facts.1).1 in
        inner-at p (kinds.Thread ∷ []) (or_off (is_outer p) false inner).0 good

    service-open : (x : Path) (talk : Talk) → talk_at w x ≡ Some talk → is_service_free w talk.port ≡ true
    service-open x talk at = let port = port-at x talk at in rw (port.1, unheld (parent port.0)) refl

    no-hold-free : (y : Path) (t : Thread) → is_resting t ≡ false → is_free w (parent y) t ≡ true
    no-hold-free y t awake = awake-free w s 0 y t (rw (unheld (parent y)) refl) (rw awake refl)

    -- who receives nothing isn't at hand, or is refused for its handle
    abbrev Ended : Turn → Path → Type 0
    Ended side y = IsGone w side (Absent y) ⊎ ((k : ℕ) × IsGone w side (Unnamed y k))

    away : (side : Turn) (y : Path) (t : Thread) → thread_at w y ≡ Some t →
        (is_free w (parent y) t && is_some (receiving w (parent y) (other_side side) t.mode)) ≡ false → Ended side y
    away side y t at h = by (is_resting t) refl (awaited t.mode) refl
      where
        gone : is_at_hand (other_side side) t ≡ false → Ended side y
        gone e = inl (ap (holds (is_at_hand (other_side side))) at ∙ e)

        and_not : (a : Bool) → (a && not true) ≡ false
        and_not true = refl
        and_not false = refl

        eq-self : (k : ℕ) → (k == k) ≡ true
        eq-self k = eq-eqb k k refl

        met : is_resting t ≡ false → (o : Option ℕ) → awaited t.mode ≡ o → (b : Bool) → is_handled w (parent y) o ≡ b →
            is_some (cond b (awaits_on (other_side side) t.mode) None) ≡ false → Ended side y
        met e o at_slot true f none = gone (rw (e, none) refl)
        met e (Some k) at_slot false f none = inr (
          k,
          (
            ap (holds (is_at_hand_else (other_side side) k)) at
                ∙ ap (λ b. is_at_hand (other_side side) t && not b) (ap (holds (λ j. j == k)) at_slot ∙ eq-self k) ∙ and_not (is_at_hand (other_side side) t),
            f,
          ),
        )
        met e None at_slot false f none = cc

        by : (b : Bool) → is_resting t ≡ b → (o : Option ℕ) → awaited t.mode ≡ o → Ended side y
        by true e o f = gone (rw e refl)
        by false e o f = met e o f (is_handled w (parent y) o) refl
            (ap (λ p. is_some (cond (is_handled w (parent y) p) (awaits_on (other_side side) t.mode) None)) (sym f)
            ∙ ap (λ b. b && is_some (receiving w (parent y) (other_side side) t.mode)) (sym (no-hold-free y t e)) ∙ h)

    -- ---- over

    over-end : (side : Turn) (client y : Path) (carried : Option Ptr) (o : Option Thread) → thread_at w y ≡ o →
        passes_to_thread w (user_at me) side client carried (and_then (λ t. Some (y, t)) o) ≡ Waits → Ended side y
    over-end side client y carried None at h = inl (ap (holds (is_at_hand (other_side side))) at)
    over-end side client y carried (Some t) at h = by (is_free w (parent y) t && is_some (receiving w (parent y) (other_side side) t.mode)) refl h
      where
        by : (b : Bool) → (is_free w (parent y) t && is_some (receiving w (parent y) (other_side side) t.mode)) ≡ b →
            when b (passes (user_at me) side client (takes_turn y carried (awaited t.mode))) ≡ Waits → Ended side y
        by true e h = absurd (cc)
        by false e h = away side y t at e

    talks-to : (side : Turn) (client : Path) (talk : Talk) (end : End_of_talk) → talk_at w (talk_place side me client) ≡ Some talk
        → is_talk_of side me side talk ≡ true →
        is_with side client end talk ≡ true → IsTalkingTo w me side client end
    talks-to side client talk end at is with_it =
        ap (holds (λ (talk : Talk). is_talk_of side me side talk && is_with side client end talk)) at ∙ rw (is, with_it) refl

    over-thread : (side : Turn) (reference : Option ℕ) (client y : Path) (talk : Talk) → IsAtStage w me (over_stage side reference) →
        is_handled w s reference ≡ true → talk_at w (talk_place side me client) ≡ Some talk → is_talk_of side me side talk ≡ true →
        is_with side client (Absent y) talk ≡ true → Ended side y → HasReason w me
    over-thread side reference client y talk stage handled at is with_it (inl gone) =
        found (Passing side reference client (Absent y)) (stage, talks-to side client talk (Absent y) at is with_it, gone, handled) refl
    over-thread side reference client y talk stage handled at is with_it (inr gone) =
        found (Passing side reference client (Unnamed y gone.0)) (stage, talks-to side client talk (Unnamed y gone.0) at is with_it, gone.1, handled) refl

    over-client : (reference : Option ℕ) (carried : Option Ptr) (client : Path) (talk : Talk) (p : Peer) → IsAtStage w me (over_stage turns.Client reference) →
        is_handled w s reference ≡ true → talk_at w me ≡ Some talk → is_talk_of turns.Client me turns.Client talk ≡ true →
        talk.peer ≡ p → passes_to w (user_at me) turns.Client (line_of turns.Client me client talk) carried p ≡ Waits → HasReason w me
    over-client reference carried client talk (Server q) stage handled at is peer h =
        let y = peer-at me talk q at peer in
        let to : talk.peer ≡ Server (At y.0) = peer ∙ ap Server y.1 in
        over-thread turns.Client reference client y.0 talk stage handled at is (ap (serves y.0) to ∙ same_path_refl y.0)
        (over-end turns.Client me y.0 carried (thread_at w y.0) refl
        (subst (λ q. passes_to_thread w (user_at me) turns.Client me carried (thread_led_to w q) ≡ Waits) y.1 h))
    over-client reference carried client talk Parked stage handled at is peer h =
        found (Passing turns.Client reference client Unclaimed)
        (stage, talks-to turns.Client client talk Unclaimed at is (ap (λ q. is_parked (Some q)) peer), tt, handled) refl
    over-client reference carried client talk Service stage handled at is peer h =
        let on = service-open me talk at in
        let goes : when true (telling (Passed talk.port) (passes (user_at me) turns.Client me []))
        ≡ Waits = subst (λ b. when b (telling (Passed talk.port) (passes (user_at me) turns.Client me [])) ≡ Waits) on h in
        absurd (cc)

    -- while nothing is held every pointer may be handed on
    carries : (carried : Option Ptr) → may_carry w me carried ≡ true
    carries None = refl
    carries (Some (At x)) = rw (unheld x) refl
    carries (Some Null) = refl
    carries (Some Dead) = refl
    carries (Some (Out slot)) = refl
    carries (Some Outside) = refl
    carries (Some Far) = refl

    passed-on : (side : Turn) (carried : Option Ptr) (l : Line) → passes_on w (user_at me) side carried l ≡ Waits →
        passes_to w (user_at me) side l carried l.other ≡ Waits
    passed-on side carried l h = sym (ap (λ b. when b (passes_to w (user_at me) side l carried l.other)) (carries carried)) ∙ h

    over-reason : (side : Turn) (reference : Option ℕ) (carried : Option Ptr) → IsAtStage w me (over_stage side reference) → is_handled w s reference ≡ true →
        over w (user_at me) side carried ≡ Waits → HasReason w me
    unfolding over
    over-reason turns.Client reference carried stage handled h =
        let got = read (in_turn w me turns.Client turns.Client) _ h in
        let t = talked turns.Client turns.Client got.0 got.1 in
        over-client reference carried t.client t.talk t.talk.peer stage handled t.at t.is refl
        (subst (λ l. passes_to w (user_at me) turns.Client l carried l.other ≡ Waits) t.same (passed-on turns.Client carried got.0 got.2))
    over-reason turns.Server reference carried stage handled h =
        let got = read (in_turn w me turns.Server turns.Server) _ h in
        let t = talked turns.Server turns.Server got.0 got.1 in
        over-thread turns.Server reference t.client t.client t.talk stage handled t.at t.is (same_path_refl t.client)
        (over-end turns.Server t.client t.client carried (thread_at w t.client) refl
        (subst (λ l. passes_to w (user_at me) turns.Server l carried l.other ≡ Waits) t.same (passed-on turns.Server carried got.0 got.2)))

    over_ref-reason : (side : Turn) (reference : ℕ) → IsAtStage w me (over_stage side (Some reference)) → over_ref w (user_at me) side reference ≡ Waits →
        HasReason w me
    unfolding over_ref
    over_ref-reason side reference stage h =
        let got = read (object_in w (user_at me) reference_of s reference) _ h in
        over-reason side (Some reference) (Some got.0) stage (handled-read reference got.0 got.1) got.2

    -- ---- send

    abbrev Lack : Turn → Path → Type 0
    Lack side y = (into : ℕ) × (room : ℕ) × HasRoom w side y into room × (is_home (reach_word w (parent y) into true) ≡ false)

    page-away : (go : Path → ℕ → Outcome) (r : Reach) → ((t : Path) (g : ℕ) → go t g ≡ Waits → ⊥) → their_page_at go r ≡ Waits → is_home r ≡ false
    page-away go (Home t g) moves h = absurd (moves t g h)
    page-away go (Missing t g keeper) moves h = refl
    page-away go Bad moves h = refl

    sent-moves : (k count : ℕ) (changes : List Change) (said : Said) → has_sent (user_at me) k count changes said ≡ Waits → ⊥
    sent-moves k count changes said = either (k == count) _ _ (telling-moves said _ (done-moves (user_at me) _ _)) (goes _ _)

    words-move : (client y : Path) (k address count : ℕ) (page : List ℕ) (into : ℕ) (t : Path) (g : ℕ) (other : List ℕ) →
        sends_words (user_at me) client y k address count page into t g other ≡ Waits → ⊥
    words-move client y k address count page into t g other =
        sent-moves k count (PutPage t g (overwritten other (into % PAGE_WORDS) (block k address page)) ∷ Alter client (CountMoved k) ∷ Alter y (Shift k)
        ∷ []) Nothing

    service-moves : (client : Path) (port : Ptr) (address count : ℕ) (page : List ℕ) → sends_to_service (user_at me) client port address count page ≡ Waits → ⊥
    service-moves client port address count page =
        sent-moves (moved_words address count 0 BLOCK_WORDS) count (Alter client (CountMoved (moved_words address count 0 BLOCK_WORDS)) ∷ [])
        (Words port (block (moved_words address count 0 BLOCK_WORDS) address page))

    send-end : (side : Turn) (client y : Path) (address count : ℕ) (page : List ℕ) (o : Option Thread) → thread_at w y ≡ o →
        sends_to_thread w (user_at me) side client address count page (and_then (λ t. Some (y, t)) o) ≡ Waits → Ended side y ⊎ Lack side y
    send-end side client y address count page None at h = inl (inl (ap (holds (is_at_hand (other_side side))) at))
    send-end side client y address count page (Some t) at h =
        by (is_free w (parent y) t) refl (receiving w (parent y) (other_side side) t.mode) refl h
      where
        on : (into room : ℕ) → receiving w (parent y) (other_side side) t.mode ≡ Some (into, room) → (b : Bool) → (room == 0) ≡ b →
            (if b then Goes (Alter y (End status.FULL []) ∷ []) Nothing else their_page_at (λ t other_page.
            sends_words (user_at me) client y (moved_words address count into room) address count page into t other_page (words_at w t other_page))
            (reach_word w (parent y) into true)) ≡ Waits → Ended side y ⊎ Lack side y
        on into room there true e h = absurd (cc)
        on into room there false e h =
            inr (
              into,
              room,
              (
                ap (and_then (λ (t : Thread). awaits_on (other_side side) t.mode)) at
                    ∙ received-stage w (parent y) (other_side side) t.mode (into, room) there,
                e,
              ),
              page-away (λ t other_page. sends_words (user_at me) client y (moved_words address count into room) address count page into t other_page
                  (words_at w t other_page))
                  (reach_word w (parent y) into true)
                  (λ t g. words-move client y (moved_words address count into room) address count page into t g (words_at w t g)) h,
            )

        by : (b : Bool) → is_free w (parent y) t ≡ b → (o : Option (ℕ × ℕ)) → receiving w (parent y) (other_side side) t.mode ≡ o →
            when b (sends_into w (user_at me) client y address count page o) ≡ Waits → Ended side y ⊎ Lack side y
        by false e o there h = inl (away side y t at (rw e refl))
        by true e None there h = inl (away side y t at (rw (e, there) refl))
        by true e (Some got) there h = on got.0 got.1 there (got.1 == 0) refl h

    -- what a Send has come to, with its own page there
    module _ (address count : ℕ) (more : (count == 0) ≡ false) (home : is_home (reach_word w s address false) ≡ true) (page : List ℕ) where
      send-thread : (side : Turn) (client y : Path) (talk : Talk) → IsAtStage w me (send_stage side address count)
          → talk_at w (talk_place side me client) ≡ Some talk →
          is_talk_of side me side talk ≡ true → is_with side client (Absent y) talk ≡ true
          → Ended side y ⊎ Lack side y → HasReason w me
      send-thread side client y talk stage at is with_it (inl (inl gone)) =
          found (Sending side address count true client (Absent y)) (stage, more, home, talks-to side client talk (Absent y) at is with_it, gone) refl
      send-thread side client y talk stage at is with_it (inl (inr gone)) =
          found (Sending side address count true client (Unnamed y gone.0))
          (stage, more, home, talks-to side client talk (Unnamed y gone.0) at is with_it, gone.1) refl
      send-thread side client y talk stage at is with_it (inr lack) =
          found (Lacking side address count true client y lack.0 lack.1)
          (stage, more, home, talks-to side client talk (Absent y) at is with_it, lack.2, lack.3) refl

      send-client : (client : Path) (talk : Talk) (p : Peer) → IsAtStage w me (ClientSend address count) → talk_at w me ≡ Some talk
          → is_talk_of turns.Client me turns.Client talk ≡ true →
          talk.peer ≡ p → sends_to w (user_at me) turns.Client (line_of turns.Client me client talk) address count page p ≡ Waits → HasReason w me
      send-client client talk (Server q) stage at is peer h =
          let y = peer-at me talk q at peer in
          let to : talk.peer ≡ Server (At y.0) = peer ∙ ap Server y.1 in
          send-thread turns.Client client y.0 talk stage at is (ap (serves y.0) to ∙ same_path_refl y.0)
          (send-end turns.Client me y.0 address count page (thread_at w y.0) refl
          (subst (λ q. sends_to_thread w (user_at me) turns.Client me address count page (thread_led_to w q) ≡ Waits) y.1 h))
      send-client client talk Parked stage at is peer h =
          found (Sending turns.Client address count true client Unclaimed)
          (stage, more, home, talks-to turns.Client client talk Unclaimed at is (ap (λ q. is_parked (Some q)) peer), tt) refl
      send-client client talk Service stage at is peer h =
          let on = service-open me talk at in
          let goes = subst (λ b. when b (sends_to_service (user_at me) me talk.port address count page) ≡ Waits) on h in
          absurd (service-moves me talk.port address count page goes)

    send-reason : (side : Turn) (address count : ℕ) → IsAtStage w me (send_stage side address count) → send w (user_at me) side address count ≡ Waits
        → HasReason w me
    unfolding send
    send-reason side address count stage h =
        let got = read (in_turn w me side side) _ h in
        let t = talked side side got.0 got.1 in
        by side stage t.client t.talk t.at t.is (count == 0) refl (subst (λ l. sends w (user_at me) side address count l ≡ Waits) t.same got.2)
      where
        on : (side : Turn) → IsAtStage w me (send_stage side address count) → (client : Path) (talk : Talk)
            → talk_at w (talk_place side me client) ≡ Some talk →
            is_talk_of side me side talk ≡ true → (count == 0) ≡ false → is_home (reach_word w s address false) ≡ true → (page : List ℕ) →
            sends_to w (user_at me) side (line_of side me client talk) address count page (line_of side me client talk).other ≡ Waits → HasReason w me
        on turns.Client stage client talk at is more home page h = send-client address count more home page client talk talk.peer stage at is refl h
        on turns.Server stage client talk at is more home page h =
            send-thread address count more home page turns.Server client client talk stage at is (same_path_refl client)
            (send-end turns.Server client client address count page (thread_at w client) refl h)

        by : (side : Turn) → IsAtStage w me (send_stage side address count) → (client : Path) (talk : Talk)
            → talk_at w (talk_place side me client) ≡ Some talk →
            is_talk_of side me side talk ≡ true → (b : Bool) → (count == 0) ≡ b →
            (if b then done (user_at me) [] [] else own_page_at me false
            (λ s page. sends_to w (user_at me) side (line_of side me client talk) address count (words_at w s page) (line_of side me client talk).other)
            (reach_word w s address false)) ≡ Waits → HasReason w me
        by side stage client talk at is true e h = absurd (cc)
        by side stage client talk at is false e h =
            let own = own-there false _ (reach_word w s address false) h in
            on side stage client talk at is e own.0 (words_at w own.1.0 own.1.1) own.1.2

    -- ---- stages that wait for holds alone never wait now

    when-on : (b : Bool) (o : Outcome) → b ≡ true → (o ≡ Waits → ⊥) → when b o ≡ Waits → ⊥
    when-on true o e moves h = moves h
    when-on false o e moves h = absurd (cc)

    done-never : (r : Result Path ℕ) → (r >>= frees w (user_at me)) ≡ Waits → ⊥
    done-never (Err status) h = absurd (cc)
    done-never (Ok x) h =
        when-on (is_unheld w (parent x)) (done (user_at me) (Alter x (SetFault None) ∷ []) []) (rw (unheld (parent x)) refl)
        (done-moves (user_at me) (Alter x (SetFault None) ∷ []) []) h

    fault_done-never : fault_done w (user_at me) ≡ Waits → ⊥
    unfolding fault_done
    fault_done-never h = done-never (or_refuse status.NOTLINKED (faulter_of w me)) h

    second-none : {A : Type 0} (a b : Option A) → or_else a b ≡ None → b ≡ None
    second-none None b h = h
    second-none (Some a) b h = cc

    no-holder-at : (q : Path) → holder_of (w.body q) ≡ None
    unfolding decider
    no-holder-at [] = unheld []
    no-holder-at (j ∷ q) = second-none (decider w q) (holder_of (w.body (j ∷ q))) (unheld (j ∷ q))

    no-porters : (xs : List Path) → list_any (has_porter w) xs ≡ false
    no-porters [] = refl
    no-porters (x ∷ xs) = rw (no-holder-at x) (no-porters xs)

    hold-never : (h x : ℕ) → space_hold w (user_at me) h x ≡ Waits → ⊥
    unfolding space_hold
    hold-never h x waits =
        let one = read (space_argument w (user_at me) h) _ waits in
        let two = read (object_in w (user_at me) space_of one.0 x) _ one.2 in
        let three = unrefused status.HELD (is_frozen_for w me one.0) _ two.2 in
        let four = unrefused status.DENIED (is_within (x ∷ one.0) s) _ three.1 in
        when-on (not (is_held_by_other w me (x ∷ one.0)) && not (list_any (has_porter w) (beneath w (x ∷ one.0))))
        (done (user_at me) (Alter (x ∷ one.0) (SetHolder (Some (At me))) ∷ []) [])
        (rw (no-holder-at (x ∷ one.0), no-porters (beneath w (x ∷ one.0))) refl)
        (done-moves (user_at me) (Alter (x ∷ one.0) (SetHolder (Some (At me))) ∷ []) []) four.1

    -- ---- what chooses

    refused-ready : (stage : Stage) (st : ℕ) → allowed_row w (user_at me) None stage ≡ Refused st → GoesAllowed w me (call_row w (user_at me) None stage)
    unfolding call_row
    refused-ready stage st h =
        subst (λ o. GoesAllowed w me (closed (user_at me) (with_pick (chooses stage) None o))) (sym h) (all-allowed w unheld me (Alter me (End st []) ∷ []))

    chosen-ready : (stage : Stage) (pick : Option Path) → chooses stage ≡ true → (cs : List Change) (said : Said)
        → allowed_row w (user_at me) pick stage ≡ Goes cs said →
        GoesAllowed w me (call_row w (user_at me) pick stage)
    unfolding call_row
    chosen-ready stage pick picks cs said h =
        subst (λ o. GoesAllowed w me (closed (user_at me) (with_pick (chooses stage) pick o))) (sym h)
        (subst (λ b. GoesAllowed w me (closed (user_at me) (with_pick b pick (Goes cs said)))) (sym picks) (all-allowed w unheld me cs))

    module _ (few : w.next ≤ depth) (t : Thread) (there : thread_at w me ≡ Some t) (free : is_free w s t ≡ true)
        (unready : (pick : Option Path) → IsReady w me pick asks.Run → ⊥) where
      not-goes : (stage : Stage) (todo : List Stage) (rest : List ℕ) (pick : Option Path) → t.mode ≡ Calling (stage ∷ todo) rest →
          GoesAllowed w me (call_row w (user_at me) pick stage) → ⊥
      not-goes stage todo rest pick mode goes = unready pick (thread_ready w unheld me pick t stage todo rest there free mode goes)

      at-stage-is : (stage : Stage) (todo : List Stage) (rest : List ℕ) → t.mode ≡ Calling (stage ∷ todo) rest → IsAtStage w me stage
      at-stage-is stage todo rest mode = ap (and_then (λ (t : Thread). first_stage t.mode)) there ∙ ap first_stage mode

      wait-reason : (set : ℕ) (todo : List Stage) (rest : List ℕ) → t.mode ≡ Calling (Wait set ∷ todo) rest → HasReason w me
      unfolding wait
      wait-reason set todo rest mode = by (object_in w (user_at me) portset_of s set) refl
        where
          serving_by : (b : Body) → object_in w (user_at me) portset_of s set ≡ Ok b → (v : Bool) → is_serving w me ≡ v → HasReason w me
          serving_by b e true serving = absurd (not-goes (Wait set) todo rest None mode (refused-ready (Wait set) status.LINKED (rw (e, serving) refl)))
          serving_by b e false serving =
              let seen = object-is portset_of s set b e in
              found (Waiting set) (unheld_waits_lem w k s set valid few unheld (record {
                thread = t;
                there = there;
                free = free;
                stage = at-stage-is (Wait set) todo rest mode;
                port_set = (seen.0, ap is_some seen.1);
                idle = serving;
                unready = unready;
              })) refl

          by : (r : Result Body ℕ) → object_in w (user_at me) portset_of s set ≡ r → HasReason w me
          by (Err st) e = absurd (not-goes (Wait set) todo rest None mode (refused-ready (Wait set) st (rw e refl)))
          by (Ok b) e = serving_by b e (is_serving w me) refl

      signal-never : (c : ℕ) (todo : List Stage) (rest : List ℕ) → t.mode ≡ Calling (CondSignal c ∷ todo) rest → ⊥
      unfolding cond_signal sleepers
      signal-never c todo rest mode = by (object_in w (user_at me) cond_of s c) refl
        where
          asleep : (b : Body) → object_in w (user_at me) cond_of s c ≡ Ok b → (j : ℕ) (o : Option ℕ) → asleep_on c (w.body (j ∷ s)) ≡ o → (change : Change)
              → IsIn change (woken (j ∷ s) o) → ⊥
          asleep b e j None at change h = h
          asleep b e j (Some m) at change h =
              not-goes (CondSignal c) todo rest (Some (j ∷ s)) mode
              (chosen-ready (CondSignal c) (Some (j ∷ s)) refl (Alter (j ∷ s) (Replace (MutexLock m)) ∷ Alter me (Finish []) ∷ []) Nothing
              (rw (e, same_path_refl s, at) refl))

          slept : (b : Body) → object_in w (user_at me) cond_of s c ≡ Ok b → (cs : List Change) → sleepers w s c ≡ cs → ⊥
          slept b e [] none =
              not-goes (CondSignal c) todo rest None mode (chosen-ready (CondSignal c) None refl (Alter me (Finish []) ∷ []) Nothing (rw (e, none) refl))
          slept b e (change ∷ cs) some =
              let here : IsIn change (flat_map (λ j. woken (j ∷ s) (asleep_on c (w.body (j ∷ s)))) (slots SLOTS)) = subst (IsIn change) (sym some) (inl refl) in
              let in_it = of_flat_map (λ j. woken (j ∷ s) (asleep_on c (w.body (j ∷ s)))) change (slots SLOTS) here in
              asleep b e in_it.0 (asleep_on c (w.body (in_it.0 ∷ s))) refl change in_it.2

          by : (r : Result Body ℕ) → object_in w (user_at me) cond_of s c ≡ r → ⊥
          by (Err st) e = not-goes (CondSignal c) todo rest None mode (refused-ready (CondSignal c) st (rw e refl))
          by (Ok b) e = slept b e (sleepers w s c) refl

      waits-or-not : (o : Outcome) → (o ≡ Waits) ⊎ (o ≡ Waits → ⊥)
      waits-or-not Waits = inl refl
      waits-or-not (Refused st) = inr (λ h. absurd (cc))
      waits-or-not (Goes cs said) = inr (λ h. absurd (cc))

      -- a stage that doesn't choose: its row waits, or it is ready
      plain-reason : (stage : Stage) (todo : List Stage) (rest : List ℕ) → t.mode ≡ Calling (stage ∷ todo) rest → chooses stage ≡ false →
          (IsAtStage w me stage → allowed_row w (user_at me) None stage ≡ Waits → HasReason w me) → HasReason w me
      plain-reason stage todo rest mode plain reason = by (waits-or-not (allowed_row w (user_at me) None stage))
        where
          by : (allowed_row w (user_at me) None stage ≡ Waits) ⊎ (allowed_row w (user_at me) None stage ≡ Waits → ⊥) → HasReason w me
          by (inl h) = reason (at-stage-is stage todo rest mode) h
          by (inr moves) = absurd (not-goes stage todo rest None mode (stage-ready w unheld me stage plain moves))

      calling-reason : (stage : Stage) (todo : List Stage) (rest : List ℕ) → t.mode ≡ Calling (stage ∷ todo) rest → HasReason w me
      calling-reason (MutexLock m) todo rest mode = plain-reason (MutexLock m) todo rest mode refl (lock-reason m)
      calling-reason (CondAsleep c m) todo rest mode = plain-reason (CondAsleep c m) todo rest mode refl (sleep-reason c m)
      calling-reason (CondSignal c) todo rest mode = absurd (signal-never c todo rest mode)
      calling-reason (Connect h) todo rest mode = plain-reason (Connect h) todo rest mode refl (connect-reason whole h)
      calling-reason (ClientReceive into room) todo rest mode = plain-reason (ClientReceive into room) todo rest mode refl
          (λ at h. receive-at turns.Client into room None at refl h)
      calling-reason (ServerReceive into room) todo rest mode = plain-reason (ServerReceive into room) todo rest mode refl
          (λ at h. receive-at turns.Server into room None at refl h)
      calling-reason (ClientSend address count) todo rest mode = plain-reason (ClientSend address count) todo rest mode refl
          (send-reason turns.Client address count)
      calling-reason (ServerSend address count) todo rest mode = plain-reason (ServerSend address count) todo rest mode refl
          (send-reason turns.Server address count)
      calling-reason ClientOver todo rest mode = plain-reason ClientOver todo rest mode refl (λ at h. over-reason turns.Client None None at refl h)
      calling-reason (ClientOverRef reference) todo rest mode = plain-reason (ClientOverRef reference) todo rest mode refl
          (over_ref-reason turns.Client reference)
      calling-reason (ClientReceiveRef into room reference) todo rest mode = plain-reason (ClientReceiveRef into room reference) todo rest mode refl
          (receive_ref-at turns.Client into room reference)
      calling-reason ServerOver todo rest mode = plain-reason ServerOver todo rest mode refl (λ at h. over-reason turns.Server None None at refl h)
      calling-reason (ServerOverRef reference) todo rest mode = plain-reason (ServerOverRef reference) todo rest mode refl
          (over_ref-reason turns.Server reference)
      calling-reason (ServerReceiveRef into room reference) todo rest mode = plain-reason (ServerReceiveRef into room reference) todo rest mode refl
          (receive_ref-at turns.Server into room reference)
      calling-reason (Wait set) todo rest mode = wait-reason set todo rest mode
      calling-reason FaultDone todo rest mode = plain-reason FaultDone todo rest mode refl (λ at h. absurd (fault_done-never h))
      calling-reason (SpaceHold h x) todo rest mode = plain-reason (SpaceHold h x) todo rest mode refl (λ at waits. absurd (hold-never h x waits))
      calling-reason (Create p x kind) todo rest mode = absurd
          (not-goes (Create p x kind) todo rest None mode (other-ready w unheld me (Create p x kind) refl refl))
      calling-reason stage todo rest mode = absurd (not-goes stage todo rest None mode (other-ready w unheld me stage refl refl))

      -- ---- an instruction goes

      run-ready : (g : List ℕ) → t.mode ≡ Running g → ⊥
      run-ready g mode = unready None (free_runners_are_ready w me t g unheld there free mode)

pub has_reason : UnheldThreadsHaveReasons
has_reason w k s t valid few whole unheld there busy unready = by (is_resting t) refl
  where
    user-only : (a : Bool) → (a || true) ≡ false → ⊥
    user-only true h = absurd (cc)
    user-only false h = absurd (cc)

    awake : is_resting t ≡ false → (m : Mode) → t.mode ≡ m → HasReason w (k ∷ s)
    awake rests (Running g) mode = absurd (run-ready w k s valid whole unheld few t there
        (no-hold-free w k s valid whole unheld (k ∷ s) t rests) unready g mode)
    awake rests (Calling [] rest) mode = absurd (busy rest mode)
    awake rests (Calling (stage ∷ todo) rest) mode =
        calling-reason w k s valid whole unheld few t there (no-hold-free w k s valid whole unheld (k ∷ s) t rests) unready stage todo rest mode
    awake rests (Halted g code) mode = absurd (user-only _ (ap (λ m. not (t.stops == 0) || is_some t.fault || not (is_user m)) (sym mode) ∙ rests))
    awake rests (Native g) mode = absurd (user-only _ (ap (λ m. not (t.stops == 0) || is_some t.fault || not (is_user m)) (sym mode) ∙ rests))

    by : (b : Bool) → is_resting t ≡ b → HasReason w (k ∷ s)
    by true e = record { reason = Resting; stuck = ap (holds is_resting) there ∙ e; named = refl }
    by false e = awake e t.mode refl
