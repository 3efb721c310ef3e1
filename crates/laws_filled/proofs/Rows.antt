-- Each row comes to the same in a filled world, unless it waits or raises a fault of the pager's.
use Rattle.std.proofs.Common.{◌≡◌, ℕ, ◌%◌, Bool, true, false, not, cond, ◌&&◌, ◌||◌, ◌==◌, nat_le, is_some, is_none, if◌then◌else◌, List, [], ◌∷◌, ◌++◌}
use Rattle.std.proofs.Common.{flat_map, slice_set, Option, Some, None, option_map, Result, Ok, Err, refl, sym, ap, ◌∙◌, ◌⊎◌, inl, inr}
use Rattle.std.specs.Prelude.{find}
use Rattle.std.proofs.lemmas.Bool.{and_parts, cases_Bool}
use Rattle.fk_model.specs.declared.instruction.Act.{Act}
use Rattle.fk_model.specs.declared.instruction.Act.TheVariants.{Put, Jump, Load, Store, Halt, Call}
use Rattle.fk_model.specs.declared.limits.TheConstants.{SLOTS, PAGE_WORDS, BLOCK_WORDS}
use Rattle.fk_model.specs.declared.names.Kind.TheVariants as kinds
use Rattle.fk_model.specs.declared.stage.Stage.{Stage}
use Rattle.fk_model.specs.declared.statuses.status.TheConstants as status
use Rattle.fk_model.specs.declared.thread.Turn.{Turn}
use Rattle.fk_model.specs.declared.thread.Turn.TheVariants as turns
use Rattle.fk_model.specs.Places.{Path, same_path, parent, Ptr, leads_to}
use Rattle.fk_model.specs.Places.Ptr.{At}
use Rattle.fk_model.specs.Objects.{Mode, Peer, Talk, Fault, Thread, Body, port_of, thread_of, reference_of, and_then, or_else, holds}
use Rattle.fk_model.specs.Objects.Mode.{Running, Halted}
use Rattle.fk_model.specs.Objects.Peer.{Server, Service, Parked}
use Rattle.fk_model.specs.Objects.Body.{Mutex, Cond, Mapping, Region, Port, Portset, Space, Thread_of, Reference}
use Rattle.fk_model.specs.Calls.{todo_of}
use Rattle.fk_model.specs.Instructions.{act, next}
use Rattle.fk_model.specs.World.{World, Change, serves, apply}
use Rattle.fk_model.specs.World.Change.{Alter, PutPage}
use Rattle.fk_model.specs.World.Edit.{SetPointer, CountMoved, Shift, End, PassTurn, SetFault, Proceed}
use Rattle.fk_model.specs.Searches.{slots, talk_at, fault_at, faulter_of, is_serving, client_at}
use Rattle.fk_model.specs.Holds.{is_frozen, is_free, is_unheld, is_user}
use Rattle.fk_model.specs.Reach.{Reach, words_at}
use Rattle.fk_model.specs.Outcomes.{Said, Outcome, ◌>>=◌, refuse, or_refuse, when, Caller, path_of, last_slot, done, ended, telling}
use Rattle.fk_model.specs.Outcomes.Said.{Nothing}
use Rattle.fk_model.specs.Outcomes.Outcome.{Refused, Waits, Goes}
use Rattle.fk_model.specs.Readers.{kind_at, and_read, seen_as, object_in, handle, fault_on, missed, accessed, own_page_at, own_page, their_page_at, their_page}
use Rattle.fk_model.specs.Talks.{Line, awaited, is_handled, receiving, same_side, other_side, path_to, thread_led_to, is_service_free, ends_beyond}
use Rattle.fk_model.specs.UserRows.{word_at, halts_with, proceeds, loads, stores, enters, performs, executes, run_row, run_row_by}
use Rattle.fk_model.specs.SyncRows.{mutex_lock, mutex_trylock, mutex_unlock, cond_wait, cond_asleep, woken, asleep_on, sleepers, signals, unless_slept_on}
use Rattle.fk_model.specs.SyncRows.{picks_sleeper, cond_signal, cond_broadcast}
use Rattle.fk_model.specs.SpaceRows.{thread_by_handle, thread_stop, thread_go}
use Rattle.fk_model.specs.TransferRows.{at_turn, in_turn, has_sent, sends_words, sends_into, sends_to_thread, sends_to, sends, send, awaits, receive}
use Rattle.fk_model.specs.TransferRows.{receive_ref, passes, fills_in, takes_turn, may_carry, passes_to_thread, passes_to, passes_on, over, over_ref}
use Rattle.fk_model.specs.TransferRows.{overwritten, block, moved_words}
use Rattle.fk_model.specs.LinkRows.{connect, Candidate, is_open, is_parked, slot_in_set, candidate_by, candidate, takes_candidate, takes_picked, wait, end_all}
use Rattle.fk_model.specs.LinkRows.{removes, disconnect}
use Rattle.fk_model.specs.LinkRows.Candidate.{Faulting, Connecting, Resuming}
use Rattle.fk_model.specs.FaultRows.{frees, fault_done}
use Rattle.fk_model.specs.NativeRows.{is_serving_port, connects_here, parked_here, takes_up, accepts_thread, takes_client, accept_row, if_receiving}
use Rattle.fk_model.specs.NativeRows.{with_client, gives_words, gives_to, has_turn, give_row, awaited_at, passes_client, over_row}
use Rattle.fk_model.specs.ObjectRows.{search as search_row, point, clear, locate, kind_number}
use Rattle.fk_model.proofs.walks.PlaceLaws.{same_path_refl, same_path_sym, leads_to_at}
use Rattle.laws_filled.specs.Filled.{Paging, is_listed, is_paged, kept_fault, unfaulted, filled, IsOurs, IsPaging}
use Rattle.laws_filled.proofs.Changes.{AreTame, tame-then, decider-same, frozen_for-same, leads-same}
use Rattle.laws_filled.proofs.Memory.{Reached, reached_word, words-same}
use Rattle.laws_filled.proofs.Memory.Reached.{AtHome, KeptBack, Missed, Nowhere}
use Rattle.laws_filled.proofs.Reading.{blind-port, view-same, thread-same, blind-reference, blind-mutex, blind-cond, blind-portset, object_in-same, handle-same}
use Rattle.laws_filled.proofs.Reading.{space_argument-same, pointer_in-same, kind_number-same, taken_from-same, talk-same, fault-same, objects-same}
use Rattle.laws_filled.proofs.Reading.{client_of-same, client_at-same, receiving-same, awaited_at-same, line-same, ends-same, asleep-same, sleepers-same}
use Rattle.laws_filled.proofs.Reading.{slot_in_set-same, connecting_to-same}

-- what a row comes to in a world, and in the filled one
pub data Seen (p : Paging) (w : World) (me : Path) : Outcome → Outcome → Type 0 where
  Waiting : {o : Outcome} → Seen p w me Waits o
  Refusing : {status : ℕ} → Seen p w me (Refused status) (Refused status)
  Raising : {fault : Fault} {o : Outcome} → is_paged p fault ≡ true → fault.taker ≡ None → Seen p w me (Goes (Alter me (SetFault (Some fault)) ∷ []) Nothing) o
  Going : {cs : List Change} {said : Said} → AreTame p w cs → Seen p w me (Goes cs said) (Goes cs said)

module _ (p : Paging) (w : World) (me : Path) where
  -- ---- checks

  pub seen->>= : {A : Type 0} (r r' : Result A ℕ) (go go' : A → Outcome) → r' ≡ r → ((a : A) → r ≡ Ok a → Seen p w me (go a) (go' a)) →
      Seen p w me (r >>= go) (r' >>= go')
  seen->>= r r' go go' same seen = rw same (by r refl)
    where
      by : (q : Result _ ℕ) → r ≡ q → Seen p w me (q >>= go) (q >>= go')
      by (Ok a) e = seen a e
      by (Err status) e = Refusing

  refuse-same : (status : ℕ) (t t' : Bool) → t' ≡ t → refuse status t' ≡ refuse status t
  refuse-same status t t' same = ap (refuse status) same

  or_refuse-same : {A : Type 0} (status : ℕ) (o o' : Option A) → o' ≡ o → or_refuse status o' ≡ or_refuse status o
  or_refuse-same status o o' same = ap (or_refuse status) same

  pub seen-when : (t t' : Bool) (o o' : Outcome) → t' ≡ t → Seen p w me o o' → Seen p w me (when t o) (when t' o')
  seen-when t t' o o' same seen = rw same (by t)
    where
      by : (b : Bool) → Seen p w me (when b o) (when b o')
      by true = seen
      by false = Waiting

  pub seen-if : (t : Bool) (a b a' b' : Outcome) → Seen p w me a a' → Seen p w me b b' → Seen p w me (if t then a else b) (if t then a' else b')
  seen-if true a b a' b' first second = first
  seen-if false a b a' b' first second = second

  -- ---- ends of a stage

  pub seen-done : (c : Caller) (cs : List Change) (answers : List ℕ) → AreTame p w cs → Seen p w me (done c cs answers) (done c cs answers)
  seen-done c cs answers calm = by c.is_porter
    where
      by : (porter : Bool) → Seen p w me (done (record c { is_porter = porter }) cs answers) (done (record c { is_porter = porter }) cs answers)
      by true = Going calm
      by false = Going (tame-then p w cs _ calm (λ v. (refl, tt)))

  pub seen-ended : (c : Caller) (cs : List Change) (answers : List ℕ) → AreTame p w cs → Seen p w me (ended c cs answers) (ended c cs answers)
  seen-ended c cs answers calm = by c.is_porter
    where
      by : (porter : Bool) → Seen p w me (ended (record c { is_porter = porter }) cs answers) (ended (record c { is_porter = porter }) cs answers)
      by true = Going calm
      by false = Going (tame-then p w cs _ calm (λ v. (refl, tt)))

  -- (what raises a fault tells nothing, and isn't told of)
  pub seen-telling : (said : Said) (cs : List Change) (other : Said) → AreTame p w cs →
      Seen p w me (telling said (Goes cs other)) (telling said (Goes cs other))
  seen-telling said cs Nothing calm = Going calm
  seen-telling said cs other calm = Going calm

  pub seen-done-told : (said : Said) (c : Caller) (cs : List Change) (answers : List ℕ) → AreTame p w cs →
      Seen p w me (telling said (done c cs answers)) (telling said (done c cs answers))
  seen-done-told said c cs answers calm = by c.is_porter
    where
      by : (porter : Bool) →
          Seen p w me (telling said (done (record c { is_porter = porter }) cs answers)) (telling said (done (record c { is_porter = porter }) cs answers))
      by true = Going calm
      by false = seen-telling said _ Nothing (tame-then p w cs _ calm (λ v. (refl, tt)))

  ruleset seen_row = (seen->>=, seen-when, refuse-same, or_refuse-same, Seen.Waiting, Seen.Refusing)

tame-end_all : (p : Paging) (ends : List Path) (v : World) → AreTame p v (end_all ends)
tame-end_all p [] v = tt
tame-end_all p (x ∷ ends) v = (refl, tame-end_all p ends (apply (Alter x (End status.ENDED [])) v))

module _ (p : Paging) (w : World) (paging : IsPaging p w) where
  abbrev F : World
  F = filled p w

  -- ---- memory

  missed-seen : (otherwise : Outcome) (me : Path) (page : ℕ) (write : Bool) (keeper : Option Ptr) → Seen p w me otherwise otherwise →
      Seen p w me (missed otherwise me page write keeper) (missed otherwise me page write keeper)
  missed-seen otherwise me page write None seen = seen
  missed-seen otherwise me page write (Some port) seen = by (is_paged p (record { page = page; write = write; port = port; taker = None })) refl
    where
      by : (b : Bool) → is_paged p (record { page = page; write = write; port = port; taker = None }) ≡ b →
          Seen p w me (Goes (fault_on me page write port ∷ []) Nothing) (Goes (fault_on me page write port ∷ []) Nothing)
      by true e = Raising e refl
      by false e = Going (rw e refl, tt)

  kept-seen : (me : Path) (page : ℕ) (write : Bool) (o : Outcome) → is_listed p page ≡ true →
      Seen p w me (Goes (fault_on me page write (At p.port) ∷ []) Nothing) o
  kept-seen me page write o listed = Raising (rw (same_path_refl p.port) listed) refl

  -- go and go' come to the same at a page that is home
  abbrev SeenAtHome : Path → (Path → ℕ → Outcome) → (Path → ℕ → Outcome) → Type 0
  SeenAtHome me go go' = (s : Path) (page : ℕ) (words : List ℕ) → w.page s page ≡ Some words → Seen p w me (go s page) (go' s page)

  accessed-seen : (me : Path) (write : Bool) (halts : ℕ → Outcome) (go go' : Path → ℕ → Outcome) (r r' : Reach) → Reached p w r r' →
      ((code : ℕ) → Seen p w me (halts code) (halts code)) → SeenAtHome me go go' → Seen p w me (accessed me write halts go r) (accessed me write halts go' r')
  accessed-seen me write halts go go' _ _ (AtHome s page words there) halting seen = seen s page words there
  accessed-seen me write halts go go' _ _ (KeptBack s page r listed) halting seen = kept-seen me page write (accessed me write halts go' r) listed
  accessed-seen me write halts go go' _ _ (Missed s page keeper) halting seen = missed-seen _ me page write keeper (halting _)
  accessed-seen me write halts go go' _ _ Nowhere halting seen = halting _

  own_page-seen : (c : Caller) (address : ℕ) (write : Bool) (go go' : Path → ℕ → Outcome) → SeenAtHome (path_of c) go go' →
      Seen p w (path_of c) (own_page w c address write go) (own_page F c address write go')
  own_page-seen c address write go go' seen = by _ _ (reached_word p w paging c.space address write)
    where
      by : (r r' : Reach) → Reached p w r r' → Seen p w (path_of c) (own_page_at (path_of c) write go r) (own_page_at (path_of c) write go' r')
      by _ _ (AtHome s page words there) = seen s page words there
      by _ _ (KeptBack s page r listed) = kept-seen (path_of c) page write (own_page_at (path_of c) write go' r) listed
      by _ _ (Missed s page keeper) = missed-seen (Refused status.BADADDRESS) (path_of c) page write keeper Refusing
      by _ _ Nowhere = Refusing

  their_page-seen : (me space : Path) (address : ℕ) (go go' : Path → ℕ → Outcome) → SeenAtHome me go go' →
      Seen p w me (their_page w space address go) (their_page F space address go')
  their_page-seen me space address go go' seen = by _ _ (reached_word p w paging space address true)
    where
      by : (r r' : Reach) → Reached p w r r' → Seen p w me (their_page_at go r) (their_page_at go' r')
      by _ _ (AtHome s page words there) = seen s page words there
      by _ _ (KeptBack s page o listed) = Waiting
      by _ _ (Missed s page keeper) = Waiting
      by _ _ Nowhere = Waiting

  -- ---- instructions

  enters-seen : (me : Path) (g : List ℕ) (counter : ℕ) (todo : Option (List Stage)) → Seen p w me (enters me g counter todo) (enters me g counter todo)
  enters-seen me g counter (Some todo) = Going (refl, tt)
  enters-seen me g counter None = Going (refl, tt)

  proceeds-seen : (me : Path) (mode : Mode) (counter : ℕ) → Seen p w me (proceeds me mode counter) (proceeds me mode counter)
  proceeds-seen me mode counter = Going (refl, tt)

  written-seen : (me s : Path) (page : ℕ) (words : List ℕ) (mode : Mode) (counter : ℕ) → is_some (w.page s page) ≡ true →
      Seen p w me (Goes (PutPage s page words ∷ Alter me (Proceed mode counter) ∷ []) Nothing)
      (Goes (PutPage s page words ∷ Alter me (Proceed mode counter) ∷ []) Nothing)
  written-seen me s page words mode counter home = Going (home, (refl, tt))

  performs-seen : (known : List ℕ → Option (List Stage)) (space me : Path) (g : List ℕ) (counter : ℕ) (a : Act) →
      Seen p w me (performs known w space me g counter a) (performs known F space me g counter a)
  performs-seen known space me g counter (Load register address) =
      accessed-seen me false (halts_with me g counter) (loads w me g counter register address) (loads F me g counter register address) _ _
      (reached_word p w paging space address false) (λ code. proceeds-seen me (Halted g code) counter)
      (λ s page words there. rw (words-same p w s page words there)
      (proceeds-seen me (Running (slice_set g register (word_at w s page address))) (next counter)))
  performs-seen known space me g counter (Store address value) =
      accessed-seen me true (halts_with me g counter) (stores w me g counter address value) (stores F me g counter address value) _ _
      (reached_word p w paging space address true) (λ code. proceeds-seen me (Halted g code) counter)
      (λ s page words there. rw (words-same p w s page words there)
      (written-seen me s page (slice_set (words_at w s page) (address % PAGE_WORDS) value) (Running g) (next counter) (ap is_some there)))
  performs-seen known space me g counter Call = enters-seen me g counter (known g)
  performs-seen known space me g counter (Put register value) = Going (refl, tt)
  performs-seen known space me g counter (Jump to) = Going (refl, tt)
  performs-seen known space me g counter (Halt code) = Going (refl, tt)

  pub run_row-seen : (space : Path) (slot : ℕ) (g : List ℕ) (counter : ℕ) →
      Seen p w (slot ∷ space) (run_row w space slot g counter) (run_row F space slot g counter)
  unfolding run_row_by
  run_row-seen space slot g counter =
      accessed-seen (slot ∷ space) false (halts_with (slot ∷ space) g counter) (executes todo_of w space (slot ∷ space) g counter)
      (executes todo_of F space (slot ∷ space) g counter) _ _ (reached_word p w paging space counter false)
      (λ code. proceeds-seen (slot ∷ space) (Halted g code) counter)
      (λ s page words there. rw (words-same p w s page words there)
      (performs-seen todo_of space (slot ∷ space) g counter (act (word_at w s page counter) g counter)))

  -- ---- what names objects

  ruleset blind = (blind-reference, blind-mutex, blind-cond, blind-portset)

  ruleset reads = (seen_row, object_in-same, space_argument-same, handle-same, pointer_in-same, blind, frozen_for-same)

  pub search_row-seen : (me : Path) (c : Caller) (s from : ℕ) → Seen p w me (search_row w c s from) (search_row F c s from)
  unfolding search_row
  search_row-seen me c s from = search (reads, seen-done, taken_from-same)

  led-tame : (c : Caller) (space : Path) (x : ℕ) (old to : Ptr) → object_in w c reference_of space x ≡ Ok old →
      AreTame p w (Alter (x ∷ space) (SetPointer to) ∷ [])
  unfolding object_in
  led-tame c space x old to read = (by (nat_le x (last_slot c)) read, tt)
    where
      of_body : (o : Option Body) → seen_as reference_of o ≡ Ok old → is_some (and_then reference_of o) ≡ true
      of_body (Some (Reference q)) e = refl
      of_body None e = cc
      of_body (Some (Mutex locked)) e = cc
      of_body (Some Cond) e = cc
      of_body (Some (Mapping m)) e = cc
      of_body (Some (Region r)) e = cc
      of_body (Some (Port set served)) e = cc
      of_body (Some Portset) e = cc
      of_body (Some (Space birth holder)) e = cc
      of_body (Some (Thread_of t)) e = cc

      by : (b : Bool) → and_read (cond {A = Result ℕ ℕ} b (Ok x) (Err status.BADHANDLE)) (λ k. seen_as reference_of (w.body (k ∷ space))) ≡ Ok old →
          is_some (and_then reference_of (w.body (x ∷ space))) ≡ true
      by true e = of_body (w.body (x ∷ space)) e
      by false e = cc

  pub point-seen : (me : Path) (c : Caller) (s x s2 x2 : ℕ) → Seen p w me (point w c s x s2 x2) (point F c s x s2 x2)
  unfolding point
  point-seen me c s x s2 x2 = search (reads, seen-done, led-tame) depth 14

  pub clear-seen : (me : Path) (c : Caller) (s x : ℕ) → Seen p w me (clear w c s x) (clear F c s x)
  unfolding clear
  clear-seen me c s x = search (reads, seen-done, led-tame) depth 14

  pub mutex_lock-seen : (me : Path) (c : Caller) (m : ℕ) → Seen p w me (mutex_lock w c m) (mutex_lock F c m)
  unfolding mutex_lock
  mutex_lock-seen me c m = search (reads, seen-done) depth 9

  pub mutex_trylock-seen : (me : Path) (c : Caller) (m : ℕ) → Seen p w me (mutex_trylock w c m) (mutex_trylock F c m)
  unfolding mutex_trylock
  mutex_trylock-seen me c m = search (reads, seen-done) depth 9

  pub mutex_unlock-seen : (me : Path) (c : Caller) (m : ℕ) → Seen p w me (mutex_unlock w c m) (mutex_unlock F c m)
  unfolding mutex_unlock
  mutex_unlock-seen me c m = search (reads, seen-done) depth 9

  pub cond_wait-seen : (me : Path) (c : Caller) (cond m : ℕ) → Seen p w me (cond_wait w c cond m) (cond_wait F c cond m)
  unfolding cond_wait
  cond_wait-seen me c cond m = search (reads, Seen.Going) depth 9

  pub cond_asleep-seen : (me : Path) (c : Caller) (cond m : ℕ) → Seen p w me (cond_asleep w c cond m) (cond_asleep F c cond m)
  unfolding cond_asleep
  cond_asleep-seen me c cond m = search reads

  located-seen : (me : Path) (c : Caller) (to : Ptr) (way : List ℕ) →
      Seen p w me (done c [] (way ++ kind_number (kind_at w to) ∷ [])) (done c [] (way ++ kind_number (kind_at F to) ∷ []))
  located-seen me c to way = rw (kind_number-same p w to) (seen-done p w me c [] (way ++ kind_number (kind_at w to) ∷ []) tt)

  pub locate-seen : (me : Path) (c : Caller) (reference s : ℕ) → Seen p w me (locate w c reference s) (locate F c reference s)
  unfolding locate
  locate-seen me c reference s = search (reads, located-seen) depth 12

  -- ---- threads

  abbrev clean : Thread → Thread
  clean t = record t { fault = and_then (kept_fault p) t.fault }

  led-clean : (to : Ptr) → thread_led_to F to ≡ option_map {U = Path × Thread} (λ e. (e.0, clean e.1)) (thread_led_to w to)
  led-clean to = by (path_to to)
    where
      of_body : (x : Path) (o : Option Body) → and_then {B = Path × Thread} (λ t. Some (x, t)) (and_then thread_of (option_map (unfaulted p) o))
          ≡ option_map {U = Path × Thread} (λ e. (e.0, clean e.1)) (and_then {B = Path × Thread} (λ t. Some (x, t)) (and_then thread_of o))
      of_body x None = refl
      of_body x (Some (Thread_of t)) = refl
      of_body x (Some b) = refl

      by : (o : Option Path) → and_then {B = Path × Thread} (λ x. and_then {B = Path × Thread} (λ t. Some (x, t)) (and_then thread_of (F.body x))) o
          ≡ option_map {U = Path × Thread} (λ e. (e.0, clean e.1))
          (and_then {B = Path × Thread} (λ x. and_then {B = Path × Thread} (λ t. Some (x, t)) (and_then thread_of (w.body x))) o)
      by None = refl
      by (Some x) = of_body x (w.body x)

  -- a thread by a handle: its fault isn't looked at
  by_handle-seen : (me : Path) (c : Caller) (h : ℕ) (go go' : Path × Thread → Outcome) → ((e : Path × Thread) → Seen p w me (go e) (go' (e.0, clean e.1))) →
      Seen p w me (thread_by_handle w c h >>= go) (thread_by_handle F c h >>= go')
  by_handle-seen me c h go go' seen = rw (handle-same p w c kinds.Thread h) (by (handle w c kinds.Thread h))
    where
      found : (o : Option (Path × Thread)) → Seen p w me (or_refuse status.WRONGKIND o >>= go)
          (or_refuse status.WRONGKIND (option_map {U = Path × Thread} (λ e. (e.0, clean e.1)) o) >>= go')
      found None = Refusing
      found (Some e) = seen e

      by : (r : Result Ptr ℕ) → Seen p w me (and_read r (λ to. or_refuse status.WRONGKIND (thread_led_to w to)) >>= go)
          (and_read r (λ to. or_refuse status.WRONGKIND (thread_led_to F to)) >>= go')
      by (Ok to) = rw (led-clean to) (found (thread_led_to w to))
      by (Err status) = Refusing

  pub thread_stop-seen : (me : Path) (c : Caller) (h : ℕ) → Seen p w me (thread_stop w c h) (thread_stop F c h)
  unfolding thread_stop
  thread_stop-seen me c h = search (by_handle-seen, reads, seen-done) depth 9

  pub thread_go-seen : (me : Path) (c : Caller) (h : ℕ) → Seen p w me (thread_go w c h) (thread_go F c h)
  unfolding thread_go
  thread_go-seen me c h = search (by_handle-seen, reads, seen-done) depth 9

  -- ---- conditions

  woken-calm : (v : World) (x : Path) (m : Option ℕ) → AreTame p v (woken x m)
  woken-calm v x None = tt
  woken-calm v x (Some m) = (refl, tt)

  all_woken-calm : (v : World) (space : Path) (mutex : ℕ → Option ℕ) (ks : List ℕ) → AreTame p v (flat_map (λ k. woken (k ∷ space) (mutex k)) ks)
  all_woken-calm v space mutex [] = tt
  all_woken-calm v space mutex (k ∷ ks) = tame-then p v (woken (k ∷ space) (mutex k)) _ (woken-calm v _ _) (λ u. all_woken-calm u space mutex ks)

  sleepers-calm : (space : Path) (cond : ℕ) → AreTame p w (sleepers w space cond)
  unfolding sleepers
  sleepers-calm space cond = all_woken-calm w space (λ k. asleep_on cond (w.body (k ∷ space))) (slots SLOTS)

  signals-seen : (me : Path) (c : Caller) (cs : List Change) → AreTame p w cs → Seen p w me (signals c cs) (signals c cs)
  signals-seen me c [] calm = Waiting
  signals-seen me c (change ∷ changes) calm = seen-done p w me c (change ∷ changes) [] calm

  unless-seen : (me : Path) (c : Caller) (cs : List Change) → Seen p w me (unless_slept_on c cs) (unless_slept_on c cs)
  unless-seen me c [] = seen-done p w me c [] [] tt
  unless-seen me c (change ∷ changes) = Waiting

  picks-seen : (me : Path) (c : Caller) (cond : ℕ) (pick : Option Path) → Seen p w me (picks_sleeper w c cond pick) (picks_sleeper F c cond pick)
  picks-seen me c cond None = rw (sleepers-same p w c.space cond) (unless-seen me c (sleepers w c.space cond))
  picks-seen me c cond (Some x) = rw (asleep-same p w cond x) (seen-when p w me _ _ _ _ refl (signals-seen me c _ (woken-calm w x (asleep_on cond (w.body x)))))

  pub cond_signal-seen : (me : Path) (c : Caller) (pick : Option Path) (cond : ℕ) → Seen p w me (cond_signal w c pick cond) (cond_signal F c pick cond)
  unfolding cond_signal
  cond_signal-seen me c pick cond = search (reads, picks-seen)

  broadcast-seen : (me : Path) (c : Caller) (cond : ℕ) → Seen p w me (done c (sleepers w c.space cond) []) (done c (sleepers F c.space cond) [])
  broadcast-seen me c cond = rw (sleepers-same p w c.space cond) (seen-done p w me c (sleepers w c.space cond) [] (sleepers-calm c.space cond))

  pub cond_broadcast-seen : (me : Path) (c : Caller) (cond : ℕ) → Seen p w me (cond_broadcast w c cond) (cond_broadcast F c cond)
  unfolding cond_broadcast
  cond_broadcast-seen me c cond = search (reads, broadcast-seen)

  -- ---- talks

  linked-same : (me : Path) → is_some (talk_at F me) ≡ is_some (talk_at w me)
  linked-same me = ap is_some (talk-same p w me)

  pub connect-seen : (me : Path) (c : Caller) (h : ℕ) → Seen p w me (connect w c h) (connect F c h)
  unfolding connect
  connect-seen me c h = search (reads, linked-same)

  in_turn-same : (me : Path) (side turn : Turn) → in_turn F me side turn ≡ in_turn w me side turn
  in_turn-same me side turn = ap (at_turn turn) (line-same p w me side)

  unheld-same : (space : Path) → is_unheld F space ≡ is_unheld w space
  unheld-same space = ap (λ (d : Option Ptr). not (is_some d)) (decider-same p w space)

  service-same : (port : Ptr) → is_service_free F port ≡ is_service_free w port
  service-same port = λ i. holds (λ x. unheld-same (parent x) i) (path_to port)

  none-clean : (o : Option Fault) → is_none o ≡ true → is_none (and_then (kept_fault p) o) ≡ true
  none-clean None e = refl
  none-clean (Some fault) e = cc

  and-made : (a b c d : Bool) → (a && b && c && d) ≡ true → (c' : Bool) → (c ≡ true → c' ≡ true) → (a && b && c' && d) ≡ true
  and-made true true true true e c' from = rw (from refl) refl
  and-made false b c d e c' from = cc
  and-made true false c d e c' from = cc
  and-made true true false d e c' from = cc
  and-made true true true false e c' from = cc

  free-clean : (space : Path) (t : Thread) → is_free w space t ≡ true → is_free F space (clean t) ≡ true
  free-clean space t free =
      ap (λ (d : Option Ptr). not (is_some d) && t.stops == 0 && is_none (and_then (kept_fault p) t.fault) && is_user t.mode) (decider-same p w space)
      ∙ and-made (not (is_frozen w space)) (t.stops == 0) (is_none t.fault) (is_user t.mode) free (is_none (and_then (kept_fault p) t.fault))
      (none-clean t.fault)

  -- a thread that is free, and meets a test that looks at no fault
  when_free-seen : (me space : Path) (t : Thread) (test : Bool) (o o' : Outcome) → (test ≡ true → Seen p w me o o') →
      Seen p w me (when (is_free w space t && test) o) (when (is_free F space (clean t) && test) o')
  when_free-seen me space t test o o' seen = by (is_free w space t) refl
    where
      met : (b : Bool) → (b ≡ true → Seen p w me o o') → Seen p w me (when b o) (when b o')
      met true after = after refl
      met false after = Waiting

      by : (b : Bool) → is_free w space t ≡ b → Seen p w me (when (b && test) o) (when (is_free F space (clean t) && test) o')
      by false e = Waiting
      by true e = rw (free-clean space t e) (met test seen)

  pub free-seen : (me space : Path) (t : Thread) (o o' : Outcome) → Seen p w me o o' →
      Seen p w me (when (is_free w space t) o) (when (is_free F space (clean t)) o')
  free-seen me space t o o' seen = by (is_free w space t) refl
    where
      by : (b : Bool) → is_free w space t ≡ b → Seen p w me (when b o) (when (is_free F space (clean t)) o')
      by false e = Waiting
      by true e = rw (free-clean space t e) seen

  has_sent-seen : (me : Path) (c : Caller) (k count : ℕ) (cs : List Change) (said : Said) → AreTame p w cs →
      Seen p w me (has_sent c k count cs said) (has_sent c k count cs said)
  has_sent-seen me c k count cs said calm =
      seen-if p w me (k == count) _ _ _ _ (seen-done-told p w me said c _ [] shifts) (Going shifts)
    where
      shifts : AreTame p w (cs ++ Alter (path_of c) (Shift k) ∷ [])
      shifts = tame-then p w cs _ calm (λ v. (refl, tt))

  sends_into-seen : (me : Path) (c : Caller) (client y : Path) (address count : ℕ) (page : List ℕ) (o : Option (ℕ × ℕ)) →
      Seen p w me (sends_into w c client y address count page o) (sends_into F c client y address count page o)
  sends_into-seen me c client y address count page None = Waiting
  sends_into-seen me c client y address count page (Some r) =
      seen-if p w me (r.1 == 0) _ _ _ _ (Going (refl, tt)) (their_page-seen me (parent y) r.0 (go w) (go F)
      (λ t other words there. rw (words-same p w t other words there)
      (has_sent-seen me c (moved_words address count r.0 r.1) count (moves t other) Nothing (ap is_some there, (refl, (refl, tt))))))
    where
      go : World → Path → ℕ → Outcome
      go v t other = sends_words c client y (moved_words address count r.0 r.1) address count page r.0 t other (words_at v t other)

      moves : Path → ℕ → List Change
      moves t other =
          let k = moved_words address count r.0 r.1 in
          PutPage t other (overwritten (words_at w t other) (r.0 % PAGE_WORDS) (block k address page)) ∷ Alter client (CountMoved k) ∷ Alter y (Shift k) ∷ []

  sends_to_thread-seen : (me : Path) (c : Caller) (side : Turn) (client : Path) (address count : ℕ) (page : List ℕ) (o : Option (Path × Thread)) →
      Seen p w me (sends_to_thread w c side client address count page o)
      (sends_to_thread F c side client address count page (option_map {U = Path × Thread} (λ e. (e.0, clean e.1)) o))
  sends_to_thread-seen me c side client address count page None = Waiting
  sends_to_thread-seen me c side client address count page (Some e) =
      rw (receiving-same p w (parent e.0) (other_side side) e.1.mode)
      (free-seen me (parent e.0) e.1 _ _ (sends_into-seen me c client e.0 address count page (receiving w (parent e.0) (other_side side) e.1.mode)))

  sends_to-seen : (me : Path) (c : Caller) (side : Turn) (l : Line) (address count : ℕ) (page : List ℕ) (peer : Peer) →
      Seen p w me (sends_to w c side l address count page peer) (sends_to F c side l address count page peer)
  sends_to-seen me c side l address count page (Server thread) =
      rw (led-clean thread) (sends_to_thread-seen me c side l.client address count page (thread_led_to w thread))
  sends_to-seen me c side l address count page Service =
      seen-when p w me _ _ _ _ (service-same l.talk.port) (has_sent-seen me c (moved_words address count 0 BLOCK_WORDS) count
      (Alter l.client (CountMoved (moved_words address count 0 BLOCK_WORDS)) ∷ []) _ (refl, tt))
  sends_to-seen me c side l address count page Parked = Waiting

  sends-seen : (c : Caller) (side : Turn) (address count : ℕ) (l : Line) →
      Seen p w (path_of c) (sends w c side address count l) (sends F c side address count l)
  sends-seen c side address count l =
      seen-if p w (path_of c) (count == 0) _ _ _ _ (seen-done p w (path_of c) c [] [] tt) (own_page-seen c address false (go w) (go F)
      (λ s page words there. rw (words-same p w s page words there) (sends_to-seen (path_of c) c side l address count (words_at w s page) l.other)))
    where
      go : World → Path → ℕ → Outcome
      go v s page = sends_to v c side l address count (words_at v s page) l.other

  pub send-seen : (c : Caller) (side : Turn) (address count : ℕ) → Seen p w (path_of c) (send w c side address count) (send F c side address count)
  unfolding send
  send-seen c side address count = search (seen->>=, in_turn-same, sends-seen)

  awaits-seen : (c : Caller) (into room : ℕ) → Seen p w (path_of c) (awaits w c into room) (awaits F c into room)
  awaits-seen c into room =
      seen-if p w (path_of c) (room == 0) _ _ _ _ Waiting (own_page-seen c into true (λ s page. Waits) (λ s page. Waits) (λ s page words there. Waiting))

  pub receive-seen : (c : Caller) (side : Turn) (into room : ℕ) → Seen p w (path_of c) (receive w c side into room) (receive F c side into room)
  unfolding receive
  receive-seen c side into room = search (seen->>=, in_turn-same, awaits-seen)

  pub receive_ref-seen : (c : Caller) (side : Turn) (into room reference : ℕ) →
      Seen p w (path_of c) (receive_ref w c side into room reference) (receive_ref F c side into room reference)
  unfolding receive_ref
  receive_ref-seen c side into room reference = search (reads, receive-seen)

  -- ---- a turn that goes on, with a pointer or without

  -- the reference that is to take a pointer is one, so taking it is tame
  fills-tame : (space : Path) (carried : Option Ptr) (to : Option ℕ) → is_handled w space to ≡ true → AreTame p w (fills_in space carried to)
  fills-tame space None to handled = tt
  fills-tame space (Some q) None handled = tt
  fills-tame space (Some q) (Some k) handled = (by (w.body (k ∷ space)) (and_parts _ _ handled).1, tt)
    where
      by : (o : Option Body) → holds (λ b. is_some (reference_of b)) o ≡ true → is_some (and_then reference_of o) ≡ true
      by None e = cc
      by (Some b) e = e

  takes-tame : (y : Path) (carried : Option Ptr) (to : Option ℕ) → is_handled w (parent y) to ≡ true → AreTame p w (takes_turn y carried to)
  takes-tame y carried to handled = tame-then p w (fills_in (parent y) carried to) _ (fills-tame (parent y) carried to handled) (λ v. (refl, tt))

  -- who receives isn't refused for its handle
  handled-receiver : (space : Path) (side : Turn) (mode : Mode) → is_some (receiving w space side mode) ≡ true → is_handled w space (awaited mode) ≡ true
  handled-receiver space side mode = by (is_handled w space (awaited mode)) _
    where
      by : (b : Bool) (o : Option (ℕ × ℕ)) → is_some (if b then o else None) ≡ true → b ≡ true
      by true o e = refl
      by false o e = cc

  carry-same : (me : Path) (carried : Option Ptr) → may_carry F me carried ≡ may_carry w me carried
  carry-same me None = refl
  carry-same me (Some q) = ap not (leads-same p w me q)

  passes-seen : (me : Path) (c : Caller) (side : Turn) (client : Path) (cs : List Change) → AreTame p w cs →
      Seen p w me (passes c side client cs) (passes c side client cs)
  passes-seen me c side client cs calm = seen-done p w me c _ [] (tame-then p w cs _ calm (λ v. (refl, tt)))

  passes_to_thread-seen : (me : Path) (c : Caller) (side : Turn) (client : Path) (carried : Option Ptr) (o : Option (Path × Thread)) →
      Seen p w me (passes_to_thread w c side client carried o)
      (passes_to_thread F c side client carried (option_map {U = Path × Thread} (λ e. (e.0, clean e.1)) o))
  passes_to_thread-seen me c side client carried None = Waiting
  passes_to_thread-seen me c side client carried (Some e) =
      rw (receiving-same p w (parent e.0) (other_side side) e.1.mode)
      (when_free-seen me (parent e.0) e.1 (is_some (receiving w (parent e.0) (other_side side) e.1.mode)) _ _
      (λ on. passes-seen me c side client (takes_turn e.0 carried (awaited e.1.mode))
      (takes-tame e.0 carried (awaited e.1.mode) (handled-receiver (parent e.0) (other_side side) e.1.mode on))))

  passes_to-seen : (me : Path) (c : Caller) (side : Turn) (l : Line) (carried : Option Ptr) (peer : Peer) →
      Seen p w me (passes_to w c side l carried peer) (passes_to F c side l carried peer)
  passes_to-seen me c side l carried (Server thread) = rw (led-clean thread) (passes_to_thread-seen me c side l.client carried (thread_led_to w thread))
  passes_to-seen me c side l carried Service =
      seen-when p w me _ _ _ _ (service-same l.talk.port) (seen-done-told p w me _ c (Alter l.client (PassTurn (other_side side)) ∷ []) [] (refl, tt))
  passes_to-seen me c side l carried Parked = Waiting

  passes_on-seen : (me : Path) (c : Caller) (side : Turn) (carried : Option Ptr) (l : Line) →
      Seen p w me (passes_on w c side carried l) (passes_on F c side carried l)
  passes_on-seen me c side carried l = seen-when p w me _ _ _ _ (carry-same (path_of c) carried) (passes_to-seen me c side l carried l.other)

  pub over-seen : (me : Path) (c : Caller) (side : Turn) (carried : Option Ptr) → Seen p w me (over w c side carried) (over F c side carried)
  unfolding over
  over-seen me c side carried = search (seen->>=, in_turn-same, passes_on-seen)

  pub over_ref-seen : (me : Path) (c : Caller) (side : Turn) (reference : ℕ) → Seen p w me (over_ref w c side reference) (over_ref F c side reference)
  unfolding over_ref
  over_ref-seen me c side reference = search (reads, over-seen)

  removes-seen : (me : Path) (c : Caller) (side : Turn) (l : Line) → Seen p w me (removes w c side l) (removes F c side l)
  removes-seen me c side l =
      rw (ends-same p w side l) (seen-done-told p w me _ c _ [] (tame-then p w (end_all (ends_beyond w side l)) _ (tame-end_all p _ w) (λ v. (refl, tt))))

  pub disconnect-seen : (me : Path) (c : Caller) (side : Turn) → Seen p w me (disconnect w c side) (disconnect F c side)
  unfolding disconnect
  disconnect-seen me c side = search (seen->>=, or_refuse-same, line-same, removes-seen)

  -- ---- who serves

  -- the taker of a fault of the pager's is nobody else
  unserved : (me : Path) (fault : Fault) → same_path p.porter me ≡ false → IsOurs p fault.taker → holds (serves me) fault.taker ≡ false
  unserved me fault other ours = by fault.taker ours
    where
      by : (o : Option Peer) → IsOurs p o → holds (serves me) o ≡ false
      by None e = refl
      by (Some (Server thread)) e = rw (leads_to_at p.porter thread e) other
      by (Some Service) e = absurd e
      by (Some Parked) e = absurd e

  taken-same : (me y : Path) → same_path p.porter me ≡ false →
      holds (λ (fault : Fault). holds (serves me) fault.taker) (fault_at F y) ≡ holds (λ (fault : Fault). holds (serves me) fault.taker) (fault_at w y)
  taken-same me y other = rw (fault-same p w y) (by (fault_at w y) refl)
    where
      struck : (fault : Fault) (b : Bool) → is_paged p fault ≡ b → fault_at w y ≡ Some fault →
          holds (λ (f : Fault). holds (serves me) f.taker) (cond b None (Some fault)) ≡ holds (serves me) fault.taker
      struck fault true e there = sym (unserved me fault other (paging.taken y fault there e))
      struck fault false e there = refl

      by : (o : Option Fault) → fault_at w y ≡ o →
          holds (λ (f : Fault). holds (serves me) f.taker) (and_then (kept_fault p) o) ≡ holds (λ (f : Fault). holds (serves me) f.taker) o
      by None e = refl
      by (Some fault) e = struck fault (is_paged p fault) refl e

  faulter-same : (me : Path) → same_path p.porter me ≡ false → faulter_of F me ≡ faulter_of w me
  unfolding faulter_of
  faulter-same me other = λ i. find (λ c. taken-same me c other i) (objects-same p w i)

  serving-same : (me : Path) → same_path p.porter me ≡ false → is_serving F me ≡ is_serving w me
  serving-same me other = λ i. is_some (client_of-same p w me i) || is_some (faulter-same me other i)

  frees-seen : (me : Path) (c : Caller) (x : Path) → Seen p w me (frees w c x) (frees F c x)
  frees-seen me c x = seen-when p w me _ _ _ _ (unheld-same (parent x)) (seen-done p w me c (Alter x (SetFault None) ∷ []) [] (refl, tt))

  pub fault_done-seen : (me : Path) (c : Caller) → same_path p.porter (path_of c) ≡ false → Seen p w me (fault_done w c) (fault_done F c)
  unfolding fault_done
  fault_done-seen me c other =
      seen->>= p w me _ _ (frees w c) (frees F c) (or_refuse-same p w me status.NOTLINKED _ _ (faulter-same (path_of c) other)) (λ x e. frees-seen me c x)

  -- ---- wait, elsewhere than where the pager's port is

  module _ (space : Path) (apart : same_path space (parent p.port) ≡ false) (set : ℕ) where
    and-none : (b : Bool) (slot : ℕ) → (if false && b then Some slot else None) ≡ None
    and-none b slot = refl

    at-port : (port : Ptr) → leads_to p.port port ≡ true → slot_in_set w space set port ≡ None
    at-port port leads = rw (leads_to_at p.port port leads, same_path_sym (parent p.port) space, apart) refl

    same-fields : (x : Path) (t : Thread) → candidate_by F space set x t ≡ candidate_by w space set x t
    same-fields x t = λ i. or_else
        (and_then (λ (fault : Fault). if is_open fault.taker then option_map (λ slot. Faulting slot fault)
        (slot_in_set-same p w space set fault.port i) else None) t.fault)
        (if not (is_some (decider-same p w (parent x) i)) && t.stops == 0 && is_none t.fault && is_user t.mode
        then or_else (option_map Connecting (and_then (λ port. slot_in_set-same p w space set port i) (connecting_to-same p w x t i)))
        (and_then (λ (talk : Talk). if is_parked (Some talk.peer) then option_map (λ slot. Resuming slot talk)
        (slot_in_set-same p w space set talk.port i) else None) t.talk)
        else None)

    faulty-busy : (a b d : Bool) → (a && b && false && d) ≡ false
    faulty-busy true true d = refl
    faulty-busy false b d = refl
    faulty-busy true false d = refl

    open-none : (b : Bool) (fault : Fault) → (if b then option_map (λ slot. Faulting slot fault) None else None) ≡ None
    open-none true fault = refl
    open-none false fault = refl

    -- a fault of the pager's is no candidate
    paged-none : (x : Path) (t : Thread) (fault : Fault) → t.fault ≡ Some fault → is_paged p fault ≡ true → candidate_by w space set x t ≡ None
    paged-none x t fault has paged =
        rw (
          has,
          at-port fault.port (and_parts _ _ paged).0,
          open-none (is_open fault.taker) fault,
          faulty-busy (not (is_frozen w (parent x))) (t.stops == 0)
              (is_user t.mode),
        ) refl

    abbrev IsLess : Option Fault → Option Candidate → Option Candidate → Type 0
    IsLess fault o o' = (o ≡ None) ⊎ ((o' ≡ o) × (holds (is_paged p) fault ≡ false))

    by_thread : (x : Path) (t : Thread) → IsLess t.fault (candidate_by w space set x t) (candidate_by F space set x (clean t))
    by_thread x t = by t.fault refl
      where
        same : (o : Option Fault) → t.fault ≡ o → and_then (kept_fault p) o ≡ o → clean t ≡ t
        same o has kept = λ i. record t { fault = (ap (and_then (kept_fault p)) has ∙ kept ∙ sym has) i }

        unpaged : (fault : Fault) (b : Bool) → is_paged p fault ≡ b → t.fault ≡ Some fault →
            IsLess t.fault (candidate_by w space set x t) (candidate_by F space set x (clean t))
        unpaged fault true e has = inl (paged-none x t fault has e)
        unpaged fault false e has =
            inr (
              ap (candidate_by F space set x) (same (Some fault) has (ap (λ (b : Bool). if b then None else Some fault) e))
                  ∙ same-fields x t,
              ap (holds (is_paged p)) has ∙ e,
            )

        by : (o : Option Fault) → t.fault ≡ o → IsLess t.fault (candidate_by w space set x t) (candidate_by F space set x (clean t))
        by None has = inr (ap (candidate_by F space set x) (same None has refl) ∙ same-fields x t, ap (holds (is_paged p)) has)
        by (Some fault) has = unpaged fault (is_paged p fault) refl has

    candidate-less : (x : Path) → IsLess (fault_at w x) (candidate w space set x) (candidate F space set x)
    unfolding candidate
    candidate-less x = rw (unheld-same (parent x)) (by (is_unheld w (parent x)) (w.body x))
      where
        by : (b : Bool) (o : Option Body) →
            IsLess (and_then (λ (t : Thread). t.fault) (and_then thread_of o)) (cond b (and_then (candidate_by w space set x) (and_then thread_of o)) None)
            (cond b (and_then (candidate_by F space set x) (and_then thread_of (option_map (unfaulted p) o))) None)
        by false o = inl refl
        by true None = inl refl
        by true (Some (Thread_of t)) = by_thread x t
        by true (Some b) = inl refl

  takes-seen : (me : Path) (c : Caller) (x : Path) (o : Option Candidate) → same_path p.porter (path_of c) ≡ false →
      holds (is_paged p) (fault_at w x) ≡ false → Seen p w me (takes_candidate c x o) (takes_candidate c x o)
  takes-seen me c x None other free = Waiting
  takes-seen me c x (Some (Faulting slot fault)) other free =
      seen-ended p w me c (Alter x _ ∷ []) _ (rw (free, same_path_sym (path_of c) p.porter, other) refl, tt)
  takes-seen me c x (Some (Connecting slot)) other free = seen-done p w me c (Alter x _ ∷ Alter x _ ∷ []) _ (refl, (refl, tt))
  takes-seen me c x (Some (Resuming slot talk)) other free = seen-ended p w me c (Alter x _ ∷ []) _ (refl, tt)

  takes_picked-seen : (me : Path) (c : Caller) (set : ℕ) (pick : Option Path) → same_path p.porter (path_of c) ≡ false →
      same_path c.space (parent p.port) ≡ false →
      Seen p w me (takes_picked w c set pick) (takes_picked F c set pick)
  takes_picked-seen me c set None other apart = Waiting
  takes_picked-seen me c set (Some x) other apart = by (candidate w c.space set x) (candidate F c.space set x) (candidate-less c.space apart set x)
    where
      by : (o o' : Option Candidate) → (o ≡ None) ⊎ ((o' ≡ o) × (holds (is_paged p) (fault_at w x) ≡ false)) →
          Seen p w me (takes_candidate c x o) (takes_candidate c x o')
      by o o' (inl none) = rw none Waiting
      by o o' (inr same) = rw (same.0) (takes-seen me c x o other same.1)

  pub wait-seen : (me : Path) (c : Caller) (pick : Option Path) (set : ℕ) → same_path p.porter (path_of c) ≡ false →
      same_path c.space (parent p.port) ≡ false → Seen p w me (wait w c pick set) (wait F c pick set)
  unfolding wait
  wait-seen me c pick set other apart = search (reads, serving-same, takes_picked-seen, other, apart)

  -- ---- native servers

  serving_port-same : (port : Path) → is_serving_port F port ≡ is_serving_port w port
  serving_port-same port = λ i. holds (λ (state : Option ℕ × Bool). state.1) (view-same p port_of (blind-port p) (w.body port) i) && unheld-same (parent port) i

  -- what an option is
  data Is {A : Type 0} (o : Option A) : Type 0 where
    Absent : o ≡ None → Is o
    Present : (a : A) → o ≡ Some a → Is o

  is : {A : Type 0} (o : Option A) → Is o
  is None = Absent refl
  is (Some a) = Present a refl

  -- whether a thread stands there, in the filled world as well
  data Stands (x : Path) : Type 0 where
    Nobody : and_then thread_of (w.body x) ≡ None → and_then thread_of (F.body x) ≡ None → Stands x
    Somebody : (t : Thread) → and_then thread_of (w.body x) ≡ Some t → and_then thread_of (F.body x) ≡ Some (clean t) → Stands x

  stands : (x : Path) → Stands x
  stands x = by (and_then thread_of (w.body x)) refl
    where
      by : (o : Option Thread) → and_then thread_of (w.body x) ≡ o → Stands x
      by None e = Nobody e (thread-same p w x ∙ ap (option_map clean) e)
      by (Some t) e = Somebody t e (thread-same p w x ∙ ap (option_map clean) e)

  if_receiving-seen : (me x : Path) (go go' : Path → ℕ × ℕ → Outcome) (t : Thread) → ((room : ℕ × ℕ) → Seen p w me (go x room) (go' x room)) →
      Seen p w me (if_receiving w x go t) (if_receiving F x go' (clean t))
  if_receiving-seen me x go go' t seen = elim (cases_Bool (is_free w (parent x) t)) [
    | inr off ↦ rw off Waiting
    | inl on ↦ rw (on, free-clean (parent x) t on) (elim (cases_Bool (holds (λ (talk : Talk). same_side talk.turn turns.Server) t.talk)) [
      | inr off ↦ rw off Waiting
      | inl turn ↦ rw (turn, receiving-same p w (parent x) turns.Client t.mode)
          (elim (is (receiving w (parent x) turns.Client t.mode)) [ Absent e ↦ rw e Waiting | Present room e ↦ rw e (seen room) ])
    ])
  ]

  with_client-seen : (me port : Path) (go go' : Path → ℕ × ℕ → Outcome) → ((x : Path) (room : ℕ × ℕ) → Seen p w me (go x room) (go' x room)) →
      Seen p w me (with_client w port go) (with_client F port go')
  with_client-seen me port go go' seen = elim (cases_Bool (is_serving_port w port)) [
    | inr off ↦ rw off Waiting
    | inl on ↦ rw (serving_port-same port, on, client_at-same p w port) (elim (is (client_at w port)) [
      | Absent e ↦ rw e Waiting
      | Present x e ↦ rw e (elim (stands x) [
        | Nobody here there ↦ rw here Waiting
        | Somebody t here there ↦ rw (here, there) (if_receiving-seen me x go go' t (seen x))
      ])
    ])
  ]

  gives_to-seen : (me port : Path) (words : List ℕ) (x : Path) (room : ℕ × ℕ) → Seen p w me (gives_to w port words x room) (gives_to F port words x room)
  gives_to-seen me port words x room = seen-if p w me (room.1 == 0) _ _ _ _ (Going (refl, tt))
      (their_page-seen me (parent x) room.0 (gives_words w port x words room.0 room.1) (gives_words F port x words room.0 room.1)
      (λ s page there_words there. rw (words-same p w s page there_words there) (given s page (ap is_some there))))
    where
      given : (s : Path) (page : ℕ) → is_some (w.page s page) ≡ true →
          Seen p w me (gives_words w port x words room.0 room.1 s page) (gives_words w port x words room.0 room.1 s page)
      given s page home = Going (home, (refl, (refl, tt)))

  has_turn-same : (port : Path) → has_turn F port ≡ has_turn w port
  has_turn-same port = λ i. holds (λ x. holds (λ (talk : Talk). same_side talk.turn turns.Server) (talk-same p w x i)) (client_at-same p w port i)

  pub give_row-seen : (me port : Path) (words : List ℕ) → Seen p w me (give_row w port words) (give_row F port words)
  unfolding give_row
  give_row-seen me port [] = seen-when p w me _ _ _ _ (λ i. serving_port-same port i && has_turn-same port i) (Going tt)
  give_row-seen me port (word ∷ words) =
      with_client-seen me port (gives_to w port (word ∷ words)) (gives_to F port (word ∷ words)) (gives_to-seen me port (word ∷ words))

  passes_client-seen : (me port x : Path) (room : ℕ × ℕ) → Seen p w me (passes_client w port x room) (passes_client F port x room)
  passes_client-seen me port x room =
      let tame : AreTame p w (Alter x (PassTurn turns.Client) ∷ takes_turn x None (awaited_at w x)) = (refl, (refl, tt)) in
      rw (awaited_at-same p w x) (Going tame)

  pub over_row-seen : (me port : Path) → Seen p w me (over_row w port) (over_row F port)
  unfolding over_row
  over_row-seen me port = with_client-seen me port (passes_client w port) (passes_client F port) (passes_client-seen me port)

  takes_up-seen : (me port x : Path) (o : Option Talk) → Seen p w me (takes_up port x o) (takes_up port x o)
  takes_up-seen me port x None = Waiting
  takes_up-seen me port x (Some talk) = Going (refl, tt)

  accepts_thread-seen : (me port x : Path) (t : Thread) → Seen p w me (accepts_thread w port x t) (accepts_thread F port x (clean t))
  accepts_thread-seen me port x t = rw (connecting_to-same p w x t)
      (seen-if p w me (connects_here w port x t) _ _ _ _ (Going (refl, (refl, tt))) (takes_up-seen me port x (parked_here port t)))

  takes_client-seen : (me port : Path) (pick : Option Path) → Seen p w me (takes_client w port pick) (takes_client F port pick)
  takes_client-seen me port None = Waiting
  takes_client-seen me port (Some x) = elim (stands x) [
    | Nobody here there ↦ rw here Waiting
    | Somebody t here there ↦ rw (here, there) (free-seen me (parent x) t _ _ (accepts_thread-seen me port x t))
  ]

  pub accept_row-seen : (me port : Path) (pick : Option Path) → Seen p w me (accept_row w port pick) (accept_row F port pick)
  unfolding accept_row
  accept_row-seen me port pick =
      seen-when p w me _ _ _ _ (λ i. serving_port-same port i && is_none (client_at-same p w port i)) (takes_client-seen me port pick)
