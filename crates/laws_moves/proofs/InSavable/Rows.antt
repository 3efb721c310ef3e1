-- The rows of instructions, mutexes, conditions, messages, stop counts and pages keep what can be saved.
use Rattle.std.proofs.Common.{◌≡◌, ℕ, ◌+◌, ◌-◌, ◌^◌, ◌%◌, ◌<◌, ◌≤◌, Bool, true, false, if◌then◌else◌, ◌==◌, nat_le, List, [], ◌∷◌, ◌++◌, take, drop, replicate}
use Rattle.std.proofs.Common.{is_some}
use Rattle.std.proofs.Common.{length, Option, Some, None, Result, Ok, Err, refl, ap, ◌∙◌, arith, ◌&&◌}
use Rattle.std.proofs.Math.Nat.{mod-lt, min-le_left}
use Rattle.std.specs.List.{flat_map}
use Rattle.std.proofs.lemmas.Bool.{leb-false}
use Rattle.std.proofs.lemmas.List.{length-set}
use Rattle.fk_model.specs.declared.instruction.Act.{Act}
use Rattle.fk_model.specs.declared.instruction.Act.TheVariants.{Put, Jump, Load, Store, Halt, Call}
use Rattle.fk_model.specs.declared.names.Kind.TheVariants as kinds
use Rattle.fk_model.specs.declared.limits.TheConstants.{SLOTS, PAGES, MOST_STOPS, ZEROS, PAGE_WORDS, SPACE_WORDS, BLOCK_WORDS}
use Rattle.fk_model.specs.declared.stage.Stage.{Stage}
use Rattle.fk_model.specs.declared.stage.Stage.TheVariants.{CondAsleep, MutexLock, ClientReceive, ClientSend, ServerReceive, ServerSend, ClientReceiveRef}
use Rattle.fk_model.specs.declared.stage.Stage.TheVariants.{ServerReceiveRef}
use Rattle.fk_model.specs.declared.statuses.status.TheConstants.{BADCALL, WRONGKIND}
use Rattle.fk_model.specs.declared.thread.Turn.{Turn}
use Rattle.fk_model.specs.declared.thread.Turn.TheVariants as turns
use Rattle.fk_model.specs.Places.{Path, same_path, parent, Ptr}
use Rattle.fk_model.specs.Objects.{Mode, Peer, Thread, Body, thread_of, and_then, holds}
use Rattle.fk_model.specs.Objects.Mode.{Running, Calling, Halted}
use Rattle.fk_model.specs.Objects.Peer.{Server, Service, Parked}
use Rattle.fk_model.specs.Calls.{code_of, todo_of, rest_of}
use Rattle.fk_model.specs.Instructions.{act, next}
use Rattle.fk_model.specs.World.{World, Change, apply, apply_all}
use Rattle.fk_model.specs.World.Change.{Alter, PutPage, DropPage}
use Rattle.fk_model.specs.World.Edit.{SetLocked, Replace, Shift, CountMoved, SetStops, PassTurn}
use Rattle.fk_model.specs.Searches.{slots}
use Rattle.fk_model.specs.Reach.{Reach, reach_word, words_at}
use Rattle.fk_model.specs.Reach.Reach.{Home, Missing, Bad}
use Rattle.fk_model.specs.Outcomes.{Said, Outcome, Caller, path_of, or_refuse, done}
use Rattle.fk_model.specs.Outcomes.Said.{Nothing}
use Rattle.fk_model.specs.Outcomes.Outcome.{Waits, Goes}
use Rattle.fk_model.specs.Readers.{and_read, handle, missed, accessed, own_page_at, own_page, their_page_at, their_page}
use Rattle.fk_model.specs.Holds.{is_free}
use Rattle.fk_model.specs.Talks.{Line, other_side, path_to, first_stage, receiving, thread_led_to, is_service_free, awaited, receive_on}
use Rattle.fk_model.specs.UserRows.{word_at, halts_with, loads, stores, enters, performs, executes, run_row, run_row_by}
use Rattle.fk_model.specs.SyncRows.{mutex_lock, mutex_trylock, mutex_unlock, cond_wait, cond_asleep, woken, mutex_after, asleep_on, sleepers, signals}
use Rattle.fk_model.specs.SyncRows.{unless_slept_on, picks_sleeper, cond_signal, cond_broadcast}
use Rattle.fk_model.specs.TransferRows.{overwritten, block, moved_words, has_sent, sends_words, sends_into, sends_to_thread, sends_to, sends, send, awaits}
use Rattle.fk_model.specs.TransferRows.{over_ref}
use Rattle.fk_model.specs.TransferRows.{receive, passes_to_thread, passes_to, over, receive_ref, takes_turn}
use Rattle.fk_model.specs.SpaceRows.{thread_by_handle, thread_stop, thread_go, gives_page, gives_from, page_give, copies, copies_home, answers_home, copies_to}
use Rattle.fk_model.specs.SpaceRows.{page_take, page_read, page_next}
use Rattle.fk_model.specs.StateRows.{is_native}
use Rattle.fk_model.specs.Shapes.{IsShapedMode}
use Rattle.fk_model.specs.Valid.{all_in}
use Rattle.fk_model.proofs.calls.CallLaws.{todo_writes_back_lem}
use Rattle.laws_moves.proofs.InSavable.Refusals.{kept_row}
use Rattle.laws_moves.proofs.InSavable.Words.{IsWord, AreWords, below-word, words-at, words-set, words-append, words-take, words-drop, words-zeros}
use Rattle.laws_moves.proofs.InSavable.Words.{AreArguments}
use Rattle.laws_moves.proofs.InSavable.Words.{words-entered, IsNumbered, has_way}
use Rattle.laws_moves.proofs.InSavable.Acts.{IsLow, low-in}
use Rattle.laws_moves.proofs.InSavable.Reached.{Memory, IsReached, ComesTo, comes-to}
use Rattle.laws_moves.proofs.InSavable.Answers.{page-words}
use Rattle.laws_moves.proofs.InSavable.Kept.{is_single, of_thread, IsUsersMode, AreKept, KeptOutcome, refused, waits, goes, kept-then, kept-when, if-kept}
use Rattle.laws_moves.proofs.InSavable.Kept.{kept-done}
use Rattle.laws_moves.proofs.InSavable.Kept.{kept-answers, kept-telling, AreTidy}
use Rattle.laws_moves.proofs.InSavable.Todos.{has_rest}
use Rattle.laws_moves.proofs.InSavable.Persisting.{of_thread-mono, fits-single, single-replaced, single-locked, way-less, way-counted, way-shifted}
use Rattle.laws_moves.proofs.InSavable.Persisting.{single-pointed}
use Rattle.laws_moves.proofs.InRows.Handles.{received-stage}

-- ---- memory

missed-kept : (w : World) (otherwise : Outcome) (me : Path) (page : ℕ) (write : Bool) (keeper : Option Ptr) → page < PAGES → KeptOutcome w otherwise →
    KeptOutcome w (missed otherwise me page write keeper)
missed-kept w otherwise me page write None low kept = kept
missed-kept w otherwise me page write (Some keeper) low kept = goes ((refl, low), tt)

accessed-kept : (w : World) → Memory w → (space me : Path) (address : ℕ) (write : Bool) (halts : ℕ → Outcome) (go : Path → ℕ → Outcome) →
    ((code : ℕ) → code ≤ 255 → KeptOutcome w (halts code)) → ((s : Path) (page : ℕ) → IsReached w address s page → KeptOutcome w (go s page)) →
    KeptOutcome w (accessed me write halts go (reach_word w space address write))
accessed-kept w memory space me address write halts go halting going = by (reach_word w space address write) (comes-to w memory space address write)
  where
    by : (r : Reach) → ComesTo w address r → KeptOutcome w (accessed me write halts go r)
    by (Home s page) comes = going s page comes
    by (Missing s page keeper) comes = missed-kept w _ me page write keeper comes (halting _ (omega arith))
    by Bad comes = halting _ (omega arith)

pub own_page-kept : (w : World) → Memory w → (c : Caller) (address : ℕ) (write : Bool) (go : Path → ℕ → Outcome) →
    ((s : Path) (page : ℕ) → IsReached w address s page → KeptOutcome w (go s page)) → KeptOutcome w (own_page w c address write go)
own_page-kept w memory c address write go going = by (reach_word w c.space address write) (comes-to w memory c.space address write)
  where
    by : (r : Reach) → ComesTo w address r → KeptOutcome w (own_page_at (path_of c) write go r)
    by (Home s page) comes = going s page comes
    by (Missing s page keeper) comes = missed-kept w _ (path_of c) page write keeper comes (refused refl)
    by Bad comes = refused refl

pub their_page-kept : (w : World) → Memory w → (space : Path) (address : ℕ) (go : Path → ℕ → Outcome) →
    ((s : Path) (page : ℕ) → IsReached w address s page → KeptOutcome w (go s page)) → KeptOutcome w (their_page w space address go)
their_page-kept w memory space address go going = by (reach_word w space address true) (comes-to w memory space address true)
  where
    by : (r : Reach) → ComesTo w address r → KeptOutcome w (their_page_at go r)
    by (Home s page) comes = going s page comes
    by (Missing s page keeper) comes = waits
    by Bad comes = waits

-- words that are written into a page
pub overwritten-words : (page words : List ℕ) (at : ℕ) → AreWords page → AreWords words → AreWords (overwritten page at words)
overwritten-words page words at all new =
    words-append (take at page) _ (words-take at page all)
    (words-append words (drop (at + length words) page) new (words-drop (at + length words) page all))

-- ---- instructions

pub runs : (o : Option Body) (g : List ℕ) → holds is_native o ≡ false → length g ≡ 16 → AreWords g → IsUsersMode o (Running g)
runs o g mine sixteen all = record { before = mine; user = refl; shaped = sixteen; code = tt; numbers = all }

pub halts : (o : Option Body) (g : List ℕ) (code : ℕ) → holds is_native o ≡ false → length g ≡ 16 → AreWords g → code ≤ 255 → IsUsersMode o (Halted g code)
halts o g code mine sixteen all few = record { before = mine; user = refl; shaped = sixteen; code = few; numbers = all }

pub calls : (o : Option Body) (g : List ℕ) (todo : List Stage) → holds is_native o ≡ false → length g ≡ 16 → AreWords g → todo_of g ≡ Some todo →
    IsUsersMode o (Calling todo (rest_of todo g))
calls o g todo mine sixteen all named = let back = todo_writes_back_lem g todo sixteen named in
    record { before = mine; user = refl; shaped = (back.0, back.1); code = tt; numbers = words-entered g todo named all }

-- a user thread by its registers and its counter
pub record IsRunning (o : Option Body) (g : List ℕ) (counter : ℕ) : Type 0 where
  pub mine : holds is_native o ≡ false
  pub sixteen : length g ≡ 16
  pub all : AreWords g
  pub next : IsWord counter

next-word : (counter : ℕ) → IsWord (next counter)
next-word counter = below-word ((counter + 1) % 2 ^ 64) (mod-lt (counter + 1) (omega arith))

enters-kept : (w : World) (me : Path) (g : List ℕ) (counter : ℕ) (todo : Option (List Stage)) → IsRunning (w.body me) g counter →
    todo_of g ≡ todo → KeptOutcome w (enters me g counter todo)
enters-kept w me g counter (Some todo) is named = goes ((calls (w.body me) g todo is.mine is.sixteen is.all named, is.next), tt)
enters-kept w me g counter None is named =
    goes ((runs (w.body me) _ is.mine (length-set g 0 BADCALL ∙ is.sixteen) (words-set g 0 BADCALL is.all refl), next-word counter), tt)

performs-kept : (w : World) → Memory w → (space me : Path) (g : List ℕ) (counter : ℕ) (act : Act) → IsRunning (w.body me) g counter →
    IsLow act → KeptOutcome w (performs todo_of w space me g counter act)
unfolding apply
performs-kept w memory space me g counter (Put register value) is low =
    goes ((runs (w.body me) _ is.mine (length-set g register value ∙ is.sixteen) (words-set g register value is.all low.low), next-word counter), tt)
performs-kept w memory space me g counter (Jump to) is low = goes ((runs (w.body me) _ is.mine is.sixteen is.all, low.low), tt)
performs-kept w memory space me g counter (Load register address) is low =
    accessed-kept w memory space me address false (halts_with me g counter) (loads w me g counter register address)
    (λ code few. goes ((halts (w.body me) g code is.mine is.sixteen is.all few, is.next), tt))
    (λ s page reached. goes (
      (runs (w.body me) _ is.mine (length-set g register _ ∙ is.sixteen) (words-set g register _ is.all (words-at _ reached.words _)), next-word counter),
      tt,
    ))
performs-kept w memory space me g counter (Store address value) is low =
    accessed-kept w memory space me address true (halts_with me g counter) (stores w me g counter address value)
    (λ code few. goes ((halts (w.body me) g code is.mine is.sixteen is.all few, is.next), tt))
    (λ s page reached. goes (
      words-set (words_at w s page) _ value reached.words low.low,
      ((runs (w.body me) _ is.mine is.sixteen is.all, next-word counter), tt),
    ))
performs-kept w memory space me g counter (Halt code) is low = goes ((halts (w.body me) g code is.mine is.sixteen is.all low.low, is.next), tt)
performs-kept w memory space me g counter Call is low = enters-kept w me g counter (todo_of g) is refl

pub run_row-kept : (w : World) → Memory w → (space : Path) (slot : ℕ) (g : List ℕ) (counter : ℕ) → IsRunning (w.body (slot ∷ space)) g counter →
    KeptOutcome w (run_row w space slot g counter)
unfolding run_row_by
run_row-kept w memory space slot g counter is =
    accessed-kept w memory space (slot ∷ space) counter false (halts_with (slot ∷ space) g counter) (executes todo_of w space (slot ∷ space) g counter)
    (λ code few. goes ((halts (w.body (slot ∷ space)) g code is.mine is.sixteen is.all few, is.next), tt))
    (λ s page reached. performs-kept w memory space (slot ∷ space) g counter (act (word_at w s page counter) g counter) is
    (low-in (word_at w s page counter) g counter is.all))

-- ---- mutexes and conditions

pub mutex_lock-kept : (w : World) (c : Caller) (m : ℕ) → KeptOutcome w (mutex_lock w c m)
unfolding mutex_lock
mutex_lock-kept w c m = search (kept_row, kept-done) depth 9

pub mutex_trylock-kept : (w : World) (c : Caller) (m : ℕ) → KeptOutcome w (mutex_trylock w c m)
unfolding mutex_trylock
mutex_trylock-kept w c m = search (kept_row, kept-done) depth 9

pub mutex_unlock-kept : (w : World) (c : Caller) (m : ℕ) → KeptOutcome w (mutex_unlock w c m)
unfolding mutex_unlock
mutex_unlock-kept w c m = search (kept_row, kept-done) depth 9

cond_wait-goes : (w : World) (c : Caller) (cond m : ℕ) → of_thread is_single (w.body (path_of c)) ≡ true → AreArguments (CondAsleep cond m ∷ []) →
    KeptOutcome w (Goes (Alter (m ∷ c.space) (SetLocked false) ∷ Alter (path_of c) (Replace (CondAsleep cond m)) ∷ []) Nothing)
unfolding code_of
cond_wait-goes w c cond m single values = goes (tt, ((single-locked (m ∷ c.space) false w (path_of c) single, refl, values), tt))

pub cond_wait-kept : (w : World) (c : Caller) (cond m : ℕ) → of_thread is_single (w.body (path_of c)) ≡ true → AreArguments (CondAsleep cond m ∷ []) →
    KeptOutcome w (cond_wait w c cond m)
unfolding cond_wait
cond_wait-kept w c cond m single values = search (kept_row, cond_wait-goes) depth 9

pub cond_asleep-kept : (w : World) (c : Caller) (cond m : ℕ) → KeptOutcome w (cond_asleep w c cond m)
unfolding cond_asleep
cond_asleep-kept w c cond m = search kept_row

-- a sleeper has one stage left, and the mutex of it in a register
abbrev AreSingle : World → (ℕ → Path) → (ℕ → Option ℕ) → Type 0
AreSingle v of_slot mutex = (k m : ℕ) → mutex k ≡ Some m → (of_thread is_single (v.body (of_slot k)) ≡ true) × IsWord m

woken_all-kept : (of_slot : ℕ → Path) (mutex : ℕ → Option ℕ) (ks : List ℕ) (v : World) → AreSingle v of_slot mutex →
    AreKept v (flat_map (λ k. woken (of_slot k) (mutex k)) ks)
unfolding code_of
woken_all-kept of_slot mutex [] v single = tt
woken_all-kept of_slot mutex (k ∷ ks) v single = by (mutex k) refl (λ u. woken_all-kept of_slot mutex ks u)
  where
    by : (o : Option ℕ) → mutex k ≡ o → ((u : World) → AreSingle u of_slot mutex → AreKept u (flat_map (λ k. woken (of_slot k) (mutex k)) ks)) →
        AreKept v (woken (of_slot k) o ++ flat_map (λ k. woken (of_slot k) (mutex k)) ks)
    by None e rest = rest v single
    by (Some m) e rest = (
      ((single k m e).0, refl, (((single k m e).1, tt), tt)),
      rest (apply (Alter (of_slot k) (Replace (MutexLock m))) v)
          (λ j n h. (single-replaced (of_slot k) (MutexLock m) v (of_slot j) (single j n h).0, (single j n h).1)),
    )

module _ (w : World) (tidy : AreTidy w) where
  asleep-single : (cond : ℕ) (x : Path) (m : ℕ) → asleep_on cond (w.body x) ≡ Some m → (of_thread is_single (w.body x) ≡ true) × IsWord m
  asleep-single cond x m h = by (and_then thread_of (w.body x)) refl h
    where
      named : (c n : ℕ) → IsWord n → (b : Bool) → (if b then Some n else None) ≡ Some m → IsWord m
      named c n word true h = let same : n ≡ m = cc in rw (← same) word
      named c n word false h = cc

      stages : (t : Thread) (mode : Mode) → IsShapedMode mode → IsNumbered mode → and_then (mutex_after cond) (first_stage mode) ≡ Some m →
          (is_single mode ≡ true) × IsWord m
      stages t (Calling (CondAsleep c n ∷ next ∷ todo) rest) shaped all h = let first = (has_rest (CondAsleep c n ∷ next ∷ todo) shaped.0).first in cc
      stages t (Calling (CondAsleep c n ∷ []) rest) shaped all h = (refl, named c n all.0.0.1.0 (c == cond) h)
      stages t (Calling (stage ∷ todo) rest) shaped all h = cc
      stages t (Calling [] rest) shaped all h = cc
      stages t (Running g) shaped all h = cc
      stages t mode shaped all h = cc

      by : (o : Option Thread) → and_then thread_of (w.body x) ≡ o → and_then (mutex_after cond) (and_then (λ (t : Thread). first_stage t.mode) o) ≡ Some m →
          (all_in (λ (t : Thread). is_single t.mode) o ≡ true) × IsWord m
      by None e h = cc
      by (Some t) e h = stages t t.mode (tidy x t e).shaped (tidy x t e).numbers h

  sleepers-kept : (space : Path) (cond : ℕ) → AreKept w (sleepers w space cond)
  unfolding sleepers
  sleepers-kept space cond = woken_all-kept (λ k. k ∷ space) (λ k. asleep_on cond (w.body (k ∷ space))) (slots SLOTS) w
      (λ k m h. asleep-single cond (k ∷ space) m h)

  signals-kept : (c : Caller) (cs : List Change) → AreKept w cs → KeptOutcome w (signals c cs)
  signals-kept c [] kept = waits
  signals-kept c (change ∷ changes) kept = kept-done w c (change ∷ changes) kept

  unless_slept_on-kept : (c : Caller) (cs : List Change) → KeptOutcome w (unless_slept_on c cs)
  unless_slept_on-kept c [] = kept-done w c [] tt
  unless_slept_on-kept c (change ∷ changes) = waits

  woken-kept : (cond : ℕ) (x : Path) (o : Option ℕ) → asleep_on cond (w.body x) ≡ o → AreKept w (woken x o)
  unfolding code_of
  woken-kept cond x None e = tt
  woken-kept cond x (Some m) e = ((((asleep-single cond x m e).0, refl, (((asleep-single cond x m e).1, tt), tt))), tt)

  picks_sleeper-kept : (c : Caller) (cond : ℕ) (pick : Option Path) → KeptOutcome w (picks_sleeper w c cond pick)
  picks_sleeper-kept c cond None = unless_slept_on-kept c (sleepers w c.space cond)
  picks_sleeper-kept c cond (Some x) = kept-when w (same_path (parent x) c.space) _
      (λ near. signals-kept c (woken x (asleep_on cond (w.body x))) (woken-kept cond x _ refl))

  pub cond_signal-kept : (c : Caller) (pick : Option Path) (cond : ℕ) → KeptOutcome w (cond_signal w c pick cond)
  unfolding cond_signal
  cond_signal-kept c pick cond = search (kept_row, picks_sleeper-kept)

  pub cond_broadcast-kept : (c : Caller) (cond : ℕ) → KeptOutcome w (cond_broadcast w c cond)
  unfolding cond_broadcast
  cond_broadcast-kept c cond = search (kept_row, kept-done, sleepers-kept)

-- ---- messages

-- the sender's address has room for the words
abbrev HasWay : World → Caller → ℕ → Type 0
HasWay v c k = of_thread (has_way k) (v.body (path_of c)) ≡ true

has_sent-kept : (w : World) (c : Caller) (k count : ℕ) (cs : List Change) (said : Said) → AreKept w cs → HasWay (apply_all cs w) c k →
    KeptOutcome w (has_sent c k count cs said)
has_sent-kept w c k count cs said kept way = if-kept w (k == count) _ _ (kept-telling w said _ (kept-done w c _ shifts)) (goes shifts)
  where
    shifts : AreKept w (cs ++ Alter (path_of c) (Shift k) ∷ [])
    shifts = kept-then cs _ w kept (way, tt)

led-there : (w : World) (p : Ptr) (e : Path × Thread) → thread_led_to w p ≡ Some e → and_then thread_of (w.body e.0) ≡ Some e.1
led-there w p e h = by (path_to p) h
  where
    of : (x : Path) (o : Option Thread) → and_then thread_of (w.body x) ≡ o → and_then (λ t. Some (x, t)) o ≡ Some e →
        and_then thread_of (w.body e.0) ≡ Some e.1
    of x None there h = cc
    of x (Some t) there h = let same : e ≡ (x, t) = cc in rw same there

    by : (o : Option Path) → and_then (λ x. and_then (λ t. Some (x, t)) (and_then thread_of (w.body x))) o ≡ Some e → and_then thread_of (w.body e.0) ≡ Some e.1
    by None h = cc
    by (Some x) h = of x _ refl h

-- a Receive at an address that is one of a space
received-on : (n : ℕ) → n ≤ 64 → (side : Turn) (m : Mode) (space : ℕ × ℕ) → and_then (receive_on side) (first_stage m) ≡ Some space →
    space.0 < SPACE_WORDS → has_way n m ≡ true
received-on n few turns.Client (Calling (ClientReceive into room ∷ todo) rest) space h low =
    let same : space ≡ (into, room) = cc in let below : into < SPACE_WORDS = rw same at low in below-word (into + n) (omega (arith, few, below))
received-on n few turns.Server (Calling (ServerReceive into room ∷ todo) rest) space h low =
    let same : space ≡ (into, room) = cc in let below : into < SPACE_WORDS = rw same at low in below-word (into + n) (omega (arith, few, below))
received-on n few turns.Client (Calling (ClientReceiveRef into room reference ∷ todo) rest) space h low =
    let same : space ≡ (into, room) = cc in let below : into < SPACE_WORDS = rw same at low in below-word (into + n) (omega (arith, few, below))
received-on n few turns.Server (Calling (ServerReceiveRef into room reference ∷ todo) rest) space h low =
    let same : space ≡ (into, room) = cc in let below : into < SPACE_WORDS = rw same at low in below-word (into + n) (omega (arith, few, below))
received-on n few turns.Client (Calling (ClientSend address count ∷ todo) rest) space h low = cc
received-on n few turns.Client (Calling (ServerSend address count ∷ todo) rest) space h low = cc
received-on n few turns.Client (Calling (ServerReceive address count ∷ todo) rest) space h low = cc
received-on n few turns.Client (Calling (ServerReceiveRef address count reference ∷ todo) rest) space h low = cc
received-on n few turns.Server (Calling (ClientSend address count ∷ todo) rest) space h low = cc
received-on n few turns.Server (Calling (ServerSend address count ∷ todo) rest) space h low = cc
received-on n few turns.Server (Calling (ClientReceive address count ∷ todo) rest) space h low = cc
received-on n few turns.Server (Calling (ClientReceiveRef address count reference ∷ todo) rest) space h low = cc
received-on n few side (Calling (stage ∷ todo) rest) space h low = refl
received-on n few side (Calling [] rest) space h low = refl
received-on n few side (Running g) space h low = refl
received-on n few side m space h low = refl

pub received-way : (w : World) (s : Path) (n : ℕ) → n ≤ 64 → (side : Turn) (m : Mode) (space : ℕ × ℕ) → receiving w s side m ≡ Some space →
    space.0 < SPACE_WORDS → has_way n m ≡ true
received-way w s n few side m space h low = received-on n few side m space (received-stage w s side m space h) low

pub moved-few : (address count into room : ℕ) → moved_words address count into room ≤ 64
moved-few address count into room = min-le_left BLOCK_WORDS _

module _ (w : World) (memory : Memory w) where
  sends_words-kept : (c : Caller) (client y : Path) (k address count : ℕ) (page : List ℕ) (into : ℕ) (t : Path) (g : ℕ) → k ≤ 64 →
      HasWay w c 128 → of_thread (has_way k) (w.body y) ≡ true → AreWords page → AreWords (words_at w t g) →
      KeptOutcome w (sends_words c client y k address count page into t g (words_at w t g))
  unfolding apply_all apply
  sends_words-kept c client y k address count page into t g few way room all there =
      has_sent-kept w c k count
      (PutPage t g (overwritten (words_at w t g) (into % PAGE_WORDS) (block k address page)) ∷ Alter client (CountMoved k) ∷ Alter y (Shift k) ∷ []) Nothing (
        overwritten-words (words_at w t g) (block k address page) (into % PAGE_WORDS) there
            (words-take k (drop (address % PAGE_WORDS) page) (words-drop (address % PAGE_WORDS) page all)),
        (tt, (way-counted client k k w y room, tt)),
      )
      (way-shifted y k few
      (apply (Alter client (CountMoved k)) (apply (PutPage t g (overwritten (words_at w t g) (into % PAGE_WORDS) (block k address page))) w))
      (path_of c) (way-counted client k 128 w (path_of c) way))

  sends_into-kept : (c : Caller) (side : Turn) (client y : Path) (mode : Mode) (address count : ℕ) (page : List ℕ) (space : Option (ℕ × ℕ)) →
      HasWay w c 128 → AreWords page → and_then (λ (t : Thread). Some t.mode) (and_then thread_of (w.body y)) ≡ Some mode → receiving w (parent y) side mode
      ≡ space →
      KeptOutcome w (sends_into w c client y address count page space)
  sends_into-kept c side client y mode address count page None way all there is = waits
  sends_into-kept c side client y mode address count page (Some space) way all there is = if-kept w (space.1 == 0) _ _ (goes ((refl, tt), tt))
      (their_page-kept w memory (parent y) space.0 go (λ t other reached.
      sends_words-kept c client y (moved_words address count space.0 space.1) address count page space.0 t other
      (moved-few address count space.0 space.1) way (way-at (and_then thread_of (w.body y)) there reached.low) all reached.words))
    where
      go : Path → ℕ → Outcome
      go t other = sends_words c client y (moved_words address count space.0 space.1) address count page space.0 t other (words_at w t other)

      way-at : (o : Option Thread) → and_then (λ (t : Thread). Some t.mode) o ≡ Some mode → space.0 < SPACE_WORDS →
          all_in (λ (t : Thread). has_way (moved_words address count space.0 space.1) t.mode) o ≡ true
      way-at None e low = refl
      way-at (Some t) e low =
          let same : t.mode ≡ mode = cc in rw same (received-way w (parent y) _ (moved-few address count space.0 space.1) side mode space is low)

  sends_to_thread-kept : (c : Caller) (side : Turn) (client : Path) (address count : ℕ) (page : List ℕ) (p : Ptr) (e : Option (Path × Thread)) →
      HasWay w c 128 → AreWords page → thread_led_to w p ≡ e → KeptOutcome w (sends_to_thread w c side client address count page e)
  sends_to_thread-kept c side client address count page p None way all led = waits
  sends_to_thread-kept c side client address count page p (Some e) way all led = kept-when w (is_free w (parent e.0) e.1) _ (λ free.
      sends_into-kept c (other_side side) client e.0 e.1.mode address count page (receiving w (parent e.0) (other_side side) e.1.mode) way all
      (ap (and_then (λ (t : Thread). Some t.mode)) (led-there w p e led)) refl)

  less-way : (k : ℕ) → k ≤ 64 → (m : Mode) → has_way 128 m ≡ true → has_way k m ≡ true
  less-way k few m way = way-less k 128 (omega (arith, few)) m way

  sends_to-kept : (c : Caller) (side : Turn) (l : Line) (address count : ℕ) (page : List ℕ) (peer : Peer) → HasWay w c 128 → AreWords page →
      KeptOutcome w (sends_to w c side l address count page peer)
  unfolding apply_all
  sends_to-kept c side l address count page (Server thread) way all =
      sends_to_thread-kept c side l.client address count page thread (thread_led_to w thread) way all refl
  sends_to-kept c side l address count page Service way all = kept-when w (is_service_free w l.talk.port) _ (λ free.
      has_sent-kept w c (moved_words address count 0 BLOCK_WORDS) count (Alter l.client (CountMoved (moved_words address count 0 BLOCK_WORDS)) ∷ []) _ (tt, tt)
      (way-counted l.client _ (moved_words address count 0 BLOCK_WORDS) w (path_of c)
      (of_thread-mono (has_way 128) (has_way _) (less-way _ (moved-few address count 0 BLOCK_WORDS)) (w.body (path_of c)) way)))
  sends_to-kept c side l address count page Parked way all = waits

  -- a user at a Send
  abbrev pub IsSending : Caller → ℕ → Type 0
  IsSending c address = address < SPACE_WORDS → HasWay w c 128

  sends-kept : (c : Caller) (side : Turn) (address count : ℕ) → IsSending c address → (l : Line) → KeptOutcome w (sends w c side address count l)
  sends-kept c side address count sending l = if-kept w (count == 0) _ _ (kept-done w c [] tt)
      (own_page-kept w memory c address false go (λ s page reached. sends_to-kept c side l address count _ l.other (sending reached.low) reached.words))
    where
      go : Path → ℕ → Outcome
      go s page = sends_to w c side l address count (words_at w s page) l.other

  pub send-kept : (c : Caller) (side : Turn) (address count : ℕ) → IsSending c address → KeptOutcome w (send w c side address count)
  unfolding send
  send-kept c side address count sending = search (kept_row, sends-kept)

  awaits-kept : (c : Caller) (into room : ℕ) → KeptOutcome w (awaits w c into room)
  awaits-kept c into room = if-kept w (room == 0) _ _ waits (own_page-kept w memory c into true (λ s page. Waits) (λ s page reached. waits))

  pub receive-kept : (c : Caller) (side : Turn) (into room : ℕ) → KeptOutcome w (receive w c side into room)
  unfolding receive
  receive-kept c side into room = search (kept_row, awaits-kept)

pub receive_ref-kept : (w : World) (memory : Memory w) (c : Caller) (side : Turn) (into room reference : ℕ) → KeptOutcome w
    (receive_ref w c side into room reference)
unfolding receive_ref
receive_ref-kept w memory c side into room reference = search (kept_row, receive-kept)

-- a thread that awaits a pointer has one stage alone
awaits-single : (m : Mode) → IsShapedMode m → (k : ℕ) → awaited m ≡ Some k → is_single m ≡ true
awaits-single (Calling (ClientReceiveRef into room reference ∷ next ∷ todo) rest) shaped k h =
    let first = (has_rest (ClientReceiveRef into room reference ∷ next ∷ todo) shaped.0).first in cc
awaits-single (Calling (ServerReceiveRef into room reference ∷ next ∷ todo) rest) shaped k h =
    let first = (has_rest (ServerReceiveRef into room reference ∷ next ∷ todo) shaped.0).first in cc
awaits-single (Calling (stage ∷ next ∷ todo) rest) shaped k h = cc
awaits-single (Calling (stage ∷ []) rest) shaped k h = refl
awaits-single (Calling [] rest) shaped k h = refl
awaits-single (Running g) shaped k h = refl
awaits-single m shaped k h = refl

pub awaiting-single : (w : World) → AreTidy w → (y : Path) (t : Thread) → and_then thread_of (w.body y) ≡ Some t → (k : ℕ) → awaited t.mode ≡ Some k →
    of_thread is_single (w.body y) ≡ true
awaiting-single w tidy y t there k h = rw there (awaits-single t.mode (tidy y t there).shaped k h)

takes_turn-kept : (w : World) (y client : Path) (turn : Turn) (carried : Option Ptr) (to : Option ℕ) →
    ((k : ℕ) → to ≡ Some k → of_thread is_single (w.body y) ≡ true) → AreKept w (takes_turn y carried to ++ Alter client (PassTurn turn) ∷ [])
takes_turn-kept w y client turn None None single = ((tt, tt), (tt, tt))
takes_turn-kept w y client turn None (Some k) single = ((fits-single (0 ∷ []) (w.body y) (single k refl), (refl, tt)), (tt, tt))
takes_turn-kept w y client turn (Some p) None single = ((tt, tt), (tt, tt))
takes_turn-kept w y client turn (Some p) (Some k) single =
    (tt, ((fits-single (1 ∷ []) _ (single-pointed (k ∷ parent y) p w y (single k refl)), (refl, tt)), (tt, tt)))

passes_to_thread-kept : (w : World) → AreTidy w → (c : Caller) (side : Turn) (client : Path) (carried : Option Ptr) (p : Ptr) (e : Option (Path × Thread)) →
    thread_led_to w p ≡ e → KeptOutcome w (passes_to_thread w c side client carried e)
passes_to_thread-kept w tidy c side client carried p None led = waits
passes_to_thread-kept w tidy c side client carried p (Some e) led =
    kept-when w (is_free w (parent e.0) e.1 && is_some (receiving w (parent e.0) (other_side side) e.1.mode)) _ (λ on.
    kept-done w c (takes_turn e.0 carried (awaited e.1.mode) ++ Alter client (PassTurn (other_side side)) ∷ [])
    (takes_turn-kept w e.0 client (other_side side) carried (awaited e.1.mode) (λ k h. awaiting-single w tidy e.0 e.1 (led-there w p e led) k h)))

passes_to-kept : (w : World) → AreTidy w → (c : Caller) (side : Turn) (l : Line) (carried : Option Ptr) (peer : Peer) →
    KeptOutcome w (passes_to w c side l carried peer)
passes_to-kept w tidy c side l carried (Server thread) = passes_to_thread-kept w tidy c side l.client carried thread (thread_led_to w thread) refl
passes_to-kept w tidy c side l carried Service = search (kept-when, kept-telling, kept-done)
passes_to-kept w tidy c side l carried Parked = waits

pub over-kept : (w : World) → AreTidy w → (c : Caller) (side : Turn) (carried : Option Ptr) → KeptOutcome w (over w c side carried)
unfolding over
over-kept w tidy c side carried = search (kept_row, passes_to-kept)

pub over_ref-kept : (w : World) → AreTidy w → (c : Caller) (side : Turn) (reference : ℕ) → KeptOutcome w (over_ref w c side reference)
unfolding over_ref
over_ref-kept w tidy c side reference = search (kept_row, over-kept)

-- ---- stop counts

stopped_more : (n : ℕ) → nat_le MOST_STOPS n ≡ false → n + 1 ≤ MOST_STOPS
stopped_more n h = let less = leb-false MOST_STOPS n h in omega (arith, less)

stop-goes : (w : World) (c : Caller) (e : Path × Thread) → nat_le MOST_STOPS e.1.stops ≡ false →
    KeptOutcome w (done c (Alter e.0 (SetStops (e.1.stops + 1)) ∷ []) [])
stop-goes w c e few = kept-done w c (Alter e.0 (SetStops (e.1.stops + 1)) ∷ []) (stopped_more e.1.stops few, tt)

pub thread_stop-kept : (w : World) (c : Caller) (h : ℕ) → KeptOutcome w (thread_stop w c h)
unfolding thread_stop
thread_stop-kept w c h = search (kept_row, stop-goes) depth 9

handle-there : (w : World) (c : Caller) (h : ℕ) (e : Path × Thread) → thread_by_handle w c h ≡ Ok e → and_then thread_of (w.body e.0) ≡ Some e.1
handle-there w c h e read = by (handle w c kinds.Thread h) read
  where
    led : (p : Ptr) (o : Option (Path × Thread)) → thread_led_to w p ≡ o → or_refuse WRONGKIND o ≡ Ok e → and_then thread_of (w.body e.0) ≡ Some e.1
    led p None is h = cc
    led p (Some found) is h = let same : found ≡ e = cc in led-there w p e (is ∙ ap (λ (e : Path × Thread). Some e) same)

    by : (r : Result Ptr ℕ) → and_read r (λ p. or_refuse WRONGKIND (thread_led_to w p)) ≡ Ok e → and_then thread_of (w.body e.0) ≡ Some e.1
    by (Err status) h = cc
    by (Ok p) h = led p _ refl h

go-goes : (w : World) → AreTidy w → (c : Caller) (h : ℕ) (e : Path × Thread) → thread_by_handle w c h ≡ Ok e →
    KeptOutcome w (done c (Alter e.0 (SetStops (e.1.stops - 1)) ∷ []) [])
go-goes w tidy c h e read = kept-done w c (Alter e.0 (SetStops (e.1.stops - 1)) ∷ []) (few, tt)
  where
    few : e.1.stops - 1 ≤ MOST_STOPS
    few = let stops = (tidy e.0 e.1 (handle-there w c h e read)).stops in omega (arith, stops)

pub thread_go-kept : (w : World) → AreTidy w → (c : Caller) (h : ℕ) → KeptOutcome w (thread_go w c h)
unfolding thread_go
thread_go-kept w tidy c h = search (kept_row, go-goes) depth 9

-- ---- pages

-- what a porter gives is words
abbrev pub GivesWords : Caller → Type 0
GivesWords c = c.is_porter ≡ true → AreWords c.words

gives-kept : (w : World) (c : Caller) (space : Path) (page : ℕ) (words : List ℕ) → AreWords words → KeptOutcome w (gives_page w c space page words)
gives-kept w c space page words all = search (kept_row, kept-done)

gives_from-kept : (w : World) → Memory w → (c : Caller) → GivesWords c → (space : Path) (page address : ℕ) → KeptOutcome w (gives_from w c space page address)
gives_from-kept w memory c given space page address = by c.is_porter refl
  where
    by : (t : Bool) → c.is_porter ≡ t → KeptOutcome w (if t then gives_page w c space page c.words
        else (if address == ZEROS then gives_page w c space page (replicate PAGE_WORDS 0)
        else own_page w c address false (λ s own. gives_page w c space page (words_at w s own))))
    by true e = gives-kept w c space page c.words (given e)
    by false e =
        if-kept w (address == ZEROS) _ _ (gives-kept w c space page _ (words-zeros PAGE_WORDS))
        (own_page-kept w memory c address false (λ s own. gives_page w c space page (words_at w s own))
        (λ s own reached. gives-kept w c space page _ reached.words))

pub page_give-kept : (w : World) → Memory w → (c : Caller) → GivesWords c → (s page address : ℕ) → KeptOutcome w (page_give w c s page address)
unfolding page_give
page_give-kept w memory c given s page address = search (kept_row, gives_from-kept) depth 9

drops-kept : (w : World) (space : Path) (page : ℕ) (drops : Bool) → AreKept w (if drops then DropPage space page ∷ [] else [])
drops-kept w space page true = (tt, tt)
drops-kept w space page false = tt

copies-kept : (w : World) → Memory w → (c : Caller) (space : Path) (page : ℕ) (drops : Bool) (words : List ℕ) (s : Path) (own : ℕ) →
    w.page space page ≡ Some words → KeptOutcome w (copies c space page drops words s own)
copies-kept w memory c space page drops words s own there = kept-done w c _ (memory.words space page words there, drops-kept _ space page drops)

copies_home-kept : (w : World) → Memory w → (c : Caller) (space : Path) (page : ℕ) (drops : Bool) (s : Path) (own : ℕ) →
    KeptOutcome w (copies_home w c space page drops s own)
copies_home-kept w memory c space page drops s own = search (kept_row, copies-kept)

drop-answers : (w : World) (c : Caller) → c.is_porter ≡ true → (space : Path) (page : ℕ) (drops : Bool) (words : List ℕ) →
    KeptOutcome w (done c (if drops then DropPage space page ∷ [] else []) words)
drop-answers w c porter space page drops words = kept-answers w c _ words (drops-kept w space page drops) (λ user. absurd (let no = porter in cc))

answers_home-kept : (w : World) (c : Caller) → c.is_porter ≡ true → (space : Path) (page : ℕ) (drops : Bool) → KeptOutcome w (answers_home w c space page drops)
answers_home-kept w c porter space page drops = search (kept_row, drop-answers)

copies_to-kept : (w : World) → Memory w → (c : Caller) (space : Path) (page : ℕ) (drops : Bool) (address : ℕ) →
    KeptOutcome w (copies_to w c space page drops address)
copies_to-kept w memory c space page drops address = by c.is_porter refl
  where
    by : (t : Bool) → c.is_porter ≡ t → KeptOutcome w (if t then answers_home w c space page drops
        else own_page w c address true (copies_home w c space page drops))
    by true e = answers_home-kept w c e space page drops
    by false e = own_page-kept w memory c address true (copies_home w c space page drops) (λ s own reached. copies_home-kept w memory c space page drops s own)

pub page_take-kept : (w : World) → Memory w → (c : Caller) (s page address : ℕ) → KeptOutcome w (page_take w c s page address)
unfolding page_take
page_take-kept w memory c s page address = search (kept_row, copies_to-kept) depth 9

pub page_read-kept : (w : World) → Memory w → (c : Caller) (s page address : ℕ) → KeptOutcome w (page_read w c s page address)
unfolding page_read
page_read-kept w memory c s page address = search (kept_row, copies_to-kept) depth 9

-- a user's call that answers is the last stage of its list
abbrev pub IsLastStage : World → Caller → Type 0
IsLastStage w c = c.is_porter ≡ false → of_thread is_single (w.body (path_of c)) ≡ true

pub answers-alone : (w : World) (c : Caller) → IsLastStage w c → (answers : List ℕ) → AreWords answers → KeptOutcome w (done c [] answers)
unfolding apply_all
answers-alone w c last answers all = kept-answers w c [] answers tt (λ user. (fits-single answers _ (last user), all))

pub page_next-kept : (w : World) (c : Caller) → IsLastStage w c → (s from : ℕ) → KeptOutcome w (page_next w c s from)
unfolding page_next
page_next-kept w c last s from = search (kept_row, answers-alone, page-words)
