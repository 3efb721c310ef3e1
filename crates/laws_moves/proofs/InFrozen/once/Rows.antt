-- Instructions, mutexes and conditions, messages, stop counts and pages touch no pointer but that of a fault that is raised.
use Rattle.std.proofs.Common.{ℕ, ◌%◌, Bool, true, false, if◌then◌else◌, ◌==◌, List, [], ◌∷◌, ◌++◌, Option, Some, None, refl}
use Rattle.std.specs.List.{flat_map}
use Rattle.fk_model.specs.declared.instruction.Act.{Act}
use Rattle.fk_model.specs.declared.instruction.Act.TheVariants.{Load, Store, Call}
use Rattle.fk_model.specs.declared.limits.TheConstants.{SLOTS, PAGE_WORDS, ZEROS}
use Rattle.fk_model.specs.declared.stage.Stage.{Stage}
use Rattle.fk_model.specs.declared.thread.Turn.{Turn}
use Rattle.fk_model.specs.Places.{Path, parent, Ptr}
use Rattle.fk_model.specs.Objects.{Peer, Thread}
use Rattle.fk_model.specs.Objects.Peer.{Server, Service, Parked}
use Rattle.fk_model.specs.Calls.{todo_of}
use Rattle.fk_model.specs.Instructions.{act}
use Rattle.fk_model.specs.World.{World, Change}
use Rattle.fk_model.specs.World.Change.{Alter, PutPage, DropPage}
use Rattle.fk_model.specs.World.Edit.{CountMoved, Shift, PassTurn}
use Rattle.fk_model.specs.Searches.{slots}
use Rattle.fk_model.specs.Reach.{reach_word, words_at}
use Rattle.fk_model.specs.Outcomes.{Said, Outcome, Caller, path_of, done}
use Rattle.fk_model.specs.Outcomes.Said.{Nothing}
use Rattle.fk_model.specs.Outcomes.Outcome.{Waits}
use Rattle.fk_model.specs.Talks.{Line, thread_led_to, awaited, other_side}
use Rattle.fk_model.specs.UserRows.{word_at, halts_with, loads, stores, enters, performs, executes, run_row, run_row_by}
use Rattle.fk_model.specs.SyncRows.{mutex_lock, mutex_trylock, mutex_unlock, cond_wait, cond_asleep, woken, asleep_on, sleepers, signals, unless_slept_on}
use Rattle.fk_model.specs.SyncRows.{picks_sleeper, cond_signal, cond_broadcast}
use Rattle.fk_model.specs.TransferRows.{overwritten, block, moved_words, has_sent, sends_words, sends_into, sends_to_thread, sends_to, sends, send, awaits}
use Rattle.fk_model.specs.TransferRows.{over_ref}
use Rattle.fk_model.specs.TransferRows.{receive, passes_to_thread, passes_to, over, receive_ref, takes_turn}
use Rattle.fk_model.specs.SpaceRows.{thread_stop, thread_go, gives_page, gives_from, page_give, copies, copies_home, answers_home, copies_to, page_take}
use Rattle.fk_model.specs.SpaceRows.{page_read, page_next}
use Rattle.laws_moves.specs.Frozen.Once.{AreMild, IsFaultless, TouchOnce}
use Rattle.laws_moves.proofs.InFrozen.once.Outcomes.{OnceOutcome, waits, goes, mild-then, mild-once, once-when, once-if, once-done, once-telling, once_row}
use Rattle.laws_moves.proofs.InFrozen.once.Outcomes.{accessed-once, own_page-once, their_page-once}

-- ---- instructions

enters-once : (w : World) (me : Path) (g : List ℕ) (counter : ℕ) (todo : Option (List Stage)) → OnceOutcome w (enters me g counter todo)
enters-once w me g counter (Some todo) = goes tt
enters-once w me g counter None = goes tt

performs-once : (known : List ℕ → Option (List Stage)) (w : World) (space me : Path) (g : List ℕ) (counter : ℕ) (act : Act) → IsFaultless w me →
    OnceOutcome w (performs known w space me g counter act)
performs-once known w space me g counter (Load register address) clean =
    accessed-once w me false (halts_with me g counter) (loads w me g counter register address) (reach_word w space address false) clean
    (λ code. goes tt) (λ s page. goes tt)
performs-once known w space me g counter (Store address value) clean =
    accessed-once w me true (halts_with me g counter) (stores w me g counter address value) (reach_word w space address true) clean
    (λ code. goes tt) (λ s page. goes tt)
performs-once known w space me g counter Call clean = enters-once w me g counter (known g)
performs-once known w space me g counter act clean = goes tt

pub run_row-once : (w : World) (space : Path) (slot : ℕ) (g : List ℕ) (counter : ℕ) → IsFaultless w (slot ∷ space) →
    OnceOutcome w (run_row w space slot g counter)
unfolding run_row_by
run_row-once w space slot g counter clean =
    accessed-once w (slot ∷ space) false (halts_with (slot ∷ space) g counter) (executes todo_of w space (slot ∷ space) g counter)
    (reach_word w space counter false) clean (λ code. goes tt)
    (λ s page. performs-once todo_of w space (slot ∷ space) g counter (act (word_at w s page counter) g counter) clean)

-- ---- mutexes and conditions

pub mutex_lock-once : (w : World) (c : Caller) (m : ℕ) → OnceOutcome w (mutex_lock w c m)
unfolding mutex_lock
mutex_lock-once w c m = search (once_row, once-done) depth 9

pub mutex_trylock-once : (w : World) (c : Caller) (m : ℕ) → OnceOutcome w (mutex_trylock w c m)
unfolding mutex_trylock
mutex_trylock-once w c m = search (once_row, once-done) depth 9

pub mutex_unlock-once : (w : World) (c : Caller) (m : ℕ) → OnceOutcome w (mutex_unlock w c m)
unfolding mutex_unlock
mutex_unlock-once w c m = search (once_row, once-done) depth 9

pub cond_wait-once : (w : World) (c : Caller) (cond m : ℕ) → OnceOutcome w (cond_wait w c cond m)
unfolding cond_wait
cond_wait-once w c cond m = search (once_row, goes) depth 9

pub cond_asleep-once : (w : World) (c : Caller) (cond m : ℕ) → OnceOutcome w (cond_asleep w c cond m)
unfolding cond_asleep
cond_asleep-once w c cond m = search once_row

woken-mild : (x : Path) (m : Option ℕ) → AreMild (woken x m)
woken-mild x None = tt
woken-mild x (Some m) = (refl, tt)

woken_all-mild : (of_slot : ℕ → Path) (mutex : ℕ → Option ℕ) (ks : List ℕ) → AreMild (flat_map (λ k. woken (of_slot k) (mutex k)) ks)
woken_all-mild of_slot mutex [] = tt
woken_all-mild of_slot mutex (k ∷ ks) = mild-then (woken (of_slot k) (mutex k)) _ (woken-mild _ _) (woken_all-mild of_slot mutex ks)

sleepers-mild : (w : World) (space : Path) (cond : ℕ) → AreMild (sleepers w space cond)
unfolding sleepers
sleepers-mild w space cond = woken_all-mild (λ k. k ∷ space) (λ k. asleep_on cond (w.body (k ∷ space))) (slots SLOTS)

signals-once : (w : World) (c : Caller) (cs : List Change) → AreMild cs → OnceOutcome w (signals c cs)
signals-once w c [] mild = waits
signals-once w c (change ∷ changes) mild = once-done w c (change ∷ changes) [] (mild-once w (change ∷ changes) mild)

unless_slept_on-once : (w : World) (c : Caller) (cs : List Change) → OnceOutcome w (unless_slept_on c cs)
unless_slept_on-once w c [] = once-done w c [] [] tt
unless_slept_on-once w c (change ∷ changes) = waits

picks_sleeper-once : (w : World) (c : Caller) (cond : ℕ) (pick : Option Path) → OnceOutcome w (picks_sleeper w c cond pick)
picks_sleeper-once w c cond None = unless_slept_on-once w c (sleepers w c.space cond)
picks_sleeper-once w c cond (Some x) = search (once-when, signals-once, woken-mild)

pub cond_signal-once : (w : World) (c : Caller) (pick : Option Path) (cond : ℕ) → OnceOutcome w (cond_signal w c pick cond)
unfolding cond_signal
cond_signal-once w c pick cond = search (once_row, picks_sleeper-once)

mild-done : (w : World) (c : Caller) (cs : List Change) (answers : List ℕ) → AreMild cs → OnceOutcome w (done c cs answers)
mild-done w c cs answers mild = once-done w c cs answers (mild-once w cs mild)

pub cond_broadcast-once : (w : World) (c : Caller) (cond : ℕ) → OnceOutcome w (cond_broadcast w c cond)
unfolding cond_broadcast
cond_broadcast-once w c cond = search (once_row, mild-done, sleepers-mild)

-- ---- messages

pub has_sent-once : (w : World) (c : Caller) (k count : ℕ) (cs : List Change) (said : Said) → AreMild cs → OnceOutcome w (has_sent c k count cs said)
has_sent-once w c k count cs said mild =
    once-if w (k == count) _ _ (once-telling w said _ (mild-done w c _ [] shifts)) (goes (mild-once w _ shifts))
  where
    shifts : AreMild (cs ++ Alter (path_of c) (Shift k) ∷ [])
    shifts = mild-then cs _ mild (refl, tt)

sends_into-once : (w : World) (c : Caller) (client y : Path) (address count : ℕ) (page : List ℕ) (space : Option (ℕ × ℕ)) →
    OnceOutcome w (sends_into w c client y address count page space)
sends_into-once w c client y address count page None = waits
sends_into-once w c client y address count page (Some space) =
    once-if w (space.1 == 0) _ _ (goes tt) (their_page-once w (parent y) space.0 go
    (λ t other. has_sent-once w c _ count (moves t other) Nothing (refl, (refl, (refl, tt)))))
  where
    go : Path → ℕ → Outcome
    go t other = sends_words c client y (moved_words address count space.0 space.1) address count page space.0 t other (words_at w t other)

    moves : Path → ℕ → List Change
    moves t other =
        let k = moved_words address count space.0 space.1 in
        PutPage t other (overwritten (words_at w t other) (space.0 % PAGE_WORDS) (block k address page)) ∷ Alter client (CountMoved k) ∷ Alter y (Shift k) ∷ []

sends_to_thread-once : (w : World) (c : Caller) (side : Turn) (client : Path) (address count : ℕ) (page : List ℕ) (e : Option (Path × Thread)) →
    OnceOutcome w (sends_to_thread w c side client address count page e)
sends_to_thread-once w c side client address count page None = waits
sends_to_thread-once w c side client address count page (Some e) = search (once-when, sends_into-once)

sends_to-once : (w : World) (c : Caller) (side : Turn) (l : Line) (address count : ℕ) (page : List ℕ) (peer : Peer) →
    OnceOutcome w (sends_to w c side l address count page peer)
sends_to-once w c side l address count page (Server thread) = sends_to_thread-once w c side l.client address count page (thread_led_to w thread)
sends_to-once w c side l address count page Service = search (once-when, has_sent-once)
sends_to-once w c side l address count page Parked = waits

sends-once : (w : World) (c : Caller) (side : Turn) (address count : ℕ) (l : Line) → IsFaultless w (path_of c) → OnceOutcome w (sends w c side address count l)
sends-once w c side address count l clean = once-if w (count == 0) _ _ (once-done w c [] [] tt)
    (own_page-once w c address false go clean (λ s page. sends_to-once w c side l address count _ l.other))
  where
    go : Path → ℕ → Outcome
    go s page = sends_to w c side l address count (words_at w s page) l.other

pub send-once : (w : World) (c : Caller) (side : Turn) (address count : ℕ) → IsFaultless w (path_of c) → OnceOutcome w (send w c side address count)
unfolding send
send-once w c side address count clean = search (once_row, sends-once)

awaits-once : (w : World) (c : Caller) (into room : ℕ) → IsFaultless w (path_of c) → OnceOutcome w (awaits w c into room)
awaits-once w c into room clean = once-if w (room == 0) _ _ waits (own_page-once w c into true (λ s page. Waits) clean (λ s page. waits))

pub receive-once : (w : World) (c : Caller) (side : Turn) (into room : ℕ) → IsFaultless w (path_of c) → OnceOutcome w (receive w c side into room)
unfolding receive
receive-once w c side into room clean = search (once_row, awaits-once)

pub receive_ref-once : (w : World) (c : Caller) (side : Turn) (into room reference : ℕ) → IsFaultless w (path_of c) →
    OnceOutcome w (receive_ref w c side into room reference)
unfolding receive_ref
receive_ref-once w c side into room reference clean = search (once_row, receive-once)

-- the pointer that goes with a turn is the one that is set
takes_turn-once : (w : World) (y client : Path) (turn : Turn) (carried : Option Ptr) (to : Option ℕ) →
    TouchOnce w (takes_turn y carried to ++ Alter client (PassTurn turn) ∷ [])
takes_turn-once w y client turn None to = tt
takes_turn-once w y client turn (Some p) None = tt
takes_turn-once w y client turn (Some p) (Some k) = (tt, (refl, (refl, tt)))

passes_to_thread-once : (w : World) (c : Caller) (side : Turn) (client : Path) (carried : Option Ptr) (e : Option (Path × Thread)) →
    OnceOutcome w (passes_to_thread w c side client carried e)
passes_to_thread-once w c side client carried None = waits
passes_to_thread-once w c side client carried (Some e) = search (once-when, once-done, takes_turn-once)

passes_to-once : (w : World) (c : Caller) (side : Turn) (l : Line) (carried : Option Ptr) (peer : Peer) → OnceOutcome w (passes_to w c side l carried peer)
passes_to-once w c side l carried (Server thread) = passes_to_thread-once w c side l.client carried (thread_led_to w thread)
passes_to-once w c side l carried Service = search (once-when, once-telling, once-done)
passes_to-once w c side l carried Parked = waits

pub over-once : (w : World) (c : Caller) (side : Turn) (carried : Option Ptr) → OnceOutcome w (over w c side carried)
unfolding over
over-once w c side carried = search (once_row, passes_to-once)

pub over_ref-once : (w : World) (c : Caller) (side : Turn) (reference : ℕ) → OnceOutcome w (over_ref w c side reference)
unfolding over_ref
over_ref-once w c side reference = search (once_row, over-once)

-- ---- stop counts and pages

pub thread_stop-once : (w : World) (c : Caller) (h : ℕ) → OnceOutcome w (thread_stop w c h)
unfolding thread_stop
thread_stop-once w c h = search (once_row, once-done) depth 9

pub thread_go-once : (w : World) (c : Caller) (h : ℕ) → OnceOutcome w (thread_go w c h)
unfolding thread_go
thread_go-once w c h = search (once_row, once-done) depth 9

gives-once : (w : World) (c : Caller) (space : Path) (page : ℕ) (words : List ℕ) → OnceOutcome w (gives_page w c space page words)
gives-once w c space page words = search (once_row, once-done)

gives_from-once : (w : World) (c : Caller) (space : Path) (page address : ℕ) → IsFaultless w (path_of c) → OnceOutcome w (gives_from w c space page address)
gives_from-once w c space page address clean =
    once-if w c.is_porter _ _ (gives-once w c space page c.words) (once-if w (address == ZEROS) _ _ (gives-once w c space page _)
    (own_page-once w c address false (λ s own. gives_page w c space page (words_at w s own)) clean (λ s own. gives-once w c space page _)))

pub page_give-once : (w : World) (c : Caller) (s page address : ℕ) → IsFaultless w (path_of c) → OnceOutcome w (page_give w c s page address)
unfolding page_give
page_give-once w c s page address clean = search (once_row, gives_from-once) depth 9

drops-mild : (space : Path) (page : ℕ) (drops : Bool) → AreMild (if drops then DropPage space page ∷ [] else [])
drops-mild space page true = (refl, tt)
drops-mild space page false = tt

copies-once : (w : World) (c : Caller) (space : Path) (page : ℕ) (drops : Bool) (words : List ℕ) (s : Path) (own : ℕ) →
    OnceOutcome w (copies c space page drops words s own)
copies-once w c space page drops words s own = mild-done w c _ [] (refl, drops-mild space page drops)

copies_home-once : (w : World) (c : Caller) (space : Path) (page : ℕ) (drops : Bool) (s : Path) (own : ℕ) →
    OnceOutcome w (copies_home w c space page drops s own)
copies_home-once w c space page drops s own = search (once_row, copies-once)

answers_home-once : (w : World) (c : Caller) (space : Path) (page : ℕ) (drops : Bool) → OnceOutcome w (answers_home w c space page drops)
answers_home-once w c space page drops = search (once_row, mild-done, drops-mild)

copies_to-once : (w : World) (c : Caller) (space : Path) (page : ℕ) (drops : Bool) (address : ℕ) → IsFaultless w (path_of c) →
    OnceOutcome w (copies_to w c space page drops address)
copies_to-once w c space page drops address clean = once-if w c.is_porter _ _ (answers_home-once w c space page drops)
    (own_page-once w c address true (copies_home w c space page drops) clean (copies_home-once w c space page drops))

pub page_take-once : (w : World) (c : Caller) (s page address : ℕ) → IsFaultless w (path_of c) → OnceOutcome w (page_take w c s page address)
unfolding page_take
page_take-once w c s page address clean = search (once_row, copies_to-once) depth 9

pub page_read-once : (w : World) (c : Caller) (s page address : ℕ) → IsFaultless w (path_of c) → OnceOutcome w (page_read w c s page address)
unfolding page_read
page_read-once w c s page address clean = search (once_row, copies_to-once) depth 9

pub page_next-once : (w : World) (c : Caller) (s from : ℕ) → OnceOutcome w (page_next w c s from)
unfolding page_next
page_next-once w c s from = search (once_row, once-done)
