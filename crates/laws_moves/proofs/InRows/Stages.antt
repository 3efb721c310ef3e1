-- Every stage comes to one of the lists: the one walk through all rows.
use Rattle.std.proofs.Common.{◌≡◌, ℕ, ◌%◌, Bool, true, false, if◌then◌else◌, not, ◌||◌, ◌==◌, List, [], ◌∷◌, ◌++◌, Option, Some, None}
use Rattle.std.proofs.Common.{Ok, refl, ◌&&◌, is_some}
use Rattle.std.proofs.lemmas.Bool.{and_parts}
use Rattle.fk_model.specs.declared.limits.TheConstants.{PAGE_WORDS, BLOCK_WORDS, ZEROS}
use Rattle.fk_model.specs.declared.stage.Stage.{Stage}
use Rattle.fk_model.specs.declared.stage.Stage.TheVariants.{Create, Destroy, Rename, Search, Point, Clear, Locate, CountIn, GetState, SetState, GetPtr, SetPtr}
use Rattle.fk_model.specs.declared.stage.Stage.TheVariants.{SpaceHold, SpaceRelease, ThreadStop, ThreadGo, PageGive, PageTake, PageRead, PageNext, MutexLock}
use Rattle.fk_model.specs.declared.stage.Stage.TheVariants.{MutexTrylock, MutexUnlock, CondWait, CondAsleep, CondSignal, CondBroadcast, Connect, ClientReceive}
use Rattle.fk_model.specs.declared.stage.Stage.TheVariants.{ClientSend, ClientOver, Disconnect, ClientOverRef, ClientReceiveRef, Wait, ServerReceive}
use Rattle.fk_model.specs.declared.stage.Stage.TheVariants.{ServerSend, ServerOver, ServerEnd}
use Rattle.fk_model.specs.declared.stage.Stage.TheVariants.{FaultDone, ServerOverRef, ServerReceiveRef, LinkSet, LinkPark, FaultSet, FaultPark, HoldSet}
use Rattle.fk_model.specs.declared.stage.Stage.TheVariants.{SpaceMakeHeld}
use Rattle.fk_model.specs.declared.statuses.status.TheConstants.{OK, FULL}
use Rattle.fk_model.specs.declared.thread.Turn.{Turn}
use Rattle.fk_model.specs.declared.thread.Turn.TheVariants as turns
use Rattle.fk_model.specs.Places.{Path, same_path, parent, Ptr}
use Rattle.fk_model.specs.Objects.{Peer, Thread, Body, reference_of}
use Rattle.fk_model.specs.Objects.Peer.{Server, Service, Parked}
use Rattle.fk_model.specs.World.{World, Change}
use Rattle.fk_model.specs.World.Change.{Alter, PutPage}
use Rattle.fk_model.specs.World.Edit.{End, Replace, Shift, CountMoved}
use Rattle.fk_model.specs.Searches.{leaf, is_serving}
use Rattle.fk_model.specs.Reach.{reach_word, words_at}
use Rattle.fk_model.specs.Reach.Reach.{Home}
use Rattle.fk_model.specs.Holds.{is_free, is_frozen_for}
use Rattle.fk_model.specs.Outcomes.{Said, Outcome, Caller, path_of, done, stays, telling}
use Rattle.fk_model.specs.Outcomes.Said.{Nothing, Answered, Words, Passed}
use Rattle.fk_model.specs.Outcomes.Outcome.{Waits, Goes}
use Rattle.fk_model.specs.Readers.{object_in, anything, space_argument}
use Rattle.fk_model.specs.Talks.{Line, receiving, awaited, is_reference_in, other_side, thread_led_to, is_service_free}
use Rattle.fk_model.specs.SyncRows.{mutex_lock, mutex_trylock, mutex_unlock, cond_wait, cond_asleep, woken, asleep_on, sleepers, signals, unless_slept_on}
use Rattle.fk_model.specs.SyncRows.{picks_sleeper, cond_signal, cond_broadcast}
use Rattle.fk_model.specs.LinkRows.{connect, Candidate, candidate, takes_candidate, takes_picked, wait, told_end, disconnect, link_set, link_park}
use Rattle.fk_model.specs.LinkRows.Candidate.{Faulting, Connecting, Resuming}
use Rattle.fk_model.specs.TransferRows.{overwritten, block, moved_words, in_turn, has_sent, sends_words, sends_into, sends_to_thread, sends_to_service}
use Rattle.fk_model.specs.TransferRows.{sends_to, sends, send, receive, receive_ref, passes, takes_turn, passes_to_thread, passes_to, may_carry, over, over_ref}
use Rattle.fk_model.specs.FaultRows.{fault_done, fault_set, fault_park}
use Rattle.fk_model.specs.SpaceRows.{space_hold, space_release, thread_stop, thread_go, is_page, is_bad_source, gives_page, gives_from, page_give, copies_home}
use Rattle.fk_model.specs.SpaceRows.{answers_home, copies_to, page_take, page_read, page_next, hold_set, space_make_held}
use Rattle.fk_model.specs.StateRows.{is_native, is_bad_record_address, shows, shows_to, get_state, sets_record, record_at, sets_from, set_state, get_ptr}
use Rattle.fk_model.specs.StateRows.{set_ptr}
use Rattle.fk_model.specs.ObjectRows.{create, kills, told_with, destroys, destroy, rename, search as search_row, point, clear, locate, count_in}
use Rattle.fk_model.specs.Moves.{stage_row}
use Rattle.laws_moves.specs.Rows.Stages.{Source, RecordSource, Work, Step}
use Rattle.laws_moves.specs.Rows.Stages.Reads.{Finds, Locates, Counts, Answers_record, Finds_page, Answers_page, Sends_nothing, Wakes_nobody}
use Rattle.laws_moves.specs.Rows.Stages.Sets.{Locks, Wakes, Stops, Lets_go, Points, Clears, Gets_pointer, Sets_pointer, Holds, Releases, Restores_hold, Fills}
use Rattle.laws_moves.specs.Rows.Stages.Sets.{Passes_service, Takes_fault, Resumes, Frees, Restores_talk, Parks_talk, Restores_fault, Parks_fault}
use Rattle.laws_moves.specs.Rows.Stages.Source.{Own_words, Zeros, Of_page}
use Rattle.laws_moves.specs.Rows.Stages.RecordSource.{Own_record, Of_memory}
use Rattle.laws_moves.specs.Rows.Stages.Work.{Edits, Makes, Makes_held, Kills, Renames, Writes_record, Sets_record, Gives, Copies, Drops, Sleeps, Wakes_all}
use Rattle.laws_moves.specs.Rows.Stages.Work.{Takes_client, Hangs_up, Sends, Sends_service, Passes, Hands_over}
use Rattle.laws_moves.specs.Rows.Stages.Own.{Renamed}
use Rattle.laws_moves.specs.Rows.Stages.Step.{Is_waiting, Stays}
use Rattle.laws_moves.proofs.InRows.Handles.{receives-handled}
use Rattle.laws_moves.proofs.InRows.Walk.{step->>=, step-or_refuse, step-when, step-if, step-done_at, step-done, step-sets, step-reads, step-ended, step-told}
use Rattle.laws_moves.proofs.InRows.Walk.{step-own_page, step-their_page, step_row}

-- what goes with a turn that is handed over
data Goes_along (w : World) (c : Caller) : Option Ptr → Type 0 where
  No_pointer : Goes_along w c None
  Of_reference : (reference : ℕ) (p : Ptr) → object_in w c reference_of c.space reference ≡ Ok p → may_carry w (path_of c) (Some p) ≡ true → Goes_along w c
      (Some p)

module _ (w : World) (c : Caller) (pick : Option Path) where
  -- ---- objects

  create-step : (s x kind : ℕ) → Step w c pick (Create s x kind) (create w c s x kind)
  unfolding create
  create-step s x kind = search (step_row, step-done, Makes) depth 9

  destroys-step : (s x : ℕ) (space : Path) → Work w c pick (Destroy s x) (kills w (leaf w (x ∷ space))) [] →
      Step w c pick (Destroy s x) (destroys w c (x ∷ space) (leaf w (x ∷ space)))
  destroys-step s x space work = by (same_path (leaf w (x ∷ space)) (x ∷ space))
    where
      told : Said
      told = told_with w (leaf w (x ∷ space)) (w.body (leaf w (x ∷ space)))

      stayed : (porter : Bool) → Step w c pick (Destroy s x) (telling told (Goes (kills w (leaf w (x ∷ space))) (if porter then Answered OK [] else Nothing)))
      stayed true = Stays _ _ work
      stayed false = Stays _ _ work

      by : (t : Bool) → Step w c pick (Destroy s x)
          (telling told (if t then done c (kills w (leaf w (x ∷ space))) [] else stays c (kills w (leaf w (x ∷ space)))))
      by true = step-told told _ [] work
      by false = stayed c.is_porter

  destroy-step : (s x : ℕ) → Step w c pick (Destroy s x) (destroy w c s x)
  unfolding destroy
  destroy-step s x = search (step_row, destroys-step, Kills) depth 12

  rename-step : (s x y : ℕ) → Step w c pick (Rename s x y) (rename w c s x y)
  unfolding rename
  rename-step s x y = search (step_row, step-done_at, Renamed, Renames) depth 14

  point-step : (s x s2 x2 : ℕ) → Step w c pick (Point s x s2 x2) (point w c s x s2 x2)
  unfolding point
  point-step s x s2 x2 = search (step_row, step-sets, Points) depth 12

  clear-step : (s x : ℕ) → Step w c pick (Clear s x) (clear w c s x)
  unfolding clear
  clear-step s x = search (step_row, step-sets, Clears) depth 9

  search_row-step : (s from : ℕ) → Step w c pick (Search s from) (search_row w c s from)
  unfolding search_row
  search_row-step s from = search (step_row, step-reads, Finds) depth 9

  locate-step : (reference s : ℕ) → Step w c pick (Locate reference s) (locate w c reference s)
  unfolding locate
  locate-step reference s = search (step_row, step-reads, Locates) depth 12

  count_in-step : (base s x : ℕ) → Step w c pick (CountIn base s x) (count_in w c base s x)
  unfolding count_in
  count_in-step base s x = search (step_row, step-reads, Counts) depth 12

  -- ---- state

  shows_to-step : (s x address : ℕ) (space : Path) (b : Body) → space_argument w c s ≡ Ok space → object_in w c anything space x ≡ Ok b →
      is_bad_record_address c address ≡ false → Step w c pick (GetState s x address) (shows_to w c b address)
  shows_to-step s x address space b place read good = step-if c.is_porter _ _
      (λ porter. step-reads _ (Answers_record s x address space b place read porter))
      (λ user. step-own_page address true (shows w c b address)
      (λ t page home. step-done _ [] (Writes_record s x address space t b page place read good user home)))

  get_state-step : (s x address : ℕ) → Step w c pick (GetState s x address) (get_state w c s x address)
  unfolding get_state
  get_state-step s x address = search (step_row, shows_to-step) depth 9

  sets-step : (s x address : ℕ) (space : Path) (b : Body) (words : List ℕ) → space_argument w c s ≡ Ok space → object_in w c anything space x ≡ Ok b →
      is_frozen_for w (path_of c) (x ∷ space) ≡ false → is_native b ≡ false → is_bad_record_address c address ≡ false → RecordSource w c address words →
      Step w c pick (SetState s x address) (sets_record w c space (x ∷ space) b words)
  sets-step s x address space b words place read free off good source = search (step_row, step-done, Sets_record) depth 9

  sets_from-step : (s x address : ℕ) (space : Path) (b : Body) → space_argument w c s ≡ Ok space → object_in w c anything space x ≡ Ok b →
      is_frozen_for w (path_of c) (x ∷ space) ≡ false → is_native b ≡ false → is_bad_record_address c address ≡ false →
      Step w c pick (SetState s x address) (sets_from w c space (x ∷ space) b address)
  sets_from-step s x address space b place read free off good = step-if c.is_porter _ _
      (λ porter. sets-step s x address space b c.words place read free off good (Own_record porter))
      (λ user. step-own_page address false (λ t page. sets_record w c space (x ∷ space) b (record_at (words_at w t page) address))
      (λ t page home. sets-step s x address space b _ place read free off good (Of_memory t page user home)))

  set_state-step : (s x address : ℕ) → Step w c pick (SetState s x address) (set_state w c s x address)
  unfolding set_state
  set_state-step s x address = search (step_row, sets_from-step) depth 9

  get_ptr-step : (s x field reference : ℕ) → Step w c pick (GetPtr s x field reference) (get_ptr w c s x field reference)
  unfolding get_ptr
  get_ptr-step s x field reference = search (step_row, step-sets, Gets_pointer) depth 12

  set_ptr-step : (s x field reference : ℕ) → Step w c pick (SetPtr s x field reference) (set_ptr w c s x field reference)
  unfolding set_ptr
  set_ptr-step s x field reference = search (step_row, step-sets, Sets_pointer) depth 14

  -- ---- holds and stop counts

  space_hold-step : (s x : ℕ) → Step w c pick (SpaceHold s x) (space_hold w c s x)
  unfolding space_hold
  space_hold-step s x = search (step_row, step-sets, Holds) depth 12

  space_release-step : (s x : ℕ) → Step w c pick (SpaceRelease s x) (space_release w c s x)
  unfolding space_release
  space_release-step s x = search (step_row, step-sets, Releases) depth 12

  hold_set-step : (s x thread : ℕ) → Step w c pick (HoldSet s x thread) (hold_set w c s x thread)
  unfolding hold_set
  hold_set-step s x thread = search (step_row, step-sets, Restores_hold) depth 12

  space_make_held-step : (x : ℕ) → Step w c pick (SpaceMakeHeld x) (space_make_held w c x)
  unfolding space_make_held
  space_make_held-step x = search (step_row, step-done, Makes_held) depth 9

  thread_stop-step : (h : ℕ) → Step w c pick (ThreadStop h) (thread_stop w c h)
  unfolding thread_stop
  thread_stop-step h = search (step_row, step-sets, Stops) depth 9

  thread_go-step : (h : ℕ) → Step w c pick (ThreadGo h) (thread_go w c h)
  unfolding thread_go
  thread_go-step h = search (step_row, step-sets, Lets_go) depth 9

  -- ---- pages

  page_give-step : (s page address : ℕ) → Step w c pick (PageGive s page address) (page_give w c s page address)
  unfolding page_give
  page_give-step s page address = search (step_row, from) depth 9
    where
      gives : (space : Path) (words : List ℕ) → space_argument w c s ≡ Ok space → is_frozen_for w (path_of c) space ≡ false →
          (not (is_page page) || is_bad_source c address) ≡ false → Source w c words → Step w c pick (PageGive s page address) (gives_page w c space page words)
      gives space words place free good source = search (step_row, step-done, Gives) depth 9

      from : (space : Path) → space_argument w c s ≡ Ok space → is_frozen_for w (path_of c) space ≡ false →
          (not (is_page page) || is_bad_source c address) ≡ false → Step w c pick (PageGive s page address) (gives_from w c space page address)
      from space place free good = step-if c.is_porter _ _ (λ porter. gives space c.words place free good (Own_words porter))
          (λ user. step-if (address == ZEROS) _ _ (λ zeros. gives space _ place free good Zeros)
          (λ some. step-own_page address false (λ t own. gives_page w c space page (words_at w t own))
          (λ t own home. gives space _ place free good (Of_page address t own home))))

  copies_home-step : (stage : Stage) (s : ℕ) (space : Path) (page address : ℕ) (drops : Bool) (t : Path) (own : ℕ) → space_argument w c s ≡ Ok space →
      reach_word w c.space address true ≡ Home t own → Step w c pick stage (copies_home w c space page drops t own)
  copies_home-step stage s space page address drops t own place home = search (step_row, step-done, Copies) depth 9

  page_take-step : (s page address : ℕ) → Step w c pick (PageTake s page address) (page_take w c s page address)
  unfolding page_take
  page_take-step s page address = search (step_row, takes) depth 9
    where
      answers : (space : Path) → space_argument w c s ≡ Ok space → c.is_porter ≡ true → Step w c pick (PageTake s page address)
          (answers_home w c space page true)
      answers space place porter = search (step_row, step-done, Drops) depth 9

      takes : (space : Path) → space_argument w c s ≡ Ok space → Step w c pick (PageTake s page address) (copies_to w c space page true address)
      takes space place = step-if c.is_porter _ _ (answers space place)
          (λ user. step-own_page address true (copies_home w c space page true)
          (λ t own. copies_home-step (PageTake s page address) s space page address true t own place))

  page_read-step : (s page address : ℕ) → Step w c pick (PageRead s page address) (page_read w c s page address)
  unfolding page_read
  page_read-step s page address = search (step_row, reads) depth 9
    where
      answers : (space : Path) → space_argument w c s ≡ Ok space → c.is_porter ≡ true → Step w c pick (PageRead s page address)
          (answers_home w c space page false)
      answers space place porter = search (step_row, step-reads, Answers_page) depth 9

      reads : (space : Path) → space_argument w c s ≡ Ok space → Step w c pick (PageRead s page address) (copies_to w c space page false address)
      reads space place = step-if c.is_porter _ _ (answers space place)
          (λ user. step-own_page address true (copies_home w c space page false)
          (λ t own. copies_home-step (PageRead s page address) s space page address false t own place))

  page_next-step : (s from : ℕ) → Step w c pick (PageNext s from) (page_next w c s from)
  unfolding page_next
  page_next-step s from = search (step_row, step-reads, Finds_page) depth 9

  -- ---- mutexes and conditions

  mutex_lock-step : (m : ℕ) → Step w c pick (MutexLock m) (mutex_lock w c m)
  unfolding mutex_lock
  mutex_lock-step m = search (step_row, step-sets, Locks) depth 9

  mutex_trylock-step : (m : ℕ) → Step w c pick (MutexTrylock m) (mutex_trylock w c m)
  unfolding mutex_trylock
  mutex_trylock-step m = search (step_row, step-sets, Locks) depth 9

  mutex_unlock-step : (m : ℕ) → Step w c pick (MutexUnlock m) (mutex_unlock w c m)
  unfolding mutex_unlock
  mutex_unlock-step m = search (step_row, step-sets, Locks) depth 9

  cond_wait-step : (cond m : ℕ) → Step w c pick (CondWait cond m) (cond_wait w c cond m)
  unfolding cond_wait
  cond_wait-step cond m = search (step_row, Stays, Sleeps) depth 9

  cond_asleep-step : (cond m : ℕ) → Step w c pick (CondAsleep cond m) (cond_asleep w c cond m)
  unfolding cond_asleep
  cond_asleep-step cond m = search step_row

  signals-step : (cond : ℕ) (x : Path) (o : Option ℕ) → same_path (parent x) c.space ≡ true → asleep_on cond (w.body x) ≡ o →
      Step w c pick (CondSignal cond) (signals c (woken x o))
  signals-step cond x None here e = Is_waiting
  signals-step cond x (Some m) here e = step-sets x (Replace (MutexLock m)) [] (Wakes cond m x here e)

  unless_slept_on-step : (cond : ℕ) (cs : List Change) → Step w c pick (CondSignal cond) (unless_slept_on c cs)
  unless_slept_on-step cond [] = step-reads [] (Wakes_nobody cond)
  unless_slept_on-step cond (change ∷ cs) = Is_waiting

  picks_sleeper-step : (cond : ℕ) (picked : Option Path) → Step w c pick (CondSignal cond) (picks_sleeper w c cond picked)
  picks_sleeper-step cond None = unless_slept_on-step cond (sleepers w c.space cond)
  picks_sleeper-step cond (Some x) = step-when _ _ (λ here. signals-step cond x _ here refl)

  cond_signal-step : (cond : ℕ) → Step w c pick (CondSignal cond) (cond_signal w c pick cond)
  unfolding cond_signal
  cond_signal-step cond = search (step_row, picks_sleeper-step)

  cond_broadcast-step : (cond : ℕ) → Step w c pick (CondBroadcast cond) (cond_broadcast w c cond)
  unfolding cond_broadcast
  cond_broadcast-step cond = search (step_row, step-done, Wakes_all) depth 9

  -- ---- messages

  module _ (stage : Stage) where
    has_sent-step : (k count : ℕ) (cs : List Change) (said : Said) → Work w c pick stage (cs ++ Alter (path_of c) (Shift k) ∷ []) [] →
        Step w c pick stage (has_sent c k count cs said)
    has_sent-step k count cs said work = step-if (k == count) _ _ (λ e. step-told said _ [] work) (λ e. Stays _ said work)

    module _ (side : Turn) (l : Line) (here : in_turn w (path_of c) side side ≡ Ok l) where
      sends_into-step : (address count : ℕ) (s : Path) (own : ℕ) (thread : Ptr) (e : Path × Thread) → reach_word w c.space address false ≡ Home s own →
          l.other ≡ Server thread → thread_led_to w thread ≡ Some e → is_free w (parent e.0) e.1 ≡ true → (o : Option (ℕ × ℕ)) →
          receiving w (parent e.0) (other_side side) e.1.mode ≡ o → Step w c pick stage (sends_into w c l.client e.0 address count (words_at w s own) o)
      sends_into-step address count s own thread e home at led free None is = Is_waiting
      sends_into-step address count s own thread e home at led free (Some receive) is = step-if (receive.1 == 0) _ _
          (λ full. Stays _ Nothing (Edits stage e.0 (End FULL []) [] (Fills stage side l thread e receive here at led free is full)))
          (λ room. step-their_page (parent e.0) receive.0 go (λ t other theirs. has_sent-step k count (moves t other) Nothing
          (Sends stage side l address count receive thread e s own t other here at led free is home theirs)))
        where
          k : ℕ
          k = moved_words address count receive.0 receive.1

          go : Path → ℕ → Outcome
          go t other = sends_words c l.client e.0 (moved_words address count receive.0 receive.1) address count (words_at w s own) receive.0 t
              other (words_at w t other)

          moves : Path → ℕ → List Change
          moves t other =
              let k = moved_words address count receive.0 receive.1 in
              PutPage t other (overwritten (words_at w t other) (receive.0 % PAGE_WORDS) (block k address (words_at w s own)))
              ∷ Alter l.client (CountMoved k) ∷ Alter e.0 (Shift k) ∷ []

      sends_to-step : (address count : ℕ) (s : Path) (own : ℕ) → reach_word w c.space address false ≡ Home s own → (peer : Peer) → l.other ≡ peer →
          Step w c pick stage (sends_to w c side l address count (words_at w s own) peer)
      sends_to-step address count s own home (Server thread) at = to (thread_led_to w thread) refl
        where
          to : (o : Option (Path × Thread)) → thread_led_to w thread ≡ o →
              Step w c pick stage (sends_to_thread w c side l.client address count (words_at w s own) o)
          to None led = Is_waiting
          to (Some e) led = step-when _ _ (λ free. sends_into-step address count s own thread e home at led free _ refl)
      sends_to-step address count s own home Service at =
          step-when (is_service_free w l.talk.port) (sends_to_service c l.client l.talk.port address count (words_at w s own))
          (λ free. has_sent-step (moved_words address count 0 BLOCK_WORDS) count
          (Alter l.client (CountMoved (moved_words address count 0 BLOCK_WORDS)) ∷ [])
          (Words l.talk.port (block (moved_words address count 0 BLOCK_WORDS) address (words_at w s own)))
          (Sends_service stage side l address count here at))
      sends_to-step address count s own home Parked at = Is_waiting

      sends-step : (address count : ℕ) → Step w c pick stage (sends w c side address count l)
      sends-step address count = step-if (count == 0) _ _ (λ e. step-reads [] (Sends_nothing stage))
          (λ e. step-own_page address false (λ s page. sends_to w c side l address count (words_at w s page) l.other)
          (λ s own home. sends_to-step address count s own home l.other refl))

      hands-step : (thread : Ptr) (e : Path × Thread) → l.other ≡ Server thread → thread_led_to w thread ≡ Some e →
          (is_free w (parent e.0) e.1 && is_some (receiving w (parent e.0) (other_side side) e.1.mode)) ≡ true → (to : Option ℕ) → awaited e.1.mode ≡ to →
          (carried : Option Ptr) → Goes_along w c carried → Step w c pick stage (passes c side l.client (takes_turn e.0 carried to))
      hands-step thread e at led free to awaits None _ = step-done _ [] (Passes stage side l thread e to None here at led free awaits)
      hands-step thread e at led free None awaits (Some p) _ = step-done _ [] (Passes stage side l thread e None (Some p) here at led free awaits)
      hands-step thread e at led free (Some k) awaits (Some p) (Of_reference reference _ read may) =
          let handled = receives-handled w (parent e.0) (other_side side) e.1.mode (and_parts (is_free w (parent e.0) e.1) _ free).1 in
          step-done _ [] (Hands_over stage side l thread e k reference p here at led free awaits (rw awaits at handled) read may)

      passes_to-step : (carried : Option Ptr) → Goes_along w c carried → (peer : Peer) → l.other ≡ peer → Step w c pick stage
          (passes_to w c side l carried peer)
      passes_to-step carried carries (Server thread) at = to (thread_led_to w thread) refl
        where
          to : (o : Option (Path × Thread)) → thread_led_to w thread ≡ o → Step w c pick stage (passes_to_thread w c side l.client carried o)
          to None led = Is_waiting
          to (Some e) led = step-when _ _ (λ free. hands-step thread e at led free (awaited e.1.mode) refl carried carries)
      passes_to-step carried carries Service at =
          step-when (is_service_free w l.talk.port) (telling (Passed l.talk.port) (passes c side l.client []))
          (λ free. step-told (Passed l.talk.port) _ [] (Edits stage _ _ [] (Passes_service stage side l here at)))
      passes_to-step carried carries Parked at = Is_waiting

    send-step : (side : Turn) (address count : ℕ) → Step w c pick stage (send w c side address count)
    unfolding send
    send-step side address count = step->>= _ _ (λ l here. sends-step side l here address count)

    receive-step : (side : Turn) (into room : ℕ) → Step w c pick stage (receive w c side into room)
    unfolding receive
    receive-step side into room = step->>= _ _ (λ l here. step-if (room == 0) _ _ (λ e. Is_waiting)
        (λ e. step-own_page into true (λ s page. Waits) (λ s page home. Is_waiting)))

    receive_ref-step : (side : Turn) (into room reference : ℕ) → Step w c pick stage (receive_ref w c side into room reference)
    unfolding receive_ref
    receive_ref-step side into room reference = step->>= _ _ (λ old read. receive-step side into room)

    over-step : (side : Turn) → Step w c pick stage (over w c side None)
    unfolding over
    over-step side = step->>= _ _ (λ l here. passes_to-step side l here None No_pointer l.other refl)

    over_ref-step : (side : Turn) (reference : ℕ) → Step w c pick stage (over_ref w c side reference)
    unfolding over_ref over
    over_ref-step side reference = step->>= _ _ (λ p read. step->>= _ _ (λ l here. step-when _ _
        (λ may. passes_to-step side l here (Some p) (Of_reference reference p read may) l.other refl)))

    disconnect-step : (side : Turn) → Step w c pick stage (disconnect w c side)
    unfolding disconnect
    disconnect-step side = step-or_refuse _ _ _ (λ l here. step-told (told_end l.talk l.other) _ [] (Hangs_up stage side l here))

  -- ---- talks and faults

  connect-step : (h : ℕ) → Step w c pick (Connect h) (connect w c h)
  unfolding connect
  connect-step h = search step_row

  takes-step : (set : ℕ) (x : Path) (o : Option Candidate) → is_serving w (path_of c) ≡ false → candidate w c.space set x ≡ o →
      Step w c pick (Wait set) (takes_candidate c x o)
  takes-step set x None idle e = Is_waiting
  takes-step set x (Some (Faulting slot fault)) idle e = step-ended _ _ (Edits (Wait set) x _ _ (Takes_fault set slot x fault idle e))
  takes-step set x (Some (Connecting slot)) idle e = step-done _ _ (Takes_client set slot x idle e)
  takes-step set x (Some (Resuming slot talk)) idle e = step-ended _ _ (Edits (Wait set) x _ _ (Resumes set slot x talk idle e))

  takes_picked-step : (set : ℕ) (picked : Option Path) → is_serving w (path_of c) ≡ false → Step w c pick (Wait set) (takes_picked w c set picked)
  takes_picked-step set None idle = Is_waiting
  takes_picked-step set (Some x) idle = takes-step set x _ idle refl

  wait-step : (set : ℕ) → Step w c pick (Wait set) (wait w c pick set)
  unfolding wait
  wait-step set = search (step_row, takes_picked-step)

  fault_done-step : Step w c pick FaultDone (fault_done w c)
  unfolding fault_done
  fault_done-step = search (step_row, step-sets, Frees) depth 9

  link_set-step : (s x port server : ℕ) → Step w c pick (LinkSet s x port server) (link_set w c s x port server)
  unfolding link_set
  link_set-step s x port server = search (step_row, step-sets, Restores_talk) depth 12

  link_park-step : (s x port : ℕ) → Step w c pick (LinkPark s x port) (link_park w c s x port)
  unfolding link_park
  link_park-step s x port = search (step_row, step-sets, Parks_talk) depth 12

  fault_set-step : (s x port taker : ℕ) → Step w c pick (FaultSet s x port taker) (fault_set w c s x port taker)
  unfolding fault_set
  fault_set-step s x port taker = search (step_row, step-sets, Restores_fault) depth 12

  fault_park-step : (s x port taken : ℕ) → Step w c pick (FaultPark s x port taken) (fault_park w c s x port taken)
  unfolding fault_park
  fault_park-step s x port taken = search (step_row, step-sets, Parks_fault) depth 12

  -- ---- one stage

  pub stage-step : (stage : Stage) → Step w c pick stage (stage_row w c pick stage)
  stage-step (Create s x kind) = create-step s x kind
  stage-step (Destroy s x) = destroy-step s x
  stage-step (Rename s x y) = rename-step s x y
  stage-step (Search s from) = search_row-step s from
  stage-step (Point s x s2 x2) = point-step s x s2 x2
  stage-step (Clear s x) = clear-step s x
  stage-step (Locate reference s) = locate-step reference s
  stage-step (CountIn base s x) = count_in-step base s x
  stage-step (GetState s x address) = get_state-step s x address
  stage-step (SetState s x address) = set_state-step s x address
  stage-step (GetPtr s x field reference) = get_ptr-step s x field reference
  stage-step (SetPtr s x field reference) = set_ptr-step s x field reference
  stage-step (SpaceHold s x) = space_hold-step s x
  stage-step (SpaceRelease s x) = space_release-step s x
  stage-step (ThreadStop h) = thread_stop-step h
  stage-step (ThreadGo h) = thread_go-step h
  stage-step (PageGive s page address) = page_give-step s page address
  stage-step (PageTake s page address) = page_take-step s page address
  stage-step (PageRead s page address) = page_read-step s page address
  stage-step (PageNext s from) = page_next-step s from
  stage-step (MutexLock m) = mutex_lock-step m
  stage-step (MutexTrylock m) = mutex_trylock-step m
  stage-step (MutexUnlock m) = mutex_unlock-step m
  stage-step (CondWait cond m) = cond_wait-step cond m
  stage-step (CondAsleep cond m) = cond_asleep-step cond m
  stage-step (CondSignal cond) = cond_signal-step cond
  stage-step (CondBroadcast cond) = cond_broadcast-step cond
  stage-step (Connect h) = connect-step h
  stage-step (ClientReceive into room) = receive-step (ClientReceive into room) turns.Client into room
  stage-step (ClientSend address count) = send-step (ClientSend address count) turns.Client address count
  stage-step ClientOver = over-step ClientOver turns.Client
  stage-step Disconnect = disconnect-step Disconnect turns.Client
  stage-step (ClientOverRef reference) = over_ref-step (ClientOverRef reference) turns.Client reference
  stage-step (ClientReceiveRef into room reference) = receive_ref-step (ClientReceiveRef into room reference) turns.Client into room reference
  stage-step (Wait set) = wait-step set
  stage-step (ServerReceive into room) = receive-step (ServerReceive into room) turns.Server into room
  stage-step (ServerSend address count) = send-step (ServerSend address count) turns.Server address count
  stage-step ServerOver = over-step ServerOver turns.Server
  stage-step ServerEnd = disconnect-step ServerEnd turns.Server
  stage-step FaultDone = fault_done-step
  stage-step (ServerOverRef reference) = over_ref-step (ServerOverRef reference) turns.Server reference
  stage-step (ServerReceiveRef into room reference) = receive_ref-step (ServerReceiveRef into room reference) turns.Server into room reference
  stage-step (LinkSet s x port server) = link_set-step s x port server
  stage-step (LinkPark s x port) = link_park-step s x port
  stage-step (FaultSet s x port taker) = fault_set-step s x port taker
  stage-step (FaultPark s x port taken) = fault_park-step s x port taken
  stage-step (HoldSet s x thread) = hold_set-step s x thread
  stage-step (SpaceMakeHeld x) = space_make_held-step x
