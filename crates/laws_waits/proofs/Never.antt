-- Rows that never wait.
use Rattle.std.proofs.Common.{◌≡◌, ℕ, Bool, true, false, not, if◌then◌else◌, ◌&&◌, ◌||◌, ◌==◌, nat_le, is_some, List, ◌∷◌, Option, Some, None, Result, Ok, Err}
use Rattle.std.proofs.Common.{replicate}
use Rattle.fk_model.specs.declared.limits.TheConstants.{SLOTS, LAST_USER_SLOT, PAGE_WORDS, ZEROS, MOST_STOPS}
use Rattle.fk_model.specs.declared.instruction.Act.{Act}
use Rattle.fk_model.specs.declared.instruction.Act.TheVariants as acts
use Rattle.fk_model.specs.declared.names.Kind.TheVariants as kinds
use Rattle.fk_model.specs.declared.stage.Stage.{Stage}
use Rattle.fk_model.specs.declared.stage.Stage.TheVariants.{Create, Destroy, Rename, Search, Point, Clear, Locate, CountIn, GetState, SetState, GetPtr, SetPtr}
use Rattle.fk_model.specs.declared.stage.Stage.TheVariants.{ClientOverRef}
use Rattle.fk_model.specs.declared.stage.Stage.TheVariants.{SpaceHold, SpaceRelease, ThreadStop, ThreadGo, PageGive, PageTake, PageRead, PageNext, MutexLock}
use Rattle.fk_model.specs.declared.stage.Stage.TheVariants.{ClientReceiveRef}
use Rattle.fk_model.specs.declared.stage.Stage.TheVariants.{MutexTrylock, MutexUnlock, CondWait, CondAsleep, CondSignal, CondBroadcast, Connect, ClientReceive}
use Rattle.fk_model.specs.declared.stage.Stage.TheVariants.{ServerOverRef}
use Rattle.fk_model.specs.declared.stage.Stage.TheVariants.{ClientSend, ClientOver, Disconnect, Wait, ServerReceive, ServerSend, ServerOver, ServerEnd}
use Rattle.fk_model.specs.declared.stage.Stage.TheVariants.{ServerReceiveRef}
use Rattle.fk_model.specs.declared.stage.Stage.TheVariants.{FaultDone, LinkSet, LinkPark, FaultSet, FaultPark, HoldSet, SpaceMakeHeld}
use Rattle.fk_model.specs.declared.statuses.status.TheConstants as status
use Rattle.fk_model.specs.declared.thread.Turn.{Turn}
use Rattle.fk_model.specs.declared.thread.Turn.TheVariants as turns
use Rattle.fk_model.specs.Places.{Path, same_path, is_within, leads_to}
use Rattle.fk_model.specs.Objects.{Body, space_of, mutex_of, thread_of, port_of, reference_of, holds, is_served}
use Rattle.fk_model.specs.World.{World, Change}
use Rattle.fk_model.specs.Searches.{lowest, leaf, has_residents}
use Rattle.fk_model.specs.Reach.{Reach, reach_word}
use Rattle.fk_model.specs.Reach.Reach.{Home, Missing, Bad}
use Rattle.fk_model.specs.Holds.{is_frozen_for}
use Rattle.fk_model.specs.Outcomes.{Said, Outcome, ◌>>=◌, refuse, or_refuse, Caller, path_of, last_slot, done_at, done, telling}
use Rattle.fk_model.specs.Outcomes.Outcome.{Refused, Waits, Goes}
use Rattle.fk_model.specs.Outcomes.Said.{Nothing, Answered, Taken, Words, Given, Full, Passed, Ended}
use Rattle.fk_model.specs.Readers.{slot_for, object_in, anything, kind_at, space_argument, referred, accessed, own_page_at, own_page}
use Rattle.fk_model.specs.Talks.{line}
use Rattle.fk_model.specs.ObjectRows.{new_object, create, destroys, destroy, rename, taken_from, search, pointer_in, point, clear, target_of, way_to, locate}
use Rattle.fk_model.specs.ObjectRows.{object_or_space, count_in}
use Rattle.fk_model.specs.StateRows.{is_native, is_inner, is_bad_record_address, shows, get_state, is_still, sets_record, record_at, set_state, field_of}
use Rattle.fk_model.specs.StateRows.{get_ptr, set_ptr, held_kinds, is_of_kinds}
use Rattle.fk_model.specs.SpaceRows.{space_release, thread_by_handle, thread_stop, thread_go, is_page, gives_page, is_bad_source, page_give, copies_home}
use Rattle.fk_model.specs.SpaceRows.{answers_home, is_bad_target, page_take, page_read, next_page, page_next, hold_set, space_make_held}
use Rattle.fk_model.specs.SyncRows.{cond_of, mutex_trylock, mutex_unlock, cond_wait, cond_broadcast}
use Rattle.fk_model.specs.LinkRows.{disconnect, link_set, link_park}
use Rattle.fk_model.specs.FaultRows.{named_taker, fault_set, fault_park}
use Rattle.fk_model.specs.UserRows.{performs, executes, run_row_by, halts_with, loads, stores, enters, word_at}
use Rattle.fk_model.specs.Instructions.{act}
use Rattle.fk_model.specs.Records.{takes_state}
use Rattle.fk_model.specs.Reach.{words_at}
use Rattle.fk_model.specs.Calls.{todo_of}
use Rattle.laws_waits.specs.Rows.{OtherStagesNeverWait, InstructionsNeverWait}

-- ---- how rows are put together

abbrev Moves : Outcome → Type 0
Moves o = o ≡ Waits → ⊥

read : {A : Type 0} (r : Result A ℕ) (go : A → Outcome) → ((a : A) → Moves (go a)) → Moves (r >>= go)
read (Ok a) go moves h = moves a h
read (Err status) go moves h = absurd (cc)

pub either : (b : Bool) (o p : Outcome) → Moves o → Moves p → Moves (if b then o else p)
either true o p first second h = first h
either false o p first second h = second h

pub goes : (changes : List Change) (said : Said) → Moves (Goes changes said)
goes changes said h = absurd (cc)

refused : (status : ℕ) → Moves (Refused status)
refused status h = absurd (cc)

done_at-moves : (me : Path) (c : Caller) (changes : List Change) (answers : List ℕ) → Moves (done_at me c changes answers)
done_at-moves me c changes answers = either c.is_porter _ _ (goes _ _) (goes _ _)

pub done-moves : (c : Caller) (changes : List Change) (answers : List ℕ) → Moves (done c changes answers)
done-moves c changes answers = done_at-moves (path_of c) c changes answers

pub telling-moves : (said : Said) (o : Outcome) → Moves o → Moves (telling said o)
telling-moves said (Goes changes Nothing) moves h = absurd (cc)
telling-moves said (Goes changes (Answered s words)) moves h = absurd (cc)
telling-moves said (Goes changes (Taken port client resumed turn moved)) moves h = absurd (cc)
telling-moves said (Goes changes (Words port words)) moves h = absurd (cc)
telling-moves said (Goes changes (Given port count)) moves h = absurd (cc)
telling-moves said (Goes changes (Full port)) moves h = absurd (cc)
telling-moves said (Goes changes (Passed port)) moves h = absurd (cc)
telling-moves said (Goes changes (Ended port)) moves h = absurd (cc)
telling-moves said (Refused s) moves h = absurd (cc)
telling-moves said Waits moves h = moves h

own-moves : (me : Path) (write : Bool) (go : Path → ℕ → Outcome) (r : Reach) → ((s : Path) (g : ℕ) → Moves (go s g)) → Moves (own_page_at me write go r)
own-moves me write go (Home s g) moves = moves s g
own-moves me write go (Missing s g (Some port)) moves = goes _ _
own-moves me write go (Missing s g None) moves = refused _
own-moves me write go Bad moves = refused _

access-moves : (me : Path) (write : Bool) (halts : ℕ → Outcome) (go : Path → ℕ → Outcome) (r : Reach) → ((n : ℕ) → Moves (halts n)) →
    ((s : Path) (g : ℕ) → Moves (go s g)) → Moves (accessed me write halts go r)
access-moves me write halts go (Home s g) stop moves = moves s g
access-moves me write halts go (Missing s g (Some port)) stop moves = goes _ _
access-moves me write halts go (Missing s g None) stop moves = stop _
access-moves me write halts go Bad stop moves = stop _

module _ (w : World) (c : Caller) where
  place : (s : ℕ) (go : Path → Outcome) → ((space : Path) → Moves (go space)) → Moves (space_argument w c s >>= go)
  place s go moves = read (space_argument w c s) go moves

  create-moves : (s x kind : ℕ) → Moves (create w c s x kind)
  unfolding create
  create-moves s x kind =
      place s _ (λ space.
      read (slot_for c x) _ (λ k.
      read (refuse status.HELD (is_frozen_for w (path_of c) space)) _ (λ a.
      read (or_refuse status.WRONGKIND (new_object (x ∷ space) kind)) _ (λ made.
      read (refuse status.OCCUPIED (is_some (w.body (x ∷ space)))) _ (λ b. done-moves c _ _)))))

  destroys-moves : (x gone : Path) → Moves (destroys w c x gone)
  destroys-moves x gone = telling-moves _ _ (either (same_path gone x) _ _ (done-moves c _ _) (goes _ _))

  destroy-moves : (s x : ℕ) → Moves (destroy w c s x)
  unfolding destroy
  destroy-moves s x =
      place s _ (λ space.
      read (object_in w c anything space x) _ (λ b.
      read (refuse status.HELD (is_frozen_for w (path_of c) (x ∷ space))) _ (λ a.
      read (refuse status.DENIED (is_within (x ∷ space) c.space)) _ (λ a.
      read (refuse status.HELD (is_frozen_for w (path_of c) (leaf w (x ∷ space)))) _ (λ a. destroys-moves (x ∷ space) (leaf w (x ∷ space)))))))

  rename-moves : (s x y : ℕ) → Moves (rename w c s x y)
  unfolding rename
  rename-moves s x y =
      place s _ (λ space.
      read (object_in w c anything space x) _ (λ b.
      read (refuse status.HELD (is_frozen_for w (path_of c) (x ∷ space))) _ (λ a.
      read (refuse status.BADHANDLE (not (nat_le y LAST_USER_SLOT))) _ (λ a.
      read (refuse status.DENIED (is_served b)) _ (λ a.
      read (refuse status.OCCUPIED (is_some (w.body (y ∷ space)))) _ (λ a.
      read (refuse status.NOTEMPTY (has_residents w (x ∷ space))) _ (λ a. done_at-moves _ c _ _)))))))

  search-moves : (s from : ℕ) → Moves (search w c s from)
  unfolding search
  search-moves s from =
      place s _ (λ space. read (or_refuse status.NONE (lowest SLOTS (taken_from w space (last_slot c) from))) _ (λ found. done-moves c _ _))

  point-moves : (s x s2 x2 : ℕ) → Moves (point w c s x s2 x2)
  unfolding point
  point-moves s x s2 x2 =
      place s _ (λ space.
      read (object_in w c reference_of space x) _ (λ b.
      place s2 _ (λ space2.
      read (pointer_in w c space2 x2) _ (λ to.
      read (refuse status.HELD (is_frozen_for w (path_of c) (x ∷ space))) _ (λ a. done-moves c _ _)))))

  clear-moves : (s x : ℕ) → Moves (clear w c s x)
  unfolding clear
  clear-moves s x =
      place s _ (λ space.
      read (object_in w c reference_of space x) _ (λ b.
      read (refuse status.HELD (is_frozen_for w (path_of c) (x ∷ space))) _ (λ a. done-moves c _ _)))

  locate-moves : (reference s : ℕ) → Moves (locate w c reference s)
  unfolding locate
  locate-moves reference s =
      read (object_in w c reference_of c.space reference) _ (λ p.
      place s _ (λ space.
      read (target_of p) _ (λ to.
      read (or_refuse status.NONE (way_to space to)) _ (λ way. done-moves c _ _))))

  count-moves : (base s x : ℕ) → Moves (count_in w c base s x)
  unfolding count_in
  count-moves base s x = place base _ (λ top. place s _ (λ space. read (object_or_space w c space x) _ (λ to. done-moves c _ _)))

  get_state-moves : (s x address : ℕ) → Moves (get_state w c s x address)
  unfolding get_state
  get_state-moves s x address =
      place s _ (λ space.
      read (object_in w c anything space x) _ (λ b.
      read (refuse status.BADADDRESS (is_bad_record_address c address)) _ (λ a.
      either c.is_porter _ _ (done-moves c _ _) (own-moves (path_of c) true (shows w c b address) (reach_word w c.space address true)
      (λ s page. done-moves c _ _)))))

  record-moves : (space x : Path) (b : Body) (words : List ℕ) → Moves (sets_record w c space x b words)
  record-moves space x b words =
      read (refuse status.NOTSTOPPED (not (is_still w c x b))) _ (λ a.
      read (refuse status.BADSTATE (not (takes_state w space b words))) _ (λ a. done-moves c _ _))

  set_state-moves : (s x address : ℕ) → Moves (set_state w c s x address)
  unfolding set_state
  set_state-moves s x address =
      place s _ (λ space.
      read (object_in w c anything space x) _ (λ b.
      read (refuse status.HELD (is_frozen_for w (path_of c) (x ∷ space))) _ (λ a.
      read (refuse status.DENIED (is_native b)) _ (λ a.
      read (refuse status.BADADDRESS (is_bad_record_address c address)) _ (λ a.
      either c.is_porter _ _ (record-moves space (x ∷ space) b c.words)
      (own-moves (path_of c) false (λ s page. sets_record w c space (x ∷ space) b (record_at (words_at w s page) address)) (reach_word w c.space address false)
      (λ s page. record-moves space (x ∷ space) b _)))))))

  get_ptr-moves : (s x field reference : ℕ) → Moves (get_ptr w c s x field reference)
  unfolding get_ptr
  get_ptr-moves s x field reference =
      place s _ (λ space.
      read (object_in w c anything space x) _ (λ b.
      read (object_in w c reference_of c.space reference) _ (λ r.
      read (or_refuse status.BADSTATE (field_of field b)) _ (λ found.
      read (refuse status.DENIED (not c.is_porter && is_inner b)) _ (λ a. done-moves c _ _)))))

  set_ptr-moves : (s x field reference : ℕ) → Moves (set_ptr w c s x field reference)
  unfolding set_ptr
  set_ptr-moves s x field reference =
      place s _ (λ space.
      read (object_in w c anything space x) _ (λ b.
      read (object_in w c reference_of c.space reference) _ (λ to.
      read (refuse status.HELD (is_frozen_for w (path_of c) (x ∷ space))) _ (λ a.
      read (or_refuse status.BADSTATE (field_of field b)) _ (λ a.
      read (refuse status.DENIED (is_inner b)) _ (λ a.
      read (refuse status.WRONGKIND (not (is_of_kinds (held_kinds b) (kind_at w to)))) _ (λ a. done-moves c _ _)))))))

  release-moves : (s x : ℕ) → Moves (space_release w c s x)
  unfolding space_release
  release-moves s x =
      place s _ (λ space.
      read (object_in w c space_of space x) _ (λ holder.
      read (refuse status.HELD (is_frozen_for w (path_of c) space)) _ (λ a.
      read (refuse status.DENIED (not (holds (leads_to (path_of c)) holder))) _ (λ a. done-moves c _ _))))

  stop-moves : (h : ℕ) → Moves (thread_stop w c h)
  unfolding thread_stop
  stop-moves h =
      read (thread_by_handle w c h) _ (λ e.
      read (refuse status.HELD (is_frozen_for w (path_of c) e.0)) _ (λ a.
      read (refuse status.FULL (nat_le MOST_STOPS e.1.stops)) _ (λ a. done-moves c _ _)))

  go-moves : (h : ℕ) → Moves (thread_go w c h)
  unfolding thread_go
  go-moves h =
      read (thread_by_handle w c h) _ (λ e.
      read (refuse status.HELD (is_frozen_for w (path_of c) e.0)) _ (λ a.
      read (refuse status.NOTSTOPPED (e.1.stops == 0)) _ (λ a. done-moves c _ _)))

  gives-moves : (space : Path) (page : ℕ) (words : List ℕ) → Moves (gives_page w c space page words)
  gives-moves space page words = read (refuse status.OCCUPIED (is_some (w.page space page))) _ (λ a. done-moves c _ _)

  page_give-moves : (s page address : ℕ) → Moves (page_give w c s page address)
  unfolding page_give
  page_give-moves s page address =
      place s _ (λ space.
      read (refuse status.HELD (is_frozen_for w (path_of c) space)) _ (λ a.
      read (refuse status.BADADDRESS (not (is_page page) || is_bad_source c address)) _ (λ a.
      either c.is_porter _ _ (gives-moves space page c.words)
      (either (address == ZEROS) _ _ (gives-moves space page (replicate PAGE_WORDS 0))
      (own-moves (path_of c) false (λ s own. gives_page w c space page (words_at w s own)) (reach_word w c.space address false)
      (λ s own. gives-moves space page _))))))

  copies-moves : (space : Path) (page : ℕ) (drops : Bool) (s : Path) (own : ℕ) → Moves (copies_home w c space page drops s own)
  copies-moves space page drops s own = read (or_refuse status.NONE (w.page space page)) _ (λ words. done-moves c _ _)

  answers-moves : (space : Path) (page : ℕ) (drops : Bool) → Moves (answers_home w c space page drops)
  answers-moves space page drops = read (or_refuse status.NONE (w.page space page)) _ (λ words. done-moves c _ _)

  copied-moves : (space : Path) (page : ℕ) (drops : Bool) (address : ℕ) →
      Moves (if c.is_porter then answers_home w c space page drops else own_page w c address true (copies_home w c space page drops))
  copied-moves space page drops address =
      either c.is_porter _ _ (answers-moves space page drops)
      (own-moves (path_of c) true (copies_home w c space page drops) (reach_word w c.space address true) (copies-moves space page drops))

  page_take-moves : (s page address : ℕ) → Moves (page_take w c s page address)
  unfolding page_take
  page_take-moves s page address =
      place s _ (λ space.
      read (refuse status.HELD (is_frozen_for w (path_of c) space)) _ (λ a.
      read (refuse status.BADADDRESS (not (is_page page) || is_bad_target c address)) _ (λ a. copied-moves space page true address)))

  page_read-moves : (s page address : ℕ) → Moves (page_read w c s page address)
  unfolding page_read
  page_read-moves s page address =
      place s _ (λ space. read (refuse status.BADADDRESS (not (is_page page) || is_bad_target c address)) _ (λ a. copied-moves space page false address))

  page_next-moves : (s from : ℕ) → Moves (page_next w c s from)
  unfolding page_next
  page_next-moves s from = place s _ (λ space. read (or_refuse status.NONE (next_page w space from)) _ (λ page. done-moves c _ _))

  trylock-moves : (m : ℕ) → Moves (mutex_trylock w c m)
  unfolding mutex_trylock
  trylock-moves m = read (object_in w c mutex_of c.space m) _ (λ locked. read (refuse status.NONE locked) _ (λ a. done-moves c _ _))

  unlock-moves : (m : ℕ) → Moves (mutex_unlock w c m)
  unfolding mutex_unlock
  unlock-moves m = read (object_in w c mutex_of c.space m) _ (λ locked. read (refuse status.NOTLOCKED (not locked)) _ (λ a. done-moves c _ _))

  cond_wait-moves : (cond m : ℕ) → Moves (cond_wait w c cond m)
  unfolding cond_wait
  cond_wait-moves cond m =
      read (object_in w c cond_of c.space cond) _ (λ there.
      read (object_in w c mutex_of c.space m) _ (λ locked. read (refuse status.NOTLOCKED (not locked)) _ (λ a. goes _ _)))

  broadcast-moves : (cond : ℕ) → Moves (cond_broadcast w c cond)
  unfolding cond_broadcast
  broadcast-moves cond = read (object_in w c cond_of c.space cond) _ (λ there. done-moves c _ _)

  disconnect-moves : (side : Turn) → Moves (disconnect w c side)
  unfolding disconnect
  disconnect-moves side = read (or_refuse status.NOTLINKED (line w (path_of c) side)) _ (λ l. telling-moves _ _ (done-moves c _ _))

  link_set-moves : (s x port server : ℕ) → Moves (link_set w c s x port server)
  unfolding link_set
  link_set-moves s x port server =
      place s _ (λ space.
      read (object_in w c thread_of space x) _ (λ t.
      read (referred w c kinds.Port port) _ (λ at.
      read (referred w c kinds.Thread server) _ (λ thread.
      read (refuse status.HELD (is_frozen_for w (path_of c) (x ∷ space))) _ (λ a. done-moves c _ _)))))

  link_park-moves : (s x port : ℕ) → Moves (link_park w c s x port)
  unfolding link_park
  link_park-moves s x port =
      place s _ (λ space.
      read (object_in w c thread_of space x) _ (λ t.
      read (object_in w c port_of c.space port) _ (λ p.
      read (refuse status.HELD (is_frozen_for w (path_of c) (x ∷ space))) _ (λ a. done-moves c _ _))))

  fault_set-moves : (s x port taker : ℕ) → Moves (fault_set w c s x port taker)
  unfolding fault_set
  fault_set-moves s x port taker =
      place s _ (λ space.
      read (object_in w c thread_of space x) _ (λ t.
      read (referred w c kinds.Port port) _ (λ at.
      read (named_taker w c taker) _ (λ by.
      read (refuse status.HELD (is_frozen_for w (path_of c) (x ∷ space))) _ (λ a. done-moves c _ _)))))

  fault_park-moves : (s x port taken : ℕ) → Moves (fault_park w c s x port taken)
  unfolding fault_park
  fault_park-moves s x port taken =
      place s _ (λ space.
      read (object_in w c thread_of space x) _ (λ t.
      read (object_in w c port_of c.space port) _ (λ p.
      read (refuse status.HELD (is_frozen_for w (path_of c) (x ∷ space))) _ (λ a. done-moves c _ _))))

  hold_set-moves : (s x thread : ℕ) → Moves (hold_set w c s x thread)
  unfolding hold_set
  hold_set-moves s x thread =
      place s _ (λ space.
      read (object_in w c space_of space x) _ (λ b.
      read (referred w c kinds.Thread thread) _ (λ holder.
      read (refuse status.HELD (is_frozen_for w (path_of c) (x ∷ space))) _ (λ a. done-moves c _ _))))

  make_held-moves : (x : ℕ) → Moves (space_make_held w c x)
  unfolding space_make_held
  make_held-moves x = read (slot_for c x) _ (λ k. read (refuse status.OCCUPIED (is_some (w.body (x ∷ c.space)))) _ (λ a. done-moves c _ _))

pub never_wait_lem : OtherStagesNeverWait
never_wait_lem w c pick (Create s x kind) other = create-moves w c s x kind
never_wait_lem w c pick (Destroy s x) other = destroy-moves w c s x
never_wait_lem w c pick (Rename s x y) other = rename-moves w c s x y
never_wait_lem w c pick (Search s from) other = search-moves w c s from
never_wait_lem w c pick (Point s x s2 x2) other = point-moves w c s x s2 x2
never_wait_lem w c pick (Clear s x) other = clear-moves w c s x
never_wait_lem w c pick (Locate reference s) other = locate-moves w c reference s
never_wait_lem w c pick (CountIn base s x) other = count-moves w c base s x
never_wait_lem w c pick (GetState s x address) other = get_state-moves w c s x address
never_wait_lem w c pick (SetState s x address) other = set_state-moves w c s x address
never_wait_lem w c pick (GetPtr s x field reference) other = get_ptr-moves w c s x field reference
never_wait_lem w c pick (SetPtr s x field reference) other = set_ptr-moves w c s x field reference
never_wait_lem w c pick (SpaceRelease s x) other = release-moves w c s x
never_wait_lem w c pick (ThreadStop h) other = stop-moves w c h
never_wait_lem w c pick (ThreadGo h) other = go-moves w c h
never_wait_lem w c pick (PageGive s page address) other = page_give-moves w c s page address
never_wait_lem w c pick (PageTake s page address) other = page_take-moves w c s page address
never_wait_lem w c pick (PageRead s page address) other = page_read-moves w c s page address
never_wait_lem w c pick (PageNext s from) other = page_next-moves w c s from
never_wait_lem w c pick (MutexTrylock m) other = trylock-moves w c m
never_wait_lem w c pick (MutexUnlock m) other = unlock-moves w c m
never_wait_lem w c pick (CondWait cond m) other = cond_wait-moves w c cond m
never_wait_lem w c pick (CondBroadcast cond) other = broadcast-moves w c cond
never_wait_lem w c pick Disconnect other = disconnect-moves w c turns.Client
never_wait_lem w c pick ServerEnd other = disconnect-moves w c turns.Server
never_wait_lem w c pick (LinkSet s x port server) other = link_set-moves w c s x port server
never_wait_lem w c pick (LinkPark s x port) other = link_park-moves w c s x port
never_wait_lem w c pick (FaultSet s x port taker) other = fault_set-moves w c s x port taker
never_wait_lem w c pick (FaultPark s x port taken) other = fault_park-moves w c s x port taken
never_wait_lem w c pick (HoldSet s x thread) other = hold_set-moves w c s x thread
never_wait_lem w c pick (SpaceMakeHeld x) other = make_held-moves w c x
never_wait_lem w c pick (SpaceHold s x) other = absurd (cc)
never_wait_lem w c pick (MutexLock m) other = absurd (cc)
never_wait_lem w c pick (CondAsleep cond m) other = absurd (cc)
never_wait_lem w c pick (CondSignal cond) other = absurd (cc)
never_wait_lem w c pick (Connect h) other = absurd (cc)
never_wait_lem w c pick (ClientReceive into room) other = absurd (cc)
never_wait_lem w c pick (ClientSend address count) other = absurd (cc)
never_wait_lem w c pick ClientOver other = absurd (cc)
never_wait_lem w c pick (ClientOverRef reference) other = absurd (cc)
never_wait_lem w c pick (ClientReceiveRef into room reference) other = absurd (cc)
never_wait_lem w c pick (Wait set) other = absurd (cc)
never_wait_lem w c pick (ServerReceive into room) other = absurd (cc)
never_wait_lem w c pick (ServerSend address count) other = absurd (cc)
never_wait_lem w c pick ServerOver other = absurd (cc)
never_wait_lem w c pick FaultDone other = absurd (cc)
never_wait_lem w c pick (ServerOverRef reference) other = absurd (cc)
never_wait_lem w c pick (ServerReceiveRef into room reference) other = absurd (cc)

-- ---- instructions

module _ (w : World) (space me : Path) (g : List ℕ) (counter : ℕ) where
  stop-goes : (code : ℕ) → Moves (halts_with me g counter code)
  stop-goes code = goes _ _

  enters-moves : (o : Option (List Stage)) → Moves (enters me g counter o)
  enters-moves None = goes _ _
  enters-moves (Some todo) = goes _ _

  performs-moves : (act : Act) → Moves (performs todo_of w space me g counter act)
  performs-moves (acts.Put register value) = goes _ _
  performs-moves (acts.Jump to) = goes _ _
  performs-moves (acts.Load register address) =
      access-moves me false (halts_with me g counter) (loads w me g counter register address) (reach_word w space address false) stop-goes (λ s page. goes _ _)
  performs-moves (acts.Store address value) =
      access-moves me true (halts_with me g counter) (stores w me g counter address value) (reach_word w space address true) stop-goes (λ s page. goes _ _)
  performs-moves (acts.Halt code) = stop-goes code
  performs-moves acts.Call = enters-moves (todo_of g)

pub instructions_never_wait_lem : InstructionsNeverWait
unfolding run_row_by
instructions_never_wait_lem w space slot g counter =
    access-moves (slot ∷ space) false (halts_with (slot ∷ space) g counter) (executes todo_of w space (slot ∷ space) g counter)
    (reach_word w space counter false)
    (stop-goes w space (slot ∷ space) g counter) (λ s page. performs-moves w space (slot ∷ space) g counter (act (word_at w s page counter) g counter))
