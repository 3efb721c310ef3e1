-- The law of the cut, row by row.
use Rattle.std.proofs.Common.{ℕ, eqb, Bool, true, false, cond, not, [], ◌∷◌, Option, Some, None, IfSome, refl, ◌≡◌, List, map, flat_map, ◌++◌}
use Rattle.fk_model.specs.declared.thread.Turn.TheVariants as turns
use Rattle.fk_model.specs.declared.thread.Turn.{Turn}
use Rattle.fk_model.specs.declared.stage.Stage.TheVariants.{Create, Search, Point, Clear, Locate, GetState, SetState, GetPtr, SetPtr, SpaceHold, SpaceRelease}
use Rattle.fk_model.specs.declared.stage.Stage.TheVariants.{ClientOverRef}
use Rattle.fk_model.specs.declared.stage.Stage.TheVariants.{ThreadStop, ThreadGo, PageGive, PageTake, PageRead, PageNext, MutexLock, MutexTrylock, MutexUnlock}
use Rattle.fk_model.specs.declared.stage.Stage.TheVariants.{ClientReceiveRef}
use Rattle.fk_model.specs.declared.stage.Stage.TheVariants.{CondWait, CondAsleep, CondBroadcast, Connect, ClientReceive, ClientSend, ClientOver, Wait}
use Rattle.fk_model.specs.declared.stage.Stage.TheVariants.{ServerOverRef}
use Rattle.fk_model.specs.declared.stage.Stage.TheVariants.{ServerSend, ServerOver, ServerEnd, FaultDone}
use Rattle.fk_model.specs.declared.limits.TheConstants.{SLOTS}
use Rattle.fk_model.specs.declared.stage.Stage.{Stage}
use Rattle.fk_model.specs.Seen.{stage_touch}
use Rattle.fk_model.specs.Further.{outside_row}
use Rattle.fk_model.specs.Moves.{stage_row}
use Rattle.fk_model.specs.TransferRows.{awaits, receive, receive_ref}
use Rattle.fk_model.specs.Outcomes.Outcome.{Waits}
use Rattle.fk_model.specs.Holds.{is_frozen}
use Rattle.fk_model.specs.Searches.{slots}
use Rattle.fk_model.specs.World.Change.{Alter}
use Rattle.fk_model.specs.Objects.Body.{Mutex, Cond, Mapping, Region, Port, Portset, Space, Thread_of, Reference}
use Rattle.fk_model.specs.Places.{Path, Ptr}
use Rattle.fk_model.specs.Objects.{Body}
use Rattle.fk_model.specs.World.{World, Change}
use Rattle.fk_model.specs.Reach.{Reach, reach_word, words_at}
use Rattle.fk_model.specs.Reach.Reach.{Home, Missing, Bad}
use Rattle.fk_model.specs.Outcomes.{Outcome, ◌>>=◌, or_refuse, Caller, path_of, done}
use Rattle.fk_model.specs.Readers.{own_page_at, own_page}
use Rattle.fk_model.specs.LinkRows.{user_at, connect}
use Rattle.fk_model.specs.SyncRows.{mutex_lock, sets_locked, mutex_trylock, mutex_unlock, cond_wait, cond_asleep, woken, asleep_on, sleepers, cond_broadcast}
use Rattle.fk_model.specs.SpaceRows.{space_hold, space_release, thread_stop, thread_go, copies_home, answers_home, copies_to, page_read, page_next}
use Rattle.fk_model.specs.Records.{record_of, word, record_registers, set_edits}
use Rattle.fk_model.specs.StateRows.{shows, shows_to, get_state, sets_record, record_at, sets_from, set_state, get_ptr, set_ptr}
use Rattle.fk_model.specs.ObjectRows.{new_object, create, point, clear, search as search_row, locate}
use Rattle.laws_subtrees.specs.Cut.LikeChanges.{IsLikeOutcome}
use Rattle.laws_subtrees.specs.Cut.Likeness.{IsLikeness}
use Rattle.laws_subtrees.specs.Cut.RebindLaws.{StageRebinds}
use Rattle.laws_subtrees.specs.Cut.CutLaws.{IsPlainStage, StageKeepsCut}
use Rattle.laws_subtrees.proofs.InCut.likeness.PlainRows.{mutex_trylock-like, mutex_unlock-like, cond_wait-like, cond_asleep-like, cond_broadcast-like}
use Rattle.laws_subtrees.proofs.InCut.likeness.PlainRows.{space_release-like, receive_ref-like}
use Rattle.laws_subtrees.proofs.InCut.likeness.PlainRows.{thread_go-like, page_read-like, page_next-like, search-like, locate-like, clear-like, get_ptr-like}
use Rattle.laws_subtrees.proofs.InCut.likeness.PlainRows.{set_ptr-like}
use Rattle.laws_subtrees.proofs.InCut.likeness.PlainRows.{no_porter, set_state-like, connect-like, client_turns, receive-like}
use Rattle.laws_subtrees.proofs.InCut.likeness.Rows.{mutex_lock-like, thread_stop-like}
use Rattle.laws_subtrees.proofs.InCut.cut.Plain.{IsQuiet, AreQuiet}
use Rattle.laws_subtrees.proofs.InCut.cut.Inside.{Quiet, quiet-refused, quiet-waits, quiet-goes, quiet->>=, quiet-when, quiet-done, quiet-then}
use Rattle.laws_subtrees.proofs.InCut.cut.Outside.{IsInner, inner_stages}
use Rattle.laws_subtrees.proofs.InCut.rebinding.Rebound.{inner_rebinds}
use Rattle.laws_subtrees.proofs.InCut.likeness.ObjectRows.{create-like, point-like, get_state-like, space_hold-like}

-- ---- which changes the rows make

quiet-own_page_at : (root me : Path) (write : Bool) (go : Path → ℕ → Outcome) (r : Reach) →
    ((s : Path) (page : ℕ) → Quiet root (go s page)) → Quiet root (own_page_at me write go r)
quiet-own_page_at root me write go (Home s page) quiet = quiet s page
quiet-own_page_at root me write go (Missing s page None) quiet = quiet-refused
quiet-own_page_at root me write go (Missing s page (Some port)) quiet = quiet-goes ((λ out. refl), tt)
quiet-own_page_at root me write go Bad quiet = quiet-refused

pub quiet-own_page : (root : Path) (w : World) (c : Caller) (address : ℕ) (write : Bool) (go : Path → ℕ → Outcome) →
    ((s : Path) (page : ℕ) → Quiet root (go s page)) → Quiet root (own_page w c address write go)
quiet-own_page root w c address write go quiet = quiet-own_page_at root (path_of c) write go (reach_word w c.space address write) quiet

quiet-mutex_lock : (root : Path) (w : World) (c : Caller) (m : ℕ) → Quiet root (mutex_lock w c m)
unfolding mutex_lock
quiet-mutex_lock root w c m =
    quiet->>= root _ _ (λ locked. quiet-when root (not locked) _ (quiet-done root c (sets_locked (m ∷ c.space) true ∷ []) [] (tt, tt)))

pub ruleset quiet_row = (quiet->>=, quiet-when, quiet-done, quiet-refused, quiet-waits)

quiet-point : (root : Path) (w : World) (c : Caller) (s x s2 x2 : ℕ) → Quiet root (point w c s x s2 x2)
unfolding point
quiet-point root w c s x s2 x2 = search (quiet_row) depth 9

quiet-space_hold : (root : Path) (w : World) (c : Caller) (s x : ℕ) → Quiet root (space_hold w c s x)
unfolding space_hold
quiet-space_hold root w c s x = search (quiet_row) depth 9

quiet-shows_to : (root : Path) (w : World) (c : Caller) (b : Body) (address : ℕ) → Quiet root (shows_to w c b address)
quiet-shows_to root w c b address = by c.is_porter
  where
    by : (porter : Bool) → Quiet root (cond porter (done c [] (record_of b)) (own_page w c address true (shows w c b address)))
    by true = quiet-done root c [] (record_of b) tt
    by false = quiet-own_page root w c address true (shows w c b address) (λ s page. search (quiet_row))

quiet-get_state : (root : Path) (w : World) (c : Caller) (s x address : ℕ) → Quiet root (get_state w c s x address)
unfolding get_state
quiet-get_state root w c s x address = search (quiet_row, quiet-shows_to) depth 9

quiet_or : (root : Path) (t : Bool) (a : Change) (o : Option Change) → IsQuiet root a → IfSome o (IsQuiet root) → IfSome (cond t (Some a) o) (IsQuiet root)
quiet_or root true a o h g = h
quiet_or root false a o h g = g

quiet-new : (root x : Path) (kind : ℕ) → IfSome (new_object x kind) (IsQuiet root)
quiet-new root x kind =
    quiet_or root (eqb kind 1) _ _ (record { no_porter = refl; unserved = refl; served_outside = refl })
    (quiet_or root (eqb kind 2) _ _ (record { no_porter = refl; unserved = refl; served_outside = refl })
    (quiet_or root (eqb kind 3) _ _ (record { no_porter = refl; unserved = refl; served_outside = refl })
    (quiet_or root (eqb kind 4) _ _ (record { no_porter = refl; unserved = refl; served_outside = refl })
    (quiet_or root (eqb kind 5) _ _ (record { no_porter = refl; unserved = refl; served_outside = refl })
    (quiet_or root (eqb kind 6) _ _ (record { no_porter = refl; unserved = refl; served_outside = refl })
    (quiet_or root (eqb kind 7) _ _ tt
    (quiet_or root (eqb kind 8) _ _ (record { no_porter = refl; unserved = refl; served_outside = refl })
    (quiet_or root (eqb kind 9) _ None (record { no_porter = refl; unserved = refl; served_outside = refl }) tt))))))))

quiet-made : (root : Path) (status : ℕ) (o : Option Change) (go : Change → Outcome) →
    IfSome o (IsQuiet root) → ((c : Change) → IsQuiet root c → Quiet root (go c)) → Quiet root (or_refuse status o >>= go)
quiet-made root status None go h quiet = quiet-refused
quiet-made root status (Some c) go h quiet = quiet c h

quiet-create : (root : Path) (w : World) (c : Caller) (s x kind : ℕ) → Quiet root (create w c s x kind)
unfolding create
quiet-create root w c s x kind = search (quiet-made, quiet-new, quiet->>=, quiet-done) depth 9

quiet-search_row : (root : Path) (w : World) (c : Caller) (s from : ℕ) → Quiet root (search_row w c s from)
unfolding search_row
quiet-search_row root w c s from = search (quiet_row) depth 9

quiet-clear : (root : Path) (w : World) (c : Caller) (s x : ℕ) → Quiet root (clear w c s x)
unfolding clear
quiet-clear root w c s x = search (quiet_row) depth 9

quiet-locate : (root : Path) (w : World) (c : Caller) (reference s : ℕ) → Quiet root (locate w c reference s)
unfolding locate
quiet-locate root w c reference s = search (quiet_row) depth 9

quiet-edits : (root x : Path) (b : Body) (words : List ℕ) → AreQuiet root (map (Alter x) (set_edits b words))
quiet-edits root x (Mutex locked) words = (tt, tt)
quiet-edits root x (Mapping m) words = (tt, tt)
quiet-edits root x (Region r) words = (tt, tt)
quiet-edits root x (Port set served) words = (tt, tt)
quiet-edits root x (Thread_of t) words = (no_porter (word words 18) (record_registers words) (word words 19), (tt, tt))
quiet-edits root x Cond words = tt
quiet-edits root x Portset words = tt
quiet-edits root x (Space birth holder) words = tt
quiet-edits root x (Reference to) words = tt

quiet-sets : (root : Path) (w : World) (c : Caller) (space x : Path) (b : Body) (words : List ℕ) → Quiet root (sets_record w c space x b words)
quiet-sets root w c space x b words = search (quiet_row, quiet-edits) depth 9

quiet-sets_from : (root : Path) (w : World) (c : Caller) (space x : Path) (b : Body) (address : ℕ) → Quiet root (sets_from w c space x b address)
quiet-sets_from root w c space x b address = by c.is_porter
  where
    by : (porter : Bool) → Quiet root (cond porter
        (sets_record w c space x b c.words) (own_page w c address false (λ s page. sets_record w c space x b (record_at (words_at w s page) address))))
    by true = quiet-sets root w c space x b c.words
    by false = quiet-own_page root
        w c address false (λ s page. sets_record w c space x b (record_at (words_at w s page) address)) (λ s page. quiet-sets root w c space x b _)

quiet-set_state : (root : Path) (w : World) (c : Caller) (s x address : ℕ) → Quiet root (set_state w c s x address)
unfolding set_state
quiet-set_state root w c s x address = search (quiet_row, quiet-sets_from) depth 9

quiet-get_ptr : (root : Path) (w : World) (c : Caller) (s x field reference : ℕ) → Quiet root (get_ptr w c s x field reference)
unfolding get_ptr
quiet-get_ptr root w c s x field reference = search (quiet_row) depth 9

quiet-set_ptr : (root : Path) (w : World) (c : Caller) (s x field reference : ℕ) → Quiet root (set_ptr w c s x field reference)
unfolding set_ptr
quiet-set_ptr root w c s x field reference = search (quiet_row) depth 12

quiet-space_release : (root : Path) (w : World) (c : Caller) (s x : ℕ) → Quiet root (space_release w c s x)
unfolding space_release
quiet-space_release root w c s x = search (quiet_row) depth 9

quiet-thread_stop : (root : Path) (w : World) (c : Caller) (h : ℕ) → Quiet root (thread_stop w c h)
unfolding thread_stop
quiet-thread_stop root w c h = search (quiet_row) depth 9

quiet-thread_go : (root : Path) (w : World) (c : Caller) (h : ℕ) → Quiet root (thread_go w c h)
unfolding thread_go
quiet-thread_go root w c h = search (quiet_row) depth 9

quiet-copies : (root : Path) (w : World) (c : Caller) (space : Path) (page : ℕ) (s : Path) (own : ℕ) → Quiet root (copies_home w c space page false s own)
quiet-copies root w c space page s own = search (quiet_row)

quiet-reads : (root : Path) (w : World) (c : Caller) (space : Path) (page address : ℕ) → Quiet root (copies_to w c space page false address)
quiet-reads root w c space page address = by c.is_porter
  where
    by : (porter : Bool) → Quiet root (cond porter (answers_home w c space page false) (own_page w c address true (copies_home w c space page false)))
    by true = quiet->>= root _ _ (λ words. quiet-done root c [] words tt)
    by false = quiet-own_page root w c address true (copies_home w c space page false) (quiet-copies root w c space page)

quiet-page_read : (root : Path) (w : World) (c : Caller) (s page address : ℕ) → Quiet root (page_read w c s page address)
unfolding page_read
quiet-page_read root w c s page address = search (quiet_row, quiet-reads) depth 9

quiet-page_next : (root : Path) (w : World) (c : Caller) (s from : ℕ) → Quiet root (page_next w c s from)
unfolding page_next
quiet-page_next root w c s from = search (quiet_row) depth 9

quiet-mutex_trylock : (root : Path) (w : World) (c : Caller) (m : ℕ) → Quiet root (mutex_trylock w c m)
unfolding mutex_trylock
quiet-mutex_trylock root w c m = search (quiet_row) depth 9

quiet-mutex_unlock : (root : Path) (w : World) (c : Caller) (m : ℕ) → Quiet root (mutex_unlock w c m)
unfolding mutex_unlock
quiet-mutex_unlock root w c m = search (quiet_row) depth 9

quiet-cond_wait : (root : Path) (w : World) (c : Caller) (cond m : ℕ) → Quiet root (cond_wait w c cond m)
unfolding cond_wait
quiet-cond_wait root w c cond m = search (quiet_row, quiet-goes) depth 9

quiet-cond_asleep : (root : Path) (w : World) (c : Caller) (cond m : ℕ) → Quiet root (cond_asleep w c cond m)
unfolding cond_asleep
quiet-cond_asleep root w c cond m = search (quiet_row) depth 9

quiet-woken : (root x : Path) (m : Option ℕ) → AreQuiet root (woken x m)
quiet-woken root x None = tt
quiet-woken root x (Some m) = (tt, tt)

quiet-all_woken : (root : Path) (of_slot : ℕ → Path) (mutex : ℕ → Option ℕ) (ks : List ℕ) → AreQuiet root (flat_map (λ k. woken (of_slot k) (mutex k)) ks)
quiet-all_woken root of_slot mutex [] = tt
quiet-all_woken root of_slot mutex (k ∷ ks) = quiet-then root (woken (of_slot k) (mutex k)) _ (quiet-woken root _ _) (quiet-all_woken root of_slot mutex ks)

quiet-sleepers : (root : Path) (w : World) (space : Path) (cond : ℕ) → AreQuiet root (sleepers w space cond)
unfolding sleepers
quiet-sleepers root w space cond = quiet-all_woken root (λ k. k ∷ space) (λ k. asleep_on cond (w.body (k ∷ space))) (slots SLOTS)

quiet-cond_broadcast : (root : Path) (w : World) (c : Caller) (cond : ℕ) → Quiet root (cond_broadcast w c cond)
unfolding cond_broadcast
quiet-cond_broadcast root w c cond = search (quiet_row, quiet-sleepers) depth 9

quiet-connect : (root : Path) (w : World) (c : Caller) (h : ℕ) → Quiet root (connect w c h)
unfolding connect
quiet-connect root w c h = search (quiet_row) depth 9

quiet-awaits : (root : Path) (w : World) (c : Caller) (into room : ℕ) → Quiet root (awaits w c into room)
quiet-awaits root w c into room = by (eqb room 0)
  where
    by : (b : Bool) → Quiet root (cond b Waits (own_page w c into true (λ s page. Waits)))
    by true = quiet-waits
    by false = quiet-own_page root w c into true (λ s page. Waits) (λ s page. quiet-waits)

pub quiet-receive : (root : Path) (w : World) (c : Caller) (side : Turn) (into room : ℕ) → Quiet root (receive w c side into room)
unfolding receive
quiet-receive root w c side into room = search (quiet_row, quiet-awaits) depth 9

pub quiet-receive_ref : (root : Path) (w : World) (c : Caller) (side : Turn) (into room reference : ℕ) → Quiet root (receive_ref w c side into room reference)
unfolding receive_ref
quiet-receive_ref root w c side into room reference = search (quiet_row, quiet-receive) depth 9

-- ---- which changes the plain stages make

quiet-plain : (root : Path) (w : World) (c : Caller) (pick : Option Path) (stage : Stage) → IsPlainStage stage → Quiet root (stage_row w c pick stage)
quiet-plain root w c pick (Create s x kind) such = quiet-create root w c s x kind
quiet-plain root w c pick (Search s from) such = quiet-search_row root w c s from
quiet-plain root w c pick (Point s x s2 x2) such = quiet-point root w c s x s2 x2
quiet-plain root w c pick (Clear s x) such = quiet-clear root w c s x
quiet-plain root w c pick (Locate reference s) such = quiet-locate root w c reference s
quiet-plain root w c pick (GetState s x address) such = quiet-get_state root w c s x address
quiet-plain root w c pick (SetState s x address) such = quiet-set_state root w c s x address
quiet-plain root w c pick (GetPtr s x field reference) such = quiet-get_ptr root w c s x field reference
quiet-plain root w c pick (SetPtr s x field reference) such = quiet-set_ptr root w c s x field reference
quiet-plain root w c pick (SpaceHold s x) such = quiet-space_hold root w c s x
quiet-plain root w c pick (SpaceRelease s x) such = quiet-space_release root w c s x
quiet-plain root w c pick (ThreadStop h) such = quiet-thread_stop root w c h
quiet-plain root w c pick (ThreadGo h) such = quiet-thread_go root w c h
quiet-plain root w c pick (PageRead s page address) such = quiet-page_read root w c s page address
quiet-plain root w c pick (PageNext s from) such = quiet-page_next root w c s from
quiet-plain root w c pick (MutexLock m) such = quiet-mutex_lock root w c m
quiet-plain root w c pick (MutexTrylock m) such = quiet-mutex_trylock root w c m
quiet-plain root w c pick (MutexUnlock m) such = quiet-mutex_unlock root w c m
quiet-plain root w c pick (CondWait slot m) such = quiet-cond_wait root w c slot m
quiet-plain root w c pick (CondAsleep slot m) such = quiet-cond_asleep root w c slot m
quiet-plain root w c pick (CondBroadcast slot) such = quiet-cond_broadcast root w c slot
quiet-plain root w c pick (Connect h) such = quiet-connect root w c h
quiet-plain root w c pick (ClientReceive into room) such = quiet-receive root w c turns.Client into room
quiet-plain root w c pick (ClientReceiveRef into room reference) such = quiet-receive_ref root w c turns.Client into room reference
quiet-plain root w c pick stage such = cc

-- ---- they act alike

alike-plain : (root : Path) (see : Ptr → Ptr) (small big : World) →
    IsLikeness root see small big → is_frozen big root ≡ false → (k : ℕ) (q : Path) (p pick : Option Path) (stage : Stage) → IsPlainStage stage →
    IsLikeOutcome root see big (stage_row small (user_at (k ∷ q)) p stage) (stage_row big (user_at (k ∷ (q ++ root))) pick stage)
alike-plain root see small big like free k q p pick (Create s x kind) such = create-like like free (user_at (k ∷ q)) s x kind
alike-plain root see small big like free k q p pick (Search s from) such = search-like like (user_at (k ∷ q)) s from
alike-plain root see small big like free k q p pick (Point s x s2 x2) such = point-like like free (user_at (k ∷ q)) s x s2 x2
alike-plain root see small big like free k q p pick (Clear s x) such = clear-like like free (user_at (k ∷ q)) s x
alike-plain root see small big like free k q p pick (Locate reference s) such = locate-like like (user_at (k ∷ q)) reference s
alike-plain root see small big like free k q p pick (GetState s x address) such = get_state-like like (user_at (k ∷ q)) s x address
alike-plain root see small big like free k q p pick (SetState s x address) such = set_state-like like free (user_at (k ∷ q)) s x address
alike-plain root see small big like free k q p pick (GetPtr s x field reference) such = get_ptr-like like k q s x field reference
alike-plain root see small big like free k q p pick (SetPtr s x field reference) such = set_ptr-like like free (user_at (k ∷ q)) s x field reference
alike-plain root see small big like free k q p pick (SpaceHold s x) such = space_hold-like like free (user_at (k ∷ q)) s x
alike-plain root see small big like free k q p pick (SpaceRelease s x) such = space_release-like like free (user_at (k ∷ q)) s x
alike-plain root see small big like free k q p pick (ThreadStop h) such = thread_stop-like like free (user_at (k ∷ q)) h
alike-plain root see small big like free k q p pick (ThreadGo h) such = thread_go-like like free (user_at (k ∷ q)) h
alike-plain root see small big like free k q p pick (PageRead s page address) such = page_read-like like k q s page address
alike-plain root see small big like free k q p pick (PageNext s from) such = page_next-like like (user_at (k ∷ q)) s from
alike-plain root see small big like free k q p pick (MutexLock m) such = mutex_lock-like like (user_at (k ∷ q)) m
alike-plain root see small big like free k q p pick (MutexTrylock m) such = mutex_trylock-like like (user_at (k ∷ q)) m
alike-plain root see small big like free k q p pick (MutexUnlock m) such = mutex_unlock-like like (user_at (k ∷ q)) m
alike-plain root see small big like free k q p pick (CondWait slot m) such = cond_wait-like like (user_at (k ∷ q)) slot m
alike-plain root see small big like free k q p pick (CondAsleep slot m) such = cond_asleep-like like (user_at (k ∷ q)) slot m
alike-plain root see small big like free k q p pick (CondBroadcast slot) such = cond_broadcast-like like (user_at (k ∷ q)) slot
alike-plain root see small big like free k q p pick (Connect h) such = connect-like like (user_at (k ∷ q)) h
alike-plain root see small big like free k q p pick (ClientReceive into room) such =
    receive-like like (user_at (k ∷ q)) turns.Client into room (client_turns like k q)
alike-plain root see small big like free k q p pick (ClientReceiveRef into room reference) such =
    receive_ref-like like (user_at (k ∷ q)) turns.Client into room reference (client_turns like k q)
alike-plain root see small big like free k q p pick stage such = cc

-- ---- a peer outside makes nothing else of them, and they touch nothing

silent-plain : (w : World) (n : ℕ) (c : Caller) (o : Outcome) (stage : Stage) → IsPlainStage stage → outside_row w c n stage o ≡ o
silent-plain w n c o (ClientSend address count) such = cc
silent-plain w n c o ClientOver such = cc
silent-plain w n c o (ClientOverRef reference) such = cc
silent-plain w n c o stage such = refl

untouching-plain : (w : World) (root : Path) (c : Caller) (pick : Option Path) (cs : List Change) (stage : Stage) →
    IsPlainStage stage → stage_touch w root c pick cs stage ≡ None
untouching-plain w root c pick cs (Wait set) such = cc
untouching-plain w root c pick cs (ServerSend address count) such = cc
untouching-plain w root c pick cs ServerOver such = cc
untouching-plain w root c pick cs (ServerOverRef reference) such = cc
untouching-plain w root c pick cs ServerEnd such = cc
untouching-plain w root c pick cs FaultDone such = cc
untouching-plain w root c pick cs (PageGive s page address) such = cc
untouching-plain w root c pick cs (PageTake s page address) such = cc
untouching-plain w root c pick cs stage such = refl

-- ---- the laws

pub plain_inner : (stage : Stage) → IsPlainStage stage → IsInner stage
plain_inner stage such = record {
  silent = λ w n c o. silent-plain w n c o stage such;
  untouching = λ w root c pick cs. untouching-plain w root c pick cs stage such;
  quiet = λ root w c pick. quiet-plain root w c pick stage such;
  alike = λ root see small big like free k q p pick. alike-plain root see small big like free k q p pick stage such;
}

pub plain_keeps : StageKeepsCut IsPlainStage
plain_keeps = inner_stages IsPlainStage plain_inner

pub plain_rebinds : StageRebinds IsPlainStage
plain_rebinds = inner_rebinds IsPlainStage plain_inner
