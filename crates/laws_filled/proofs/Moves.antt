-- What a pager keeps back is unseen by moves of users and of native servers.
use Rattle.std.proofs.Common.{◌≡◌, ℕ, Bool, true, false, cond, ◌||◌, is_none, if◌then◌else◌, List, [], ◌∷◌, take, Option, Some, None, option_map, refl, sym, ap}
use Rattle.std.proofs.Common.{subst, ◌∙◌}
use Rattle.std.specs.List.{list_any}
use Rattle.std.proofs.lemmas.Bool.{and_parts}
use Rattle.fk_model.specs.declared.moves.Ask.{Ask}
use Rattle.fk_model.specs.declared.moves.Ask.TheVariants as asks
use Rattle.fk_model.specs.declared.stage.Stage.{Stage}
use Rattle.fk_model.specs.declared.stage.Stage.TheVariants.{Create, Destroy, Rename, Search, Point, Clear, Locate, CountIn, GetState, SetState, GetPtr, SetPtr}
use Rattle.fk_model.specs.declared.stage.Stage.TheVariants.{SpaceHold, SpaceRelease, ThreadStop, ThreadGo, PageGive, PageTake, PageRead, PageNext, MutexLock}
use Rattle.fk_model.specs.declared.stage.Stage.TheVariants.{MutexTrylock, MutexUnlock, CondWait, CondAsleep, CondSignal, CondBroadcast, Connect, ClientReceive}
use Rattle.fk_model.specs.declared.stage.Stage.TheVariants.{ClientSend, ClientOver, Disconnect, ClientOverRef, ClientReceiveRef, Wait, ServerReceive}
use Rattle.fk_model.specs.declared.stage.Stage.TheVariants.{ServerSend}
use Rattle.fk_model.specs.declared.stage.Stage.TheVariants.{ServerOver, ServerEnd, FaultDone, ServerOverRef, ServerReceiveRef, LinkSet, LinkPark, FaultSet}
use Rattle.fk_model.specs.declared.stage.Stage.TheVariants.{FaultPark, HoldSet, SpaceMakeHeld}
use Rattle.fk_model.specs.declared.statuses.status.TheConstants.{DENIED}
use Rattle.fk_model.specs.declared.thread.Turn.TheVariants as turns
use Rattle.fk_model.specs.Places.{Path, same_path, parent}
use Rattle.fk_model.specs.Objects.{Fault, Mode, Thread, Body, thread_of, and_then, holds}
use Rattle.fk_model.specs.Objects.Body.{Thread_of}
use Rattle.fk_model.specs.Objects.Mode.{Running, Calling, Halted, Native}
use Rattle.fk_model.specs.World.{World, Change, edited, apply, apply_all}
use Rattle.fk_model.specs.World.Change.{Alter}
use Rattle.fk_model.specs.World.Edit.{SetFault}
use Rattle.fk_model.specs.Searches.{thread_at}
use Rattle.fk_model.specs.Holds.{is_free}
use Rattle.fk_model.specs.Outcomes.{Said, Outcome, Caller, path_of, when, listed}
use Rattle.fk_model.specs.Outcomes.Outcome.{Refused, Goes}
use Rattle.fk_model.specs.Outcomes.Said.{Nothing}
use Rattle.fk_model.specs.LinkRows.{user_at}
use Rattle.fk_model.specs.Talks.{first_stage}
use Rattle.fk_model.specs.Moves.{stage_row, is_for_users, is_for_porters, allowed_row, chooses, with_pick, closed, call_row, goes_on, user_move, outcome}
use Rattle.fk_model.specs.Moves.{GoesAllowed, stepped, step}
use Rattle.fk_model.proofs.walks.PlaceLaws.{same_path_eq}
use Rattle.laws_filled.specs.Filled.{Paging, is_paged, kept_fault, unfaulted, filled, IsPaging, is_peek, peeks, is_raise}
use Rattle.laws_filled.specs.Laws.{is_others, with_filled, FilledMovesAlike, RaisesAreUnseen}
use Rattle.laws_filled.proofs.Changes.{AreTame, all-tame-calm, all_applied, all_allowed, calm-raises}
use Rattle.laws_filled.proofs.Reading.{thread-same}
use Rattle.laws_filled.proofs.Rows.{Seen, seen-when, free-seen, run_row-seen, search_row-seen, point-seen, clear-seen, locate-seen, thread_stop-seen}
use Rattle.laws_filled.proofs.Rows.{thread_go-seen}
use Rattle.laws_filled.proofs.Rows.{mutex_lock-seen, mutex_trylock-seen, mutex_unlock-seen, cond_wait-seen, cond_asleep-seen, cond_signal-seen}
use Rattle.laws_filled.proofs.Rows.{cond_broadcast-seen}
use Rattle.laws_filled.proofs.Rows.{connect-seen, receive-seen, receive_ref-seen, send-seen, over-seen, over_ref-seen, disconnect-seen, wait-seen}
use Rattle.laws_filled.proofs.Rows.{fault_done-seen, accept_row-seen, give_row-seen, over_row-seen}
use Rattle.laws_filled.proofs.Rows.Seen.{Waiting, Refusing, Raising, Going}

module _ (p : Paging) (w : World) (paging : IsPaging p w) where
  abbrev F : World
  F = filled p w

  abbrev clean : Thread → Thread
  clean t = record t { fault = and_then (kept_fault p) t.fault }

  -- ---- one stage of a user's call

  stage_row-seen : (c : Caller) (pick : Option Path) (stage : Stage) → is_for_porters stage ≡ false → is_peek p (path_of c) stage ≡ false →
      same_path p.porter (path_of c) ≡ false → Seen p w (path_of c) (stage_row w c pick stage) (stage_row F c pick stage)
  stage_row-seen c pick (Create s x kind) off dark other = cc
  stage_row-seen c pick (Destroy s x) off dark other = cc
  stage_row-seen c pick (Rename s x y) off dark other = cc
  stage_row-seen c pick (Search s from) off dark other = search_row-seen p w paging (path_of c) c s from
  stage_row-seen c pick (Point s x s2 x2) off dark other = point-seen p w paging (path_of c) c s x s2 x2
  stage_row-seen c pick (Clear s x) off dark other = clear-seen p w paging (path_of c) c s x
  stage_row-seen c pick (Locate reference s) off dark other = locate-seen p w paging (path_of c) c reference s
  stage_row-seen c pick (CountIn base s x) off dark other = cc
  stage_row-seen c pick (GetState s x address) off dark other = cc
  stage_row-seen c pick (SetState s x address) off dark other = cc
  stage_row-seen c pick (GetPtr s x field reference) off dark other = cc
  stage_row-seen c pick (SetPtr s x field reference) off dark other = cc
  stage_row-seen c pick (SpaceHold s x) off dark other = cc
  stage_row-seen c pick (SpaceRelease s x) off dark other = cc
  stage_row-seen c pick (ThreadStop h) off dark other = thread_stop-seen p w paging (path_of c) c h
  stage_row-seen c pick (ThreadGo h) off dark other = thread_go-seen p w paging (path_of c) c h
  stage_row-seen c pick (PageGive s page address) off dark other = cc
  stage_row-seen c pick (PageTake s page address) off dark other = cc
  stage_row-seen c pick (PageRead s page address) off dark other = cc
  stage_row-seen c pick (PageNext s from) off dark other = cc
  stage_row-seen c pick (MutexLock m) off dark other = mutex_lock-seen p w paging (path_of c) c m
  stage_row-seen c pick (MutexTrylock m) off dark other = mutex_trylock-seen p w paging (path_of c) c m
  stage_row-seen c pick (MutexUnlock m) off dark other = mutex_unlock-seen p w paging (path_of c) c m
  stage_row-seen c pick (CondWait cond m) off dark other = cond_wait-seen p w paging (path_of c) c cond m
  stage_row-seen c pick (CondAsleep cond m) off dark other = cond_asleep-seen p w paging (path_of c) c cond m
  stage_row-seen c pick (CondSignal cond) off dark other = cond_signal-seen p w paging (path_of c) c pick cond
  stage_row-seen c pick (CondBroadcast cond) off dark other = cond_broadcast-seen p w paging (path_of c) c cond
  stage_row-seen c pick (Connect h) off dark other = connect-seen p w paging (path_of c) c h
  stage_row-seen c pick (ClientReceive into room) off dark other = receive-seen p w paging c turns.Client into room
  stage_row-seen c pick (ClientSend address count) off dark other = send-seen p w paging c turns.Client address count
  stage_row-seen c pick ClientOver off dark other = over-seen p w paging (path_of c) c turns.Client None
  stage_row-seen c pick Disconnect off dark other = disconnect-seen p w paging (path_of c) c turns.Client
  stage_row-seen c pick (ClientOverRef reference) off dark other = over_ref-seen p w paging (path_of c) c turns.Client reference
  stage_row-seen c pick (ClientReceiveRef into room reference) off dark other = receive_ref-seen p w paging c turns.Client into room reference
  stage_row-seen c pick (Wait set) off dark other = wait-seen p w paging (path_of c) c pick set other dark
  stage_row-seen c pick (ServerReceive into room) off dark other = receive-seen p w paging c turns.Server into room
  stage_row-seen c pick (ServerSend address count) off dark other = send-seen p w paging c turns.Server address count
  stage_row-seen c pick ServerOver off dark other = over-seen p w paging (path_of c) c turns.Server None
  stage_row-seen c pick ServerEnd off dark other = disconnect-seen p w paging (path_of c) c turns.Server
  stage_row-seen c pick FaultDone off dark other = fault_done-seen p w paging (path_of c) c other
  stage_row-seen c pick (ServerOverRef reference) off dark other = over_ref-seen p w paging (path_of c) c turns.Server reference
  stage_row-seen c pick (ServerReceiveRef into room reference) off dark other = receive_ref-seen p w paging c turns.Server into room reference
  stage_row-seen c pick (LinkSet s x port server) off dark other = cc
  stage_row-seen c pick (LinkPark s x port) off dark other = cc
  stage_row-seen c pick (FaultSet s x port taker) off dark other = cc
  stage_row-seen c pick (FaultPark s x port taken) off dark other = cc
  stage_row-seen c pick (HoldSet s x thread) off dark other = cc
  stage_row-seen c pick (SpaceMakeHeld x) off dark other = cc

  picked-raising : (me : Path) (fault : Fault) (b : Bool) (o' : Outcome) → is_paged p fault ≡ true → fault.taker ≡ None →
      Seen p w me (when b (Goes (Alter me (SetFault (Some fault)) ∷ []) Nothing)) o'
  picked-raising me fault true o' paged new = Raising paged new
  picked-raising me fault false o' paged new = Waiting

  with_pick-seen : (me : Path) (chosen : Bool) (pick : Option Path) (o o' : Outcome) → Seen p w me o o' →
      Seen p w me (with_pick chosen pick o) (with_pick chosen pick o')
  with_pick-seen me chosen pick _ o' Waiting = Waiting
  with_pick-seen me chosen pick _ _ Refusing = seen-when p w me (is_none pick) (is_none pick) _ _ refl Refusing
  with_pick-seen me chosen pick _ o' (Raising paged new) = picked-raising me _ (chosen || is_none pick) _ paged new
  with_pick-seen me chosen pick _ _ (Going calm) = seen-when p w me (chosen || is_none pick) (chosen || is_none pick) _ _ refl (Going calm)

  closed-seen : (me : Path) (c : Caller) (o o' : Outcome) → Seen p w me o o' → Seen p w me (closed c o) (closed c o')
  closed-seen me c _ o' Waiting = Waiting
  closed-seen me c _ _ Refusing = by c.is_porter _
    where
      by : (porter : Bool) (status : ℕ) →
          Seen p w me (closed (record c { is_porter = porter }) (Refused status)) (closed (record c { is_porter = porter }) (Refused status))
      by true status = Going tt
      by false status = Going (refl, tt)
  closed-seen me c _ o' (Raising paged new) = Raising paged new
  closed-seen me c _ _ (Going calm) = Going calm

  allowed_row-seen : (c : Caller) (pick : Option Path) (stage : Stage) → c.is_porter ≡ false → is_peek p (path_of c) stage ≡ false →
      same_path p.porter (path_of c) ≡ false → Seen p w (path_of c) (allowed_row w c pick stage) (allowed_row F c pick stage)
  allowed_row-seen c pick stage user dark other = by c.is_porter user (is_for_porters stage) refl
    where
      by : (porter : Bool) → porter ≡ false → (t : Bool) → is_for_porters stage ≡ t →
          Seen p w (path_of c) (if (if porter then is_for_users stage else t) then Refused DENIED else stage_row w c pick stage)
          (if (if porter then is_for_users stage else t) then Refused DENIED else stage_row F c pick stage)
      by true e t f = cc
      by false e true f = Refusing
      by false e false f = stage_row-seen c pick stage f dark other

  call_row-seen : (c : Caller) (pick : Option Path) (stage : Stage) → c.is_porter ≡ false → is_peek p (path_of c) stage ≡ false →
      same_path p.porter (path_of c) ≡ false → Seen p w (path_of c) (call_row w c pick stage) (call_row F c pick stage)
  unfolding call_row
  call_row-seen c pick stage user dark other =
      closed-seen (path_of c) c _ _ (with_pick-seen (path_of c) (chooses stage) pick _ _ (allowed_row-seen c pick stage user dark other))

  goes_on-seen : (k : ℕ) (s : Path) (pick : Option Path) (t : Thread) (mode : Mode) → holds (is_peek p (k ∷ s)) (first_stage mode) ≡ false →
      same_path p.porter (k ∷ s) ≡ false → Seen p w (k ∷ s) (goes_on w (k ∷ s) pick t mode) (goes_on F (k ∷ s) pick (clean t) mode)
  goes_on-seen k s pick t (Running g) dark other = with_pick-seen (k ∷ s) false pick _ _ (run_row-seen p w paging s k g t.counter)
  goes_on-seen k s pick t (Calling (stage ∷ todo) rest) dark other = call_row-seen (user_at (k ∷ s)) pick stage refl dark other
  goes_on-seen k s pick t (Calling [] rest) dark other = Waiting
  goes_on-seen k s pick t (Halted g code) dark other = Waiting
  goes_on-seen k s pick t (Native g) dark other = Waiting

  user_move-seen : (k : ℕ) (s : Path) (pick : Option Path) (o : Option Thread) →
      holds (is_peek p (k ∷ s)) (and_then (λ (t : Thread). first_stage t.mode) o) ≡ false → same_path p.porter (k ∷ s) ≡ false →
      Seen p w (k ∷ s) (user_move w (k ∷ s) pick o) (user_move F (k ∷ s) pick (option_map clean o))
  user_move-seen k s pick None dark other = Waiting
  user_move-seen k s pick (Some t) dark other = free-seen p w paging (k ∷ s) s t _ _ (goes_on-seen k s pick t t.mode dark other)

  -- who raises a fault by a move: its mover, or nobody
  abbrev raiser : Path → Ask → Path
  raiser x asks.Run = x
  raiser x other = []

  pub outcome-seen : (x : Path) (pick : Option Path) (ask : Ask) → is_others ask ≡ true → peeks p w x ask ≡ false → same_path p.porter x ≡ false →
      Seen p w (raiser x ask) (outcome w x pick ask) (outcome F x pick ask)
  unfolding outcome
  outcome-seen [] pick asks.Run others dark other = rw (paging.root) Waiting
  outcome-seen (k ∷ s) pick asks.Run others dark other = rw (thread-same p w (k ∷ s)) (user_move-seen k s pick (thread_at w (k ∷ s)) dark other)
  outcome-seen x pick (asks.Call stage words) others dark other = cc
  outcome-seen x pick asks.Accept others dark other = accept_row-seen p w paging [] x pick
  outcome-seen x pick (asks.Give words len) others dark other = with_pick-seen [] false pick _ _ (give_row-seen p w paging [] x (take len words))
  outcome-seen x pick asks.Over others dark other = with_pick-seen [] false pick _ _ (over_row-seen p w paging [] x)

  -- ---- moves that raise no fault

  gone : (x : Path) (cs : List Change) (said : Said) → AreTame p w cs → GoesAllowed w x (Goes cs said) →
      GoesAllowed F x (Goes cs said) × (stepped F (Goes cs said) ≡ with_filled p (stepped w (Goes cs said)))
  gone x cs said tame ready = let calm = all-tame-calm p w cs tame in
      (all_allowed p w x cs calm ready, λ i. record { world = all_applied p cs w calm i; said = said })

  alike : (me x : Path) (o o' : Outcome) → Seen p w me o o' → GoesAllowed w x o → list_any (is_raise p) (listed o) ≡ false →
      GoesAllowed F x o' × (stepped F o' ≡ with_filled p (stepped w o))
  alike me x _ o' Waiting ready calm = absurd ready
  alike me x _ _ Refusing ready calm = absurd ready
  alike me x _ o' (Raising paged new) ready calm = absurd (no _ paged calm)
    where
      no : (b : Bool) → b ≡ true → (b || false) ≡ false → ⊥
      no true e f = cc
      no false e f = cc
  alike me x _ _ (Going calm) ready none = gone x _ _ calm ready

  -- ---- moves that raise one

  raised-body : (o : Option Body) (fault : Fault) → is_paged p fault ≡ true → ((t : Thread) → and_then thread_of o ≡ Some t → t.fault ≡ None) →
      option_map (unfaulted p) (option_map (edited (SetFault (Some fault))) o) ≡ option_map (unfaulted p) o
  unfolding edited
  raised-body None fault paged clear = refl
  raised-body (Some (Thread_of t)) fault paged clear =
      λ i. Some (Thread_of
      (record t { fault = (ap (λ (b : Bool). if b then None else Some fault) paged ∙ sym (ap (and_then (kept_fault p)) (clear t refl))) i }))
  raised-body (Some b) fault paged clear = refl

  raised-filled : (me : Path) (fault : Fault) → is_paged p fault ≡ true → ((t : Thread) → thread_at w me ≡ Some t → t.fault ≡ None) →
      filled p (apply (Alter me (SetFault (Some fault))) w) ≡ filled p w
  unfolding apply
  raised-filled me fault paged clear = λ i. record { body = λ q. by q (same_path q me) refl i; page = F.page; next = w.next }
    where
      here : (q : Path) → q ≡ me → option_map (unfaulted p) (option_map (edited (SetFault (Some fault))) (w.body q)) ≡ option_map (unfaulted p) (w.body q)
      here q e = raised-body (w.body q) fault paged (λ t there. clear t (sym (ap (thread_at w) e) ∙ there))

      by : (q : Path) (m : Bool) → same_path q me ≡ m →
          option_map (unfaulted p) (cond m (option_map (edited (SetFault (Some fault))) (w.body q)) (w.body q)) ≡ option_map (unfaulted p) (w.body q)
      by q true e = here q (same_path_eq q me e)
      by q false e = refl

  unseen : (me x : Path) (o o' : Outcome) → Seen p w me o o' → ((t : Thread) → thread_at w me ≡ Some t → t.fault ≡ None) →
      list_any (is_raise p) (listed o) ≡ true →
      (stepped w o ≡ record { world = (stepped w o).world; said = Nothing }) × (filled p (stepped w o).world ≡ F)
  unfolding apply_all
  unseen me x _ o' Waiting clear raising = (refl, refl)
  unseen me x _ _ Refusing clear raising = (refl, refl)
  unseen me x _ o' (Raising paged new) clear raising = (refl, raised-filled me _ paged clear)
  unseen me x _ _ (Going calm) clear raising = absurd (both _ (calm-raises p _ (all-tame-calm p w _ calm)) raising)
    where
      both : (b : Bool) → b ≡ false → b ≡ true → ⊥
      both b e f = cc

  no-fault : (o : Option Fault) → is_none o ≡ true → o ≡ None
  no-fault None e = refl
  no-fault (Some fault) e = cc

  -- whoever has a ready move has no fault
  free-clear : (x : Path) (pick : Option Path) (t : Thread) → thread_at w x ≡ Some t → GoesAllowed w x (user_move w x pick (thread_at w x)) → t.fault ≡ None
  free-clear x pick t there ready = by (is_free w (parent x) t) refl (subst (λ o. GoesAllowed w x (user_move w x pick o)) there ready)
    where
      by : (b : Bool) → is_free w (parent x) t ≡ b → GoesAllowed w x (when b (goes_on w x pick t t.mode)) → t.fault ≡ None
      by false e h = absurd h
      by true e h = no-fault t.fault (and_parts _ _ (and_parts _ _ e).0).1

  raiser-clear : (x : Path) (pick : Option Path) (ask : Ask) → GoesAllowed w x (outcome w x pick ask) → (t : Thread) →
      thread_at w (raiser x ask) ≡ Some t → t.fault ≡ None
  unfolding outcome
  raiser-clear x pick asks.Run ready t there = free-clear x pick t there ready
  raiser-clear x pick (asks.Call stage words) ready t there = let none = paging.root in cc
  raiser-clear x pick asks.Accept ready t there = let none = paging.root in cc
  raiser-clear x pick (asks.Give words len) ready t there = let none = paging.root in cc
  raiser-clear x pick asks.Over ready t there = let none = paging.root in cc

pub filled_moves_alike_lem : FilledMovesAlike
unfolding step
filled_moves_alike_lem p w x pick ask paging other others dark ready calm =
    alike p w paging _ x _ _ (outcome-seen p w paging x pick ask others dark other) ready calm

pub raises_are_unseen_lem : RaisesAreUnseen
unfolding step
raises_are_unseen_lem p w x pick ask paging other others dark ready raising =
    unseen p w paging _ x _ _ (outcome-seen p w paging x pick ask others dark other) (raiser-clear p w paging x pick ask ready) raising
