-- The law of rebinding for every move, and for every list of moves.
use Rattle.std.proofs.Common.{◌≡◌, ℕ, Bool, true, false, cond, ◌&&◌, ◌||◌, ◌==◌, List, [], ◌∷◌, ◌++◌, map, Option, Some, None, is_none, refl, sym, ap, ◌∙◌}
use Rattle.std.proofs.Common.{subst}
use Rattle.std.proofs.Common.{append-nil}
use Rattle.std.proofs.lemmas.List.{map-append}
use Rattle.fk_model.specs.declared.stage.Stage.{Stage}
use Rattle.fk_model.specs.declared.stage.Stage.TheVariants.{Create, Destroy, Rename, Search, Point, Clear, Locate, CountIn, GetState, SetState, GetPtr, SetPtr}
use Rattle.fk_model.specs.declared.stage.Stage.TheVariants.{ClientOverRef}
use Rattle.fk_model.specs.declared.stage.Stage.TheVariants.{SpaceHold, SpaceRelease, ThreadStop, ThreadGo, PageGive, PageTake, PageRead, PageNext, MutexLock}
use Rattle.fk_model.specs.declared.stage.Stage.TheVariants.{ClientReceiveRef}
use Rattle.fk_model.specs.declared.stage.Stage.TheVariants.{MutexTrylock, MutexUnlock, CondWait, CondAsleep, CondSignal, CondBroadcast, Connect, ClientReceive}
use Rattle.fk_model.specs.declared.stage.Stage.TheVariants.{ServerOverRef}
use Rattle.fk_model.specs.declared.stage.Stage.TheVariants.{ClientSend, ClientOver, Disconnect, Wait, ServerReceive, ServerSend, ServerOver, ServerEnd}
use Rattle.fk_model.specs.declared.stage.Stage.TheVariants.{ServerReceiveRef}
use Rattle.fk_model.specs.declared.stage.Stage.TheVariants.{FaultDone, LinkSet, LinkPark, FaultSet, FaultPark, HoldSet, SpaceMakeHeld}
use Rattle.fk_model.specs.Places.{Path, Ptr}
use Rattle.fk_model.specs.Objects.{Mode, Thread}
use Rattle.fk_model.specs.Objects.Mode.{Running, Calling, Halted, Native}
use Rattle.fk_model.specs.World.{World}
use Rattle.fk_model.specs.Searches.{thread_at}
use Rattle.fk_model.specs.Holds.{is_free}
use Rattle.fk_model.specs.Outcomes.{when, stays}
use Rattle.fk_model.specs.Outcomes.Outcome.{Waits}
use Rattle.fk_model.specs.Moves.{goes_on}
use Rattle.fk_model.specs.Further.{Onward, Told, IsFurther, talks_outside, own_stage, counted, onward_row, OnwardTo, IsOnward}
use Rattle.fk_model.specs.Further.Onward.{Own, ByOthers}
use Rattle.fk_model.specs.Further.IsFurther.{Still, Then}
use Rattle.fk_model.specs.Rebind.{rebound_ptr, rebound, rebound_told, rebound_move}
use Rattle.laws_subtrees.specs.Cut.CutLaws.{IsAtStage}
use Rattle.laws_subtrees.specs.Cut.Likeness.{seen_thread, IsLikeness, IsCutWorld, AlikeOptions, IsSeenThread}
use Rattle.laws_subtrees.specs.Cut.RebindLaws.{Rebinds, MoveRebinds, RunRebinds}
use Rattle.laws_subtrees.proofs.InCut.likeness.Instances.{rebound-like}
use Rattle.laws_subtrees.proofs.InCut.likeness.Memory.{root_seen}
use Rattle.laws_subtrees.proofs.InCut.likeness.Talks.{thread_there-like}
use Rattle.laws_subtrees.proofs.InCut.cut.Inside.{quiet-waits}
use Rattle.laws_subtrees.proofs.InCut.cut.Rows.{plain_rebinds}
use Rattle.laws_subtrees.proofs.InCut.cut.Instructions.{instruction_rebinds}
use Rattle.laws_subtrees.proofs.InCut.cut.Objects.{rename_rebinds}
use Rattle.laws_subtrees.proofs.InCut.cut.Deaths.{destroy_rebinds}
use Rattle.laws_subtrees.proofs.InCut.cut.Gifts.{page_give_rebinds}
use Rattle.laws_subtrees.proofs.InCut.cut.Pages.{page_take_rebinds}
use Rattle.laws_subtrees.proofs.InCut.talks.Ends.{disconnect_rebinds, end_rebinds}
use Rattle.laws_subtrees.proofs.InCut.talks.Receives.{server_receive_rebinds, server_receive_ref_rebinds}
use Rattle.laws_subtrees.proofs.InCut.waits.Signals.{signal_rebinds}
use Rattle.laws_subtrees.proofs.InCut.waits.FaultEnds.{fault_done_rebinds}
use Rattle.laws_subtrees.proofs.InCut.rebinding.Denied.{denied_rebinds}
use Rattle.laws_subtrees.proofs.InCut.rebinding.Messages.{client_send_rebinds, client_over_rebinds, server_send_rebinds, server_over_rebinds}
use Rattle.laws_subtrees.proofs.InCut.rebinding.Messages.{client_over_ref_rebinds, server_over_ref_rebinds}
use Rattle.laws_subtrees.proofs.InCut.rebinding.Rebound.{rebinds_from, row_anew}
use Rattle.laws_subtrees.proofs.InCut.rebinding.Touches.{touch_rebinds}
use Rattle.laws_subtrees.proofs.InCut.rebinding.Waits.{wait_rebinds}
use Rattle.fk_model.specs.Instructions.{next}

-- ---- who makes no move

-- a mode in which no thread moves
abbrev is_idle : Mode → Bool
is_idle (Running g) = false
is_idle (Calling [] rest) = true
is_idle (Calling (stage ∷ todo) rest) = false
is_idle (Halted g code) = true
is_idle (Native g) = true

idle_row : (c : World) (k : ℕ) (q : Path) (p : Option Path) (n : ℕ) (t : Thread) → thread_at c (k ∷ q) ≡ Some t →
    is_idle t.mode ≡ true → onward_row c (Own (k ∷ q) p n) ≡ counted n (when (is_free c q t) Waits)
unfolding onward_row
idle_row c k q p n t is e = ap (counted n) (rw is (by (talks_outside c (k ∷ q) && is_none p) t.mode e))
  where
    by : (test : Bool) (mode : Mode) → is_idle mode ≡ true → cond test (when (is_free c q t) (own_stage c (k ∷ q) p n mode (goes_on c (k ∷ q) p t mode)))
        (when (is_free c q t) (goes_on c (k ∷ q) p t mode)) ≡ when (is_free c q t) Waits
    by true (Calling [] rest) e = refl
    by false (Calling [] rest) e = refl
    by true (Halted g code) e = refl
    by false (Halted g code) e = refl
    by true (Native g) e = refl
    by false (Native g) e = refl
    by test (Running g) e = cc
    by test (Calling (stage ∷ todo) rest) e = cc

idle_rebinds : (c : World) (k : ℕ) (q : Path) (p : Option Path) (n : ℕ) (t : Thread) → thread_at c (k ∷ q) ≡ Some t →
    is_idle t.mode ≡ true → Rebinds c (Own (k ∷ q) p n)
idle_rebinds c k q p n t is e bind world =
    row_anew bind c world k q p n t (λ w. Waits) (idle_row c k q p n t is e)
    (λ near. idle_row (rebound bind c) k q p n (seen_thread (rebound_ptr bind) t) near e) is (λ see small like. tt) (λ w. quiet-waits)

none_row : (c : World) (x : Path) (p : Option Path) (n : ℕ) → thread_at c x ≡ None → onward_row c (Own x p n) ≡ counted n Waits
unfolding onward_row
none_row c x p n none = rw none refl

none_there : {see : Ptr → Ptr} (c small : World) (x : Path) (like : IsLikeness [] see small c) → thread_at c x ≡ None → thread_at small x ≡ None
none_there c small [] like none = rw (root_seen like) refl
none_there {see} c small (k ∷ q) like none = by (thread_at small (k ∷ q)) (thread_at c (k ∷ (q ++ []))) (thread_there-like like (k ∷ q))
    (ap (λ (y : Path). thread_at c (k ∷ y)) (append-nil q) ∙ none)
  where
    by : (seen o : Option Thread) → AlikeOptions (IsSeenThread [] see c) seen o → o ≡ None → seen ≡ None
    by None o h e = refl
    by (Some seen) (Some u) h e = cc
    by (Some seen) None h e = absurd h

-- it isn't ready in either
idle_goes : (c : World) (m : Onward) (n : ℕ) (told : List Told) (later : World) → OnwardTo c m (counted n Waits) told later → ⊥
idle_goes c m n told later onward = by (n == 0 || false) onward
  where
    by : (b : Bool) → OnwardTo c m (when b Waits) told later → ⊥
    by true h = h
    by false h = h

nobody_rebinds : (c : World) (x : Path) (p : Option Path) (n : ℕ) → thread_at c x ≡ None → Rebinds c (Own x p n)
nobody_rebinds c x p n none bind world =
    rebinds_from bind c (Own x p n) (counted n Waits) (counted n Waits)
    (none_row (rebound bind c) x p n (none_there c (rebound bind c) x (rebound-like bind (λ p. p) [] c c world) none)) (none_row c x p n none)
    (λ told later onward. absurd (idle_goes c (Own x p n) n told later onward))
    (λ heard after onward. absurd (idle_goes (rebound bind c) (Own x p n) n heard after onward))
    (λ told later onward. absurd (idle_goes c (Own x p n) n told later onward))

-- ---- a stage

module _ (c : World) (x : Path) (pick : Option Path) (n : ℕ) where
  by_stage : (stage : Stage) → IsAtStage c x stage → Rebinds c (Own x pick n)
  by_stage (Create s y kind) at = plain_rebinds c x pick n (Create s y kind) refl at
  by_stage (Destroy s y) at = destroy_rebinds c x pick n (Destroy s y) (s, y, refl) at
  by_stage (Rename s y z) at = rename_rebinds c x pick n (Rename s y z) (s, y, z, refl) at
  by_stage (Search s from) at = plain_rebinds c x pick n (Search s from) refl at
  by_stage (Point s y s2 y2) at = plain_rebinds c x pick n (Point s y s2 y2) refl at
  by_stage (Clear s y) at = plain_rebinds c x pick n (Clear s y) refl at
  by_stage (Locate reference s) at = plain_rebinds c x pick n (Locate reference s) refl at
  by_stage (CountIn base s y) at = denied_rebinds c x pick n (CountIn base s y) refl at
  by_stage (GetState s y address) at = plain_rebinds c x pick n (GetState s y address) refl at
  by_stage (SetState s y address) at = plain_rebinds c x pick n (SetState s y address) refl at
  by_stage (GetPtr s y field reference) at = plain_rebinds c x pick n (GetPtr s y field reference) refl at
  by_stage (SetPtr s y field reference) at = plain_rebinds c x pick n (SetPtr s y field reference) refl at
  by_stage (SpaceHold s y) at = plain_rebinds c x pick n (SpaceHold s y) refl at
  by_stage (SpaceRelease s y) at = plain_rebinds c x pick n (SpaceRelease s y) refl at
  by_stage (ThreadStop h) at = plain_rebinds c x pick n (ThreadStop h) refl at
  by_stage (ThreadGo h) at = plain_rebinds c x pick n (ThreadGo h) refl at
  by_stage (PageGive s page address) at = page_give_rebinds c x pick n (PageGive s page address) (s, page, address, refl) at
  by_stage (PageTake s page address) at = page_take_rebinds c x pick n (PageTake s page address) (s, page, address, refl) at
  by_stage (PageRead s page address) at = plain_rebinds c x pick n (PageRead s page address) refl at
  by_stage (PageNext s from) at = plain_rebinds c x pick n (PageNext s from) refl at
  by_stage (MutexLock m) at = plain_rebinds c x pick n (MutexLock m) refl at
  by_stage (MutexTrylock m) at = plain_rebinds c x pick n (MutexTrylock m) refl at
  by_stage (MutexUnlock m) at = plain_rebinds c x pick n (MutexUnlock m) refl at
  by_stage (CondWait i m) at = plain_rebinds c x pick n (CondWait i m) refl at
  by_stage (CondAsleep i m) at = plain_rebinds c x pick n (CondAsleep i m) refl at
  by_stage (CondSignal i) at = signal_rebinds c x pick n (CondSignal i) (i, refl) at
  by_stage (CondBroadcast i) at = plain_rebinds c x pick n (CondBroadcast i) refl at
  by_stage (Connect h) at = plain_rebinds c x pick n (Connect h) refl at
  by_stage (ClientReceive into room) at = plain_rebinds c x pick n (ClientReceive into room) refl at
  by_stage (ClientSend address count) at = client_send_rebinds c x pick n (ClientSend address count) (address, count, refl) at
  by_stage ClientOver at = client_over_rebinds c x pick n ClientOver refl at
  by_stage Disconnect at = disconnect_rebinds c x pick n Disconnect refl at
  by_stage (ClientOverRef reference) at = client_over_ref_rebinds c x pick n (ClientOverRef reference) (reference, refl) at
  by_stage (ClientReceiveRef into room reference) at = plain_rebinds c x pick n (ClientReceiveRef into room reference) refl at
  by_stage (Wait set) at = wait_rebinds c x pick n (Wait set) (set, refl) at
  by_stage (ServerReceive into room) at = server_receive_rebinds c x pick n (ServerReceive into room) (into, room, refl) at
  by_stage (ServerSend address count) at = server_send_rebinds c x pick n (ServerSend address count) (address, count, refl) at
  by_stage ServerOver at = server_over_rebinds c x pick n ServerOver refl at
  by_stage ServerEnd at = end_rebinds c x pick n ServerEnd refl at
  by_stage FaultDone at = fault_done_rebinds c x pick n FaultDone refl at
  by_stage (ServerOverRef reference) at = server_over_ref_rebinds c x pick n (ServerOverRef reference) (reference, refl) at
  by_stage (ServerReceiveRef into room reference) at = server_receive_ref_rebinds c x pick n (ServerReceiveRef into room reference)
      (into, room, reference, refl) at
  by_stage (LinkSet s y port server) at = denied_rebinds c x pick n (LinkSet s y port server) refl at
  by_stage (LinkPark s y port) at = denied_rebinds c x pick n (LinkPark s y port) refl at
  by_stage (FaultSet s y port taker) at = denied_rebinds c x pick n (FaultSet s y port taker) refl at
  by_stage (FaultPark s y port taken) at = denied_rebinds c x pick n (FaultPark s y port taken) refl at
  by_stage (HoldSet s y thread) at = denied_rebinds c x pick n (HoldSet s y thread) refl at
  by_stage (SpaceMakeHeld y) at = denied_rebinds c x pick n (SpaceMakeHeld y) refl at

-- ---- every move

idle_at : (c : World) (x : Path) (p : Option Path) (n : ℕ) (t : Thread) → thread_at c x ≡ Some t → is_idle t.mode ≡ true → Rebinds c (Own x p n)
idle_at c (k ∷ q) p n t is e = idle_rebinds c k q p n t is e
idle_at c [] p n t is e = λ bind world. let none : thread_at c [] ≡ None = rw (root_seen world) refl in nobody_rebinds c [] p n none bind world

own_moves : (c : World) (x : Path) (p : Option Path) (n : ℕ) → Rebinds c (Own x p n)
own_moves c x p n = by (thread_at c x) refl
  where
    by_mode : (t : Thread) (mode : Mode) → thread_at c x ≡ Some t → t.mode ≡ mode → Rebinds c (Own x p n)
    by_mode t (Running g) is e = instruction_rebinds c x p n (t, g, is, e)
    by_mode t (Calling (stage ∷ todo) rest) is e = by_stage c x p n stage (t, todo, rest, is, e)
    by_mode t (Calling [] rest) is e = idle_at c x p n t is (rw e refl)
    by_mode t (Halted g code) is e = idle_at c x p n t is (rw e refl)
    by_mode t (Native g) is e = idle_at c x p n t is (rw e refl)

    by : (o : Option Thread) → thread_at c x ≡ o → Rebinds c (Own x p n)
    by None is = nobody_rebinds c x p n is
    by (Some t) is = by_mode t t.mode is refl

pub move_rebinds : MoveRebinds
move_rebinds c (Own x p n) = own_moves c x p n
move_rebinds c (ByOthers touch) = touch_rebinds c touch

-- ---- every list of moves

module _ (bind : ℕ → ℕ) where
  anew : (c later : World) (ms : List Onward) (told : List Told) → IsFurther c ms told later → IsCutWorld c →
      IsFurther (rebound bind c) (map (rebound_move bind) ms) (map (rebound_told bind) told) (rebound bind later)
  anew c _ _ _ (Still _) world = Still (rebound bind c)
  anew c later _ _ (Then _ d _ m ms told more one rest) world =
      let its = move_rebinds c m bind world in
      rw (map-append (rebound_told bind) told more) (Then (rebound bind c) (rebound bind d) (rebound bind later) (rebound_move bind m)
      (map (rebound_move bind) ms) (map (rebound_told bind) told) (map (rebound_told bind) more) (its.forth told d one)
      (anew d later ms more rest (its.stays told d one)))

  again : (b after : World) (ns : List Onward) (heard : List Told) → IsFurther b ns heard after →
      (ms : List Onward) → ns ≡ map (rebound_move bind) ms → (c : World) → b ≡ rebound bind c → IsCutWorld c →
      (told : List Told) × (later : World) × IsFurther c ms told later × (heard ≡ map (rebound_told bind) told) × (after ≡ rebound bind later)
  again b _ _ _ (Still _) [] f c e world = ([], c, Still c, refl, e)
  again b _ _ _ (Still _) (m ∷ ms) f c e world = cc
  again b after _ _ (Then _ d _ n ns heard more one rest) [] f c e world = cc
  again b after _ _ (Then _ d _ n ns heard more one rest) (m ∷ ms) f c e world =
      let head : n ≡ rebound_move bind m = cc in
      let tail : ns ≡ map (rebound_move bind) ms = cc in
      let its = move_rebinds c m bind world in
      let was = its.back heard d (subst (λ (n : Onward). IsOnward (rebound bind c) n heard d) head (rw e at one)) in
      let next = again d after ns more rest ms tail was.1 was.4 (its.stays was.0 was.1 was.2) in (
        was.0 ++ next.0,
        next.1,
        Then c was.1 next.1 m ms was.0 next.0 was.2 next.2,
        (λ i. was.3 i ++ next.3 i) ∙ sym (map-append (rebound_told bind) was.0 next.0),
        next.4,
      )

pub run_rebinds : RunRebinds
run_rebinds bind c ms world = record {
  forth = λ told later further. anew bind c later ms told further world;
  back = λ heard after further. again bind (rebound bind c) after (map (rebound_move bind) ms) heard further ms refl c refl world;
}
