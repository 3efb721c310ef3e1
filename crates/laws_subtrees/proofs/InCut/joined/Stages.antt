-- The law of the cut for a user thread's move, which is the same inside and outside but for eight stages.
use Rattle.std.proofs.Common.{◌≡◌, ℕ, Bool, true, false, [], ◌∷◌, Option, Some, None, refl}
use Rattle.fk_model.specs.declared.moves.Ask.TheVariants as asks
use Rattle.fk_model.specs.declared.stage.Stage.{Stage}
use Rattle.fk_model.specs.declared.stage.Stage.TheVariants.{Create, Destroy, Rename, Search, Point, Clear, Locate, CountIn, GetState, SetState, GetPtr, SetPtr}
use Rattle.fk_model.specs.declared.stage.Stage.TheVariants.{ClientOverRef}
use Rattle.fk_model.specs.declared.stage.Stage.TheVariants.{SpaceHold, SpaceRelease, ThreadStop, ThreadGo, PageGive, PageTake, PageRead, PageNext, MutexLock}
use Rattle.fk_model.specs.declared.stage.Stage.TheVariants.{ClientReceiveRef}
use Rattle.fk_model.specs.declared.stage.Stage.TheVariants.{MutexTrylock, MutexUnlock, CondWait, CondAsleep, CondSignal, CondBroadcast, Connect, ClientReceive}
use Rattle.fk_model.specs.declared.stage.Stage.TheVariants.{ServerOverRef}
use Rattle.fk_model.specs.declared.stage.Stage.TheVariants.{ClientSend, ClientOver, Disconnect, Wait, ServerReceive, ServerSend, ServerOver, ServerEnd}
use Rattle.fk_model.specs.declared.stage.Stage.TheVariants.{ServerReceiveRef}
use Rattle.fk_model.specs.declared.stage.Stage.TheVariants.{FaultDone, LinkSet, LinkPark, FaultSet, FaultPark, HoldSet, SpaceMakeHeld}
use Rattle.fk_model.specs.Places.{Path, parent}
use Rattle.fk_model.specs.Objects.{Mode, Thread, thread_of, and_then}
use Rattle.fk_model.specs.Objects.Mode.{Running, Calling, Halted, Native}
use Rattle.fk_model.specs.World.{World}
use Rattle.fk_model.specs.Holds.{is_free}
use Rattle.fk_model.specs.Outcomes.{when}
use Rattle.fk_model.specs.Outcomes.Outcome.{Waits}
use Rattle.fk_model.specs.Moves.{outcome, GoesAllowed, IsReady, goes_on}
use Rattle.laws_subtrees.specs.Cut.CutLaws.{KeepsCut, IsAtStage, moves}
use Rattle.laws_subtrees.proofs.InCut.cut.Calls.{denied_stages_keep}
use Rattle.laws_subtrees.proofs.InCut.cut.Rows.{plain_keeps}
use Rattle.laws_subtrees.proofs.InCut.cut.Instructions.{instruction_keeps}
use Rattle.laws_subtrees.proofs.InCut.cut.Pages.{page_take_keeps}
use Rattle.laws_subtrees.proofs.InCut.talks.Ends.{disconnect_keeps}
use Rattle.laws_subtrees.proofs.InCut.talks.Messages.{client_send_keeps, client_over_keeps, client_over_ref_keeps}
use Rattle.laws_subtrees.proofs.InCut.talks.Receives.{server_receive_keeps, server_receive_ref_keeps}
use Rattle.laws_subtrees.proofs.InCut.waits.Signals.{signal_keeps}

module _ (w : World) (x : Path) (pick : Option Path) where
  -- who has nothing to go on with makes no move
  idle : (t : Thread) (mode : Mode) → goes_on w x pick t mode ≡ Waits → GoesAllowed w x (when (is_free w (parent x) t) (goes_on w x pick t mode)) → ⊥
  idle t mode e = rw e (by (is_free w (parent x) t))
    where
      by : (b : Bool) → GoesAllowed w x (when b Waits) → ⊥
      by true h = h
      by false h = h

  idle_thread : (t : Thread) → and_then thread_of (w.body x) ≡ Some t → goes_on w x pick t t.mode ≡ Waits → IsReady w x pick asks.Run → ⊥
  unfolding outcome
  idle_thread t is e = rw is (idle t t.mode e)

  nobody : and_then thread_of (w.body x) ≡ None → IsReady w x pick asks.Run → ⊥
  unfolding outcome
  nobody is = rw is (λ h. h)

-- a stage that is another thing to a subtree when it is made outside
abbrev pub differs : Stage → Bool
differs (Destroy s y) = true
differs (Rename s y z) = true
differs (PageGive s page address) = true
differs (Wait set) = true
differs (ServerSend address count) = true
differs ServerOver = true
differs ServerEnd = true
differs FaultDone = true
differs (ServerOverRef reference) = true
differs other = false

module _ (w : World) (nester : Path) (slot : ℕ) (x : Path) (pick : Option Path) where
  -- a stage that is the same to it on either side
  pub either_side : (stage : Stage) → differs stage ≡ false → IsAtStage w x stage → KeepsCut w nester slot (moves x pick)
  either_side (Create s y kind) alike at = plain_keeps w nester slot x pick (Create s y kind) refl at
  either_side (Destroy s y) alike at = absurd (cc)
  either_side (Rename s y z) alike at = absurd (cc)
  either_side (Search s from) alike at = plain_keeps w nester slot x pick (Search s from) refl at
  either_side (Point s y s2 y2) alike at = plain_keeps w nester slot x pick (Point s y s2 y2) refl at
  either_side (Clear s y) alike at = plain_keeps w nester slot x pick (Clear s y) refl at
  either_side (Locate reference s) alike at = plain_keeps w nester slot x pick (Locate reference s) refl at
  either_side (CountIn base s y) alike at = denied_stages_keep w nester slot x pick (CountIn base s y) refl at
  either_side (GetState s y address) alike at = plain_keeps w nester slot x pick (GetState s y address) refl at
  either_side (SetState s y address) alike at = plain_keeps w nester slot x pick (SetState s y address) refl at
  either_side (GetPtr s y field reference) alike at = plain_keeps w nester slot x pick (GetPtr s y field reference) refl at
  either_side (SetPtr s y field reference) alike at = plain_keeps w nester slot x pick (SetPtr s y field reference) refl at
  either_side (SpaceHold s y) alike at = plain_keeps w nester slot x pick (SpaceHold s y) refl at
  either_side (SpaceRelease s y) alike at = plain_keeps w nester slot x pick (SpaceRelease s y) refl at
  either_side (ThreadStop h) alike at = plain_keeps w nester slot x pick (ThreadStop h) refl at
  either_side (ThreadGo h) alike at = plain_keeps w nester slot x pick (ThreadGo h) refl at
  either_side (PageGive s page address) alike at = absurd (cc)
  either_side (PageTake s page address) alike at = page_take_keeps w nester slot x pick (PageTake s page address) (s, page, address, refl) at
  either_side (PageRead s page address) alike at = plain_keeps w nester slot x pick (PageRead s page address) refl at
  either_side (PageNext s from) alike at = plain_keeps w nester slot x pick (PageNext s from) refl at
  either_side (MutexLock m) alike at = plain_keeps w nester slot x pick (MutexLock m) refl at
  either_side (MutexTrylock m) alike at = plain_keeps w nester slot x pick (MutexTrylock m) refl at
  either_side (MutexUnlock m) alike at = plain_keeps w nester slot x pick (MutexUnlock m) refl at
  either_side (CondWait i m) alike at = plain_keeps w nester slot x pick (CondWait i m) refl at
  either_side (CondAsleep i m) alike at = plain_keeps w nester slot x pick (CondAsleep i m) refl at
  either_side (CondSignal i) alike at = signal_keeps w nester slot x pick (CondSignal i) (i, refl) at
  either_side (CondBroadcast i) alike at = plain_keeps w nester slot x pick (CondBroadcast i) refl at
  either_side (Connect h) alike at = plain_keeps w nester slot x pick (Connect h) refl at
  either_side (ClientReceive into room) alike at = plain_keeps w nester slot x pick (ClientReceive into room) refl at
  either_side (ClientSend address count) alike at = client_send_keeps w nester slot x pick (ClientSend address count) (address, count, refl) at
  either_side ClientOver alike at = client_over_keeps w nester slot x pick ClientOver refl at
  either_side Disconnect alike at = disconnect_keeps w nester slot x pick Disconnect refl at
  either_side (ClientOverRef reference) alike at = client_over_ref_keeps w nester slot x pick (ClientOverRef reference) (reference, refl) at
  either_side (ClientReceiveRef into room reference) alike at = plain_keeps w nester slot x pick (ClientReceiveRef into room reference) refl at
  either_side (Wait set) alike at = absurd (cc)
  either_side (ServerReceive into room) alike at = server_receive_keeps w nester slot x pick (ServerReceive into room) (into, room, refl) at
  either_side (ServerSend address count) alike at = absurd (cc)
  either_side ServerOver alike at = absurd (cc)
  either_side ServerEnd alike at = absurd (cc)
  either_side FaultDone alike at = absurd (cc)
  either_side (ServerOverRef reference) alike at = absurd (cc)
  either_side (ServerReceiveRef into room reference) alike at =
      server_receive_ref_keeps w nester slot x pick (ServerReceiveRef into room reference) (into, room, reference, refl) at
  either_side (LinkSet s y port server) alike at = denied_stages_keep w nester slot x pick (LinkSet s y port server) refl at
  either_side (LinkPark s y port) alike at = denied_stages_keep w nester slot x pick (LinkPark s y port) refl at
  either_side (FaultSet s y port taker) alike at = denied_stages_keep w nester slot x pick (FaultSet s y port taker) refl at
  either_side (FaultPark s y port taken) alike at = denied_stages_keep w nester slot x pick (FaultPark s y port taken) refl at
  either_side (HoldSet s y thread) alike at = denied_stages_keep w nester slot x pick (HoldSet s y thread) refl at
  either_side (SpaceMakeHeld y) alike at = denied_stages_keep w nester slot x pick (SpaceMakeHeld y) refl at

  -- a move of a thread, where that at each stage is known
  pub runs : ((stage : Stage) → IsAtStage w x stage → KeepsCut w nester slot (moves x pick)) → KeepsCut w nester slot (moves x pick)
  runs by_stage = by (and_then thread_of (w.body x)) refl
    where
      by_mode : (t : Thread) (mode : Mode) → and_then thread_of (w.body x) ≡ Some t → t.mode ≡ mode → KeepsCut w nester slot (moves x pick)
      by_mode t (Running g) is e = instruction_keeps w nester slot x pick (t, g, is, e)
      by_mode t (Calling (stage ∷ todo) rest) is e = by_stage stage (t, todo, rest, is, e)
      by_mode t (Calling [] rest) is e = λ sound plain fit ready. absurd (idle_thread w x pick t is (rw e refl) ready)
      by_mode t (Halted g code) is e = λ sound plain fit ready. absurd (idle_thread w x pick t is (rw e refl) ready)
      by_mode t (Native g) is e = λ sound plain fit ready. absurd (idle_thread w x pick t is (rw e refl) ready)

      by : (o : Option Thread) → and_then thread_of (w.body x) ≡ o → KeepsCut w nester slot (moves x pick)
      by None is = λ sound plain fit ready. absurd (nobody w x pick is ready)
      by (Some t) is = by_mode t t.mode is refl
