-- The law of the cut for every move.
use Rattle.std.proofs.Common.{◌≡◌, ℕ, Bool, true, false, List, ◌∷◌, Option, refl}
use Rattle.fk_model.specs.declared.moves.Ask.{Ask}
use Rattle.fk_model.specs.declared.moves.Ask.TheVariants as asks
use Rattle.fk_model.specs.declared.stage.Stage.{Stage}
use Rattle.fk_model.specs.declared.stage.Stage.TheVariants.{Create, Destroy, Rename, Search, Point, Clear, Locate, CountIn, GetState, SetState, GetPtr, SetPtr}
use Rattle.fk_model.specs.declared.stage.Stage.TheVariants.{ClientOverRef}
use Rattle.fk_model.specs.declared.stage.Stage.TheVariants.{SpaceHold, SpaceRelease, ThreadStop, ThreadGo, PageGive, PageTake, PageRead, PageNext, MutexLock}
use Rattle.fk_model.specs.declared.stage.Stage.TheVariants.{ClientReceiveRef}
use Rattle.fk_model.specs.declared.stage.Stage.TheVariants.{MutexTrylock, MutexUnlock, CondWait, CondAsleep, CondSignal, CondBroadcast, Connect, ClientReceive}
use Rattle.fk_model.specs.declared.stage.Stage.TheVariants.{ServerOverRef}
use Rattle.fk_model.specs.declared.stage.Stage.TheVariants.{ClientSend, ClientOver, Disconnect, Wait, ServerReceive, ServerSend, ServerOver, ServerEnd}
use Rattle.fk_model.specs.declared.stage.Stage.TheVariants.{ServerReceiveRef}
use Rattle.fk_model.specs.declared.stage.Stage.TheVariants.{FaultDone, LinkSet, LinkPark, FaultSet, FaultPark, HoldSet, SpaceMakeHeld}
use Rattle.fk_model.specs.Places.{Path, is_within}
use Rattle.fk_model.specs.World.{World}
use Rattle.laws_subtrees.specs.Cut.CutLaws.{KeepsCut, IsAtStage, moves, EventKeepsCut}
use Rattle.laws_subtrees.proofs.InCut.cut.Calls.{plain_calls_keep, denied_calls_keep, destroy_calls_keep, serverless_calls_keep, named_calls_keep}
use Rattle.laws_subtrees.proofs.InCut.cut.Objects.{destroy_outside}
use Rattle.laws_subtrees.proofs.InCut.cut.Renames.{rename_outside}
use Rattle.laws_subtrees.proofs.InCut.cut.PorterRows.{rename_call}
use Rattle.laws_subtrees.proofs.InCut.cut.PorterTakes.{page_take_call}
use Rattle.laws_subtrees.proofs.InCut.cut.GivenPages.{page_give_user, page_give_call}
use Rattle.laws_subtrees.proofs.InCut.talks.Accepts.{accept_keeps}
use Rattle.laws_subtrees.proofs.InCut.talks.Given.{server_words_keep}
use Rattle.laws_subtrees.proofs.InCut.talks.Handed.{server_turn_keeps, server_turn_ref_keeps}
use Rattle.laws_subtrees.proofs.InCut.talks.Left.{left_keeps}
use Rattle.laws_subtrees.proofs.InCut.talks.Natives.{give_keeps, over_keeps}
use Rattle.laws_subtrees.proofs.InCut.waits.Outside.{wait_outside_keeps}
use Rattle.laws_subtrees.proofs.InCut.waits.Porters.{wait_call_keeps}
use Rattle.laws_subtrees.proofs.InCut.waits.FaultsDone.{fault_done_user, fault_done_call}
use Rattle.laws_subtrees.proofs.InCut.joined.Inside.{inside_keeps}
use Rattle.laws_subtrees.proofs.InCut.joined.Stages.{either_side, runs}

module _ (w : World) (nester : Path) (slot : ℕ) (x : Path) (outside : is_within (slot ∷ nester) x ≡ false) (pick : Option Path) where
  by_stage : (stage : Stage) → IsAtStage w x stage → KeepsCut w nester slot (moves x pick)
  by_stage (Destroy s y) at = destroy_outside w nester slot x pick (Destroy s y) (s, y, refl) outside at
  by_stage (Rename s y z) at = rename_outside w nester slot x pick (Rename s y z) (s, y, z, refl) outside at
  by_stage (PageGive s page address) at = page_give_user w nester slot x pick (PageGive s page address) (s, page, address, refl) at
  by_stage (Wait set) at = wait_outside_keeps w nester slot x pick (Wait set) (set, refl) outside at
  by_stage (ServerSend address count) at = server_words_keep w nester slot x pick (ServerSend address count) (address, count, refl) at
  by_stage ServerOver at = server_turn_keeps w nester slot x pick ServerOver refl at
  by_stage ServerEnd at = left_keeps w nester slot x pick ServerEnd refl outside at
  by_stage FaultDone at = fault_done_user w nester slot x pick FaultDone refl at
  by_stage (ServerOverRef reference) at = server_turn_ref_keeps w nester slot x pick (ServerOverRef reference) (reference, refl) at
  by_stage other at = either_side w nester slot x pick other refl at

  calls : (stage : Stage) (words : List ℕ) → KeepsCut w nester slot (record { mover = x; pick = pick; ask = asks.Call stage words })
  calls (Create s y kind) words = plain_calls_keep w nester slot x pick (Create s y kind) words refl
  calls (Destroy s y) words = destroy_calls_keep w nester slot x pick (Destroy s y) words (s, y, refl)
  calls (Rename s y z) words = rename_call w nester slot x pick (Rename s y z) words (s, y, z, refl)
  calls (Search s from) words = plain_calls_keep w nester slot x pick (Search s from) words refl
  calls (Point s y s2 y2) words = plain_calls_keep w nester slot x pick (Point s y s2 y2) words refl
  calls (Clear s y) words = plain_calls_keep w nester slot x pick (Clear s y) words refl
  calls (Locate reference s) words = plain_calls_keep w nester slot x pick (Locate reference s) words refl
  calls (CountIn base s y) words = serverless_calls_keep w nester slot x pick (CountIn base s y) words refl
  calls (GetState s y address) words = plain_calls_keep w nester slot x pick (GetState s y address) words refl
  calls (SetState s y address) words = plain_calls_keep w nester slot x pick (SetState s y address) words refl
  calls (GetPtr s y field reference) words = plain_calls_keep w nester slot x pick (GetPtr s y field reference) words refl
  calls (SetPtr s y field reference) words = plain_calls_keep w nester slot x pick (SetPtr s y field reference) words refl
  calls (SpaceHold s y) words = plain_calls_keep w nester slot x pick (SpaceHold s y) words refl
  calls (SpaceRelease s y) words = plain_calls_keep w nester slot x pick (SpaceRelease s y) words refl
  calls (ThreadStop h) words = plain_calls_keep w nester slot x pick (ThreadStop h) words refl
  calls (ThreadGo h) words = plain_calls_keep w nester slot x pick (ThreadGo h) words refl
  calls (PageGive s page address) words = page_give_call w nester slot x pick (PageGive s page address) words (s, page, address, refl)
  calls (PageTake s page address) words = page_take_call w nester slot x pick (PageTake s page address) words (s, page, address, refl)
  calls (PageRead s page address) words = plain_calls_keep w nester slot x pick (PageRead s page address) words refl
  calls (PageNext s from) words = plain_calls_keep w nester slot x pick (PageNext s from) words refl
  calls (MutexLock m) words = denied_calls_keep w nester slot x pick (MutexLock m) words refl
  calls (MutexTrylock m) words = denied_calls_keep w nester slot x pick (MutexTrylock m) words refl
  calls (MutexUnlock m) words = denied_calls_keep w nester slot x pick (MutexUnlock m) words refl
  calls (CondWait i m) words = denied_calls_keep w nester slot x pick (CondWait i m) words refl
  calls (CondAsleep i m) words = denied_calls_keep w nester slot x pick (CondAsleep i m) words refl
  calls (CondSignal i) words = denied_calls_keep w nester slot x pick (CondSignal i) words refl
  calls (CondBroadcast i) words = denied_calls_keep w nester slot x pick (CondBroadcast i) words refl
  calls (Connect h) words = denied_calls_keep w nester slot x pick (Connect h) words refl
  calls (ClientReceive into room) words = denied_calls_keep w nester slot x pick (ClientReceive into room) words refl
  calls (ClientSend address count) words = denied_calls_keep w nester slot x pick (ClientSend address count) words refl
  calls ClientOver words = denied_calls_keep w nester slot x pick ClientOver words refl
  calls Disconnect words = denied_calls_keep w nester slot x pick Disconnect words refl
  calls (ClientOverRef reference) words = denied_calls_keep w nester slot x pick (ClientOverRef reference) words refl
  calls (ClientReceiveRef into room reference) words = denied_calls_keep w nester slot x pick (ClientReceiveRef into room reference) words refl
  calls (Wait set) words = wait_call_keeps w nester slot x pick (Wait set) words (set, refl)
  calls (ServerReceive into room) words = denied_calls_keep w nester slot x pick (ServerReceive into room) words refl
  calls (ServerSend address count) words = denied_calls_keep w nester slot x pick (ServerSend address count) words refl
  calls ServerOver words = denied_calls_keep w nester slot x pick ServerOver words refl
  calls ServerEnd words = denied_calls_keep w nester slot x pick ServerEnd words refl
  calls FaultDone words = fault_done_call w nester slot x pick FaultDone words refl
  calls (ServerOverRef reference) words = denied_calls_keep w nester slot x pick (ServerOverRef reference) words refl
  calls (ServerReceiveRef into room reference) words = denied_calls_keep w nester slot x pick (ServerReceiveRef into room reference) words refl
  calls (LinkSet s y port server) words = named_calls_keep w nester slot x pick (LinkSet s y port server) words refl
  calls (LinkPark s y port) words = serverless_calls_keep w nester slot x pick (LinkPark s y port) words refl
  calls (FaultSet s y port taker) words = named_calls_keep w nester slot x pick (FaultSet s y port taker) words refl
  calls (FaultPark s y port taken) words = serverless_calls_keep w nester slot x pick (FaultPark s y port taken) words refl
  calls (HoldSet s y thread) words = serverless_calls_keep w nester slot x pick (HoldSet s y thread) words refl
  calls (SpaceMakeHeld y) words = serverless_calls_keep w nester slot x pick (SpaceMakeHeld y) words refl

  asked : (ask : Ask) → KeepsCut w nester slot (record { mover = x; pick = pick; ask = ask })
  asked asks.Run = runs w nester slot x pick by_stage
  asked (asks.Call stage words) = calls stage words
  asked asks.Accept = accept_keeps w nester slot x pick
  asked (asks.Give words len) = give_keeps w nester slot x pick words len
  asked asks.Over = over_keeps w nester slot x pick

pub event_keeps : EventKeepsCut
event_keeps w nester slot e = by (is_within (slot ∷ nester) e.mover) refl
  where
    by : (b : Bool) → is_within (slot ∷ nester) e.mover ≡ b → KeepsCut w nester slot e
    by true within = inside_keeps w nester slot e within
    by false outside = asked w nester slot e.mover outside e.pick e.ask
