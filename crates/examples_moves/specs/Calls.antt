-- Calls: one stage of each kind, in the order of their codes.
use Rattle.std.specs.Prelude.{ℕ, Bool, List, [], ◌∷◌, filter, map}
use Rattle.fk_model.specs.declared.stage.Stage.{Stage}
use Rattle.fk_model.specs.declared.stage.Stage.TheVariants.{Create, Destroy, Rename, Search, Point, Clear, Locate, CountIn, GetState, SetState, GetPtr, SetPtr}
use Rattle.fk_model.specs.declared.stage.Stage.TheVariants.{SpaceHold, SpaceRelease, ThreadStop, ThreadGo, PageGive, PageTake, PageRead, PageNext, MutexLock}
use Rattle.fk_model.specs.declared.stage.Stage.TheVariants.{MutexTrylock, MutexUnlock, CondWait, CondAsleep, CondSignal, CondBroadcast, Connect, ClientReceive}
use Rattle.fk_model.specs.declared.stage.Stage.TheVariants.{ClientSend, ClientOver, Disconnect, Wait, ServerReceive, ServerSend, ServerOver, ServerEnd}
use Rattle.fk_model.specs.declared.stage.Stage.TheVariants.{ClientOverRef, ClientReceiveRef, ServerOverRef, ServerReceiveRef}
use Rattle.fk_model.specs.declared.stage.Stage.TheVariants.{FaultDone, LinkSet, LinkPark, FaultSet, FaultPark, HoldSet, SpaceMakeHeld}
use Rattle.fk_model.specs.Calls.{code_of_stage}

abbrev pub one_of_each : List Stage
one_of_each =
    Create 0 0 0 ∷ Destroy 0 0 ∷ Rename 0 0 0 ∷ Search 0 0 ∷ Point 0 0 0 0 ∷ Clear 0 0 ∷ Locate 0 0 ∷
    CountIn 0 0 0 ∷ GetState 0 0 0 ∷ SetState 0 0 0 ∷ GetPtr 0 0 0 0 ∷ SetPtr 0 0 0 0 ∷ SpaceHold 0 0 ∷
    SpaceRelease 0 0 ∷ ThreadStop 0 ∷ ThreadGo 0 ∷ PageGive 0 0 0 ∷ PageTake 0 0 0 ∷ PageRead 0 0 0 ∷
    PageNext 0 0 ∷ MutexLock 0 ∷ MutexTrylock 0 ∷ MutexUnlock 0 ∷ CondWait 0 0 ∷ CondAsleep 0 0 ∷
    CondSignal 0 ∷ CondBroadcast 0 ∷ Connect 0 ∷ ClientReceive 0 0 ∷ ClientSend 0 0 ∷ ClientOver ∷
    Disconnect ∷ ClientOverRef 0 ∷ ClientReceiveRef 0 0 0 ∷ Wait 0 ∷ ServerReceive 0 0 ∷ ServerSend 0 0 ∷ ServerOver ∷ ServerEnd ∷ FaultDone ∷
    ServerOverRef 0 ∷ ServerReceiveRef 0 0 0 ∷
    LinkSet 0 0 0 0 ∷ LinkPark 0 0 0 ∷ FaultSet 0 0 0 0 ∷ FaultPark 0 0 0 0 ∷ HoldSet 0 0 0 ∷
    SpaceMakeHeld 0 ∷ []

-- the codes of the stages that pass a test
abbrev pub codes_where : (Stage → Bool) → List ℕ
codes_where test = map code_of_stage (filter test one_of_each)
