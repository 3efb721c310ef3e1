-- Edits of the object at a path.
use Rattle.std.proofs.Common.{◌≡◌, Option, Some, None, option_map, refl, sym, ap, ◌∙◌}
use Rattle.fk_model.specs.Places.{Path}
use Rattle.fk_model.specs.Objects.{Peer, Talk, Fault, Body}
use Rattle.fk_model.specs.Objects.Body.{Mutex, Cond, Mapping, Region, Port, Portset, Space, Thread_of, Reference}
use Rattle.fk_model.specs.World.{World, Edit, edited, apply}
use Rattle.fk_model.specs.World.Edit.{SetTalk, SetPeer, SetFault, SetTaker}
use Rattle.fk_model.specs.World.Change.{Alter}
use Rattle.fk_store.proofs.InStore.changing.ThreadLaws.{alter-same, alter-nobody}
use Rattle.fk_model.specs.Searches.{fault_at, thread_at}

-- where there is nothing nothing changes
pub alter_nothing : (w : World) (x : Path) (e : Edit) → w.body x ≡ None → w ≡ apply (Alter x e) w
alter_nothing w x e none = alter-same w x e (ap (option_map (edited e)) none ∙ sym none)

-- ---- an edit of a thread where no thread is

pub talk_nobody : (w : World) (x : Path) (talk : Option Talk) → thread_at w x ≡ None → w ≡ apply (Alter x (SetTalk talk)) w
unfolding edited
talk_nobody w x talk none = alter-nobody w x (SetTalk talk) _ (λ b. refl) none

pub peer_nobody : (w : World) (x : Path) (peer : Peer) → thread_at w x ≡ None → w ≡ apply (Alter x (SetPeer peer)) w
unfolding edited
peer_nobody w x peer none = alter-nobody w x (SetPeer peer) _ (λ b. refl) none

pub fault_nobody : (w : World) (x : Path) (fault : Option Fault) → thread_at w x ≡ None → w ≡ apply (Alter x (SetFault fault)) w
unfolding edited
fault_nobody w x fault none = alter-nobody w x (SetFault fault) _ (λ b. refl) none

-- ---- another taker is another fault

pub taker_is_fault : (w : World) (x : Path) (f : Fault) (taker : Option Peer) → fault_at w x ≡ Some f →
    option_map (edited (SetTaker taker)) (w.body x) ≡ option_map (edited (SetFault (Some (record f { taker = taker })))) (w.body x)
unfolding edited
taker_is_fault w x f taker is = by (w.body x) is
  where
    by : (b : Option Body) → fault_at (record { body = λ q. b; page = w.page; next = w.next }) x ≡ Some f →
        option_map (edited (SetTaker taker)) b ≡ option_map (edited (SetFault (Some (record f { taker = taker })))) b
    by None is = refl
    by (Some (Mutex locked)) is = refl
    by (Some Cond) is = refl
    by (Some (Mapping window)) is = refl
    by (Some (Region extent)) is = refl
    by (Some (Port set served)) is = refl
    by (Some Portset) is = refl
    by (Some (Space birth holder)) is = refl
    by (Some (Thread_of thread)) is =
        ap (λ o. Some (Thread_of (record thread { fault = option_map (λ (g : Fault). record g { taker = taker }) o }))) is
    by (Some (Reference to)) is = refl

-- where there is no fault
pub taker_none : (w : World) (x : Path) (taker : Option Peer) → fault_at w x ≡ None → w ≡ apply (Alter x (SetTaker taker)) w
unfolding edited
taker_none w x taker none = alter-same w x (SetTaker taker) (by (w.body x) none)
  where
    by : (b : Option Body) → fault_at (record { body = λ q. b; page = w.page; next = w.next }) x ≡ None → option_map (edited (SetTaker taker)) b ≡ b
    by None none = refl
    by (Some (Mutex locked)) none = refl
    by (Some Cond) none = refl
    by (Some (Mapping window)) none = refl
    by (Some (Region extent)) none = refl
    by (Some (Port set served)) none = refl
    by (Some Portset) none = refl
    by (Some (Space birth holder)) none = refl
    by (Some (Thread_of thread)) none =
        ap (λ o. Some (Thread_of (record thread { fault = option_map (λ (g : Fault). record g { taker = taker }) o }))) none
        ∙ sym (ap (λ o. Some (Thread_of (record thread { fault = o }))) none)
    by (Some (Reference to)) none = refl
