-- What stands where only the release is left of a restore.
use Rattle.std.proofs.Common.{◌≡◌, ℕ, is_some, List, [], ◌∷◌, Option, Some, None, option_map, refl, sym, ap, subst, ◌∙◌}
use Rattle.fk_model.specs.declared.limits.TheConstants.{LAST_PORTER_SLOT}
use Rattle.fk_model.specs.declared.stage.Stage.{Stage}
use Rattle.fk_model.specs.Places.{Path, Ptr}
use Rattle.fk_model.specs.Places.Ptr.{Null, Dead, At, Out, Outside, Far}
use Rattle.fk_model.specs.Objects.{Peer, Talk, Fault, Body, and_then}
use Rattle.fk_model.specs.Objects.Peer.{Server, Service, Parked}
use Rattle.fk_model.specs.Objects.Body.{Mutex, Cond, Mapping, Region, Port, Portset, Space, Thread_of, Reference}
use Rattle.fk_model.specs.Cut.{cut}
use Rattle.fk_model.specs.Holds.{holder_of}
use Rattle.fk_model.specs.Rebind.{rebound, rebinding, rebound_ptr, rebound_peer}
use Rattle.fk_model.specs.Valid.{birth_of}
use Rattle.fk_model.specs.World.{World, through}
use Rattle.fk_image.specs.declared.image.image.Image.{Image}
use Rattle.fk_image.specs.Image.Picture.{picture}
use Rattle.laws_moves.specs.Frozen.Holding.{IsHolding}
use Rattle.laws_jobs.specs.Jobs.{MayBegin}
use Rattle.laws_jobs.specs.Machines.Head.{Asks}
use Rattle.laws_restore.specs.Sites.Orders.{Site, SpotShows, Shows, Order, does_all}
use Rattle.laws_restore.proofs.InSites.Ended.{built_is_cut}
use Rattle.laws_restore.proofs.InSites.Others.{holding}
use Rattle.laws_restore.specs.Restore.Roomed.{IsRoomed}
use Rattle.laws_restore.specs.Restore.Laws.{finished}
use Rattle.laws_restore.specs.Restore.Restore.{State, head}
use Rattle.laws_restore.specs.Restore.Restore.State.{Works}
use Rattle.laws_restore.proofs.InRestore.Coming.{Came, came}
use Rattle.laws_restore.proofs.InRestore.Coming.Came.{Working, Dropping, Clearing, Finished, Missing, Taken}
use Rattle.laws_restore.specs.Rooms.Rooms.{rooms_of}
use Rattle.laws_restore.specs.Rooms.Restoring.{bound_by, IsRestoreJob}
use Rattle.laws_restore.proofs.InRooms.Restored.{roomed}
use Rattle.laws_migrate.specs.Built.{UnboundIsSame, Built, BuiltIsCopy, MadeIsHeld}
use Rattle.laws_migrate.proofs.Gathered.{cut_there}

-- ---- nothing is bound

ptr_same : (p : Ptr) → rebound_ptr (bound_by []) p ≡ p
ptr_same (Out slot) = refl
ptr_same Null = refl
ptr_same Dead = refl
ptr_same (At x) = refl
ptr_same Outside = refl
ptr_same Far = refl

peer_same : (p : Peer) → rebound_peer (bound_by []) p ≡ p
peer_same (Server thread) = ap Server (ptr_same thread)
peer_same Service = refl
peer_same Parked = refl

taker_same : (o : Option Peer) → option_map (rebound_peer (bound_by [])) o ≡ o
taker_same None = refl
taker_same (Some p) = ap (λ (q : Peer). Some q) (peer_same p)

talk_same : (o : Option Talk) → and_then (rebinding (bound_by [])).talk o ≡ o
talk_same None = refl
talk_same (Some talk) = rw (ptr_same talk.port, peer_same talk.peer) refl

fault_same : (o : Option Fault) → and_then (rebinding (bound_by [])).fault o ≡ o
fault_same None = refl
fault_same (Some fault) = rw (ptr_same fault.port, taker_same fault.taker) refl

holder_same : (o : Option Ptr) → and_then (rebinding (bound_by [])).holder o ≡ o
holder_same None = refl
holder_same (Some p) = ap (λ (q : Ptr). Some q) (ptr_same p)

set_same : (q : Path) (o : Option ℕ) → and_then ((rebinding (bound_by [])).set q) o ≡ o
set_same q None = refl
set_same q (Some k) = refl

body_same : (q : Path) (b : Body) → through (rebinding (bound_by [])) q b ≡ b
body_same q (Mutex locked) = refl
body_same q Cond = refl
body_same q (Mapping m) = rw (ptr_same m.region) refl
body_same q (Region r) = rw (ptr_same r.keeper) refl
body_same q (Port set served) = rw (set_same q set) refl
body_same q Portset = refl
body_same q (Space birth holder) = rw (holder_same holder) refl
body_same q (Thread_of t) = rw (talk_same t.talk, fault_same t.fault) refl
body_same q (Reference to) = ap (λ (p : Ptr). Reference p) (ptr_same to)

there_same : (q : Path) (o : Option Body) → option_map (through (rebinding (bound_by [])) q) o ≡ o
there_same q None = refl
there_same q (Some b) = ap (λ (x : Body). Some x) (body_same q b)

pub unbound_is_same : UnboundIsSame
unfolding rebound
unbound_is_same c = λ i. record { body = λ q. there_same q (c.body q) i; page = c.page; next = c.next }

-- ---- what stands

-- what a porter holds has a number
pub record IsNumbered (o : Option Body) : Type 0 where
  pub number : ℕ
  pub is : and_then birth_of o ≡ Some number

pub numbered : (nester : Path) (o : Option Body) → holder_of o ≡ Some (At (LAST_PORTER_SLOT ∷ nester)) → IsNumbered o
numbered nester (Some (Space birth holder)) h = record { number = birth; is = refl }
numbered nester (Some (Mutex locked)) h = cc
numbered nester (Some Cond) h = cc
numbered nester (Some (Mapping m)) h = cc
numbered nester (Some (Region r)) h = cc
numbered nester (Some (Port set served)) h = cc
numbered nester (Some Portset) h = cc
numbered nester (Some (Thread_of t)) h = cc
numbered nester (Some (Reference to)) h = cc
numbered nester None h = cc

module _ (slot birth : ℕ) (image : Image) (w : World) (nester : Path) (job : IsRestoreJob slot image []) (may : MayBegin w nester birth) where
  abbrev root : Path
  root = slot ∷ nester

  abbrev c : World
  c = picture image

  abbrev its : IsRoomed (bound_by []) c (rooms_of image)
  its = roomed slot image [] job

  abbrev At_work : World → State → Type 0
  At_work v t = Came slot birth (bound_by []) c (rooms_of image) w nester job.low its may v t

  record Standing (v : World) : Type 0 where
    site : Site
    shows : Shows nester slot site v
    is : site ≡ finished (bound_by []) c

  stands_at : (v : World) (t : State) → At_work v t → t ≡ Works [] → Standing v
  unfolding does_all
  stands_at _ _ (Working os g v empty shows alone may_all suits safe tidied is history) e =
      let none : os ≡ [] = cc in
      record { site = g; shows = shows; is = subst (λ (ps : List Order). does_all ps g ≡ finished (bound_by []) c) none is }
  stands_at _ _ (Dropping o os port g v empty shows alone left tidied) e = cc
  stands_at _ _ (Clearing xs more port v empty emptied many alone tidied) e = cc
  stands_at _ _ (Finished v empty plain same unheld clean) e = cc
  stands_at _ _ (Missing port v empty none clean) e = cc
  stands_at _ _ (Taken v there same) e = cc

  held_at : (v : World) (t : State) (stage : Stage) (words : List ℕ) → At_work v t → head slot t ≡ Asks stage words → IsHolding nester slot v
  held_at _ _ stage words (Working os g v empty shows alone may_all suits safe tidied is history) e = holding nester slot g v shows
  held_at _ _ stage words (Dropping o os port g v empty shows alone left tidied) e = holding nester slot g v shows
  held_at _ _ stage words (Clearing xs more port v empty emptied many alone tidied) e = emptied.holding
  held_at _ _ stage words (Finished v empty plain same unheld clean) e = cc
  held_at _ _ stage words (Missing port v empty none clean) e = cc
  held_at _ _ stage words (Taken v there same) e = cc

  pub built : (v : World) → At_work v (Works []) → Built nester slot image v
  built v work =
      let it = stands_at v (Works []) work refl in
      let same : cut v nester slot ≡ c = built_is_cut nester slot it.site v it.shows (ap (λ (g : Site). g.pin) it.is) ∙ ap (λ (g : Site). g.built) it.is
      ∙ unbound_is_same c in
      let held = holding nester slot it.site v it.shows in
      let name = numbered nester (v.body root) held.holder in
      record {
        number = name.number;
        same = same;
        may_clear = record {
          holding = held;
          stands = λ q. sym (cut_there v nester slot q) ∙ ap (λ (d : World). is_some (d.body q)) same;
          scratch = λ k is. subst (λ (g : Site). SpotShows nester slot v g.pin k (g.spot k)) it.is (it.shows.spots k is);
          named = name.is;
        };
      }

pub built_is_copy : BuiltIsCopy
built_is_copy slot birth image w v nester job may work =
    built slot birth image w nester job may v (came slot birth (bound_by []) (picture image) (rooms_of image) w nester job.low
    (roomed slot image [] job) may v (Works []) work)

pub made_is_held : MadeIsHeld
made_is_held slot birth image w v nester t stage words job may work asks =
    (held_at slot birth image w nester job may v t stage words
    (came slot birth (bound_by []) (picture image) (rooms_of image) w nester job.low (roomed slot image [] job) may v t work) asks).holder
