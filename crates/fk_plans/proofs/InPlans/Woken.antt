-- Woken: a free user may wake who sleeps in its space.
use Rattle.std.proofs.Common.{◌≡◌, ℕ, true, false, List, [], ◌∷◌, ◌++◌, Option, Some, None, refl}
use Rattle.std.specs.List.{flat_map}
use Rattle.fk_model.specs.declared.limits.TheConstants.{SLOTS}
use Rattle.fk_model.specs.declared.stage.Stage.TheVariants.{MutexLock}
use Rattle.fk_model.specs.Freezing.{AreAllowed}
use Rattle.fk_model.specs.Holds.{holder_of, is_frozen}
use Rattle.fk_model.specs.Objects.{Body, and_then}
use Rattle.fk_model.specs.Objects.Body.{Mutex, Cond, Mapping, Region, Port, Portset, Space, Thread_of, Reference}
use Rattle.fk_model.specs.Places.{Path}
use Rattle.fk_model.specs.Searches.{slots}
use Rattle.fk_model.specs.SyncRows.{asleep_on, mutex_after, sleepers, woken}
use Rattle.fk_model.specs.Talks.{first_stage}
use Rattle.fk_model.specs.World.{World, Change}
use Rattle.fk_model.specs.World.Edit.{Replace}
use Rattle.fk_store.specs.Store.Threads.{is_free_at}
use Rattle.fk_store.proofs.InStore.finding.Freedom.{free_space, may_alter, unfrozen_object, IsPlain}

both_allowed : (w : World) (me : Path) (cs ds : List Change) → AreAllowed w me cs → AreAllowed w me ds → AreAllowed w me (cs ++ ds)
both_allowed w me [] ds first later = later
both_allowed w me (c ∷ cs) ds first later = (first.0, both_allowed w me cs ds first.1 later)

replaces_plainly : (m : ℕ) → IsPlain (Replace (MutexLock m))
replaces_plainly m = record { changed = λ b. refl; made = refl }

module _ (w : World) (me s : Path) (c : ℕ) (unfrozen : is_frozen w s ≡ false) where
  wakes : (k : ℕ) (o : Option ℕ) → holder_of (w.body (k ∷ s)) ≡ None → AreAllowed w me (woken (k ∷ s) o)
  wakes k None unheld = tt
  wakes k (Some m) unheld = (may_alter w me (k ∷ s) _ (replaces_plainly m) (unfrozen_object w me k s unfrozen unheld), tt)

  one_allowed : (k : ℕ) → AreAllowed w me (woken (k ∷ s) (asleep_on c (w.body (k ∷ s))))
  one_allowed k = by (w.body (k ∷ s)) refl
    where
      by : (b : Option Body) → w.body (k ∷ s) ≡ b → AreAllowed w me (woken (k ∷ s) (asleep_on c b))
      by None is = tt
      by (Some (Mutex locked)) is = tt
      by (Some Cond) is = tt
      by (Some (Mapping window)) is = tt
      by (Some (Region extent)) is = tt
      by (Some (Port set served)) is = tt
      by (Some Portset) is = tt
      by (Some (Space birth holder)) is = tt
      by (Some (Thread_of t)) is = wakes k (and_then (mutex_after c) (first_stage t.mode)) (rw is refl)
      by (Some (Reference to)) is = tt

  each_allowed : (ks : List ℕ) → AreAllowed w me (flat_map (λ k. woken (k ∷ s) (asleep_on c (w.body (k ∷ s)))) ks)
  each_allowed [] = tt
  each_allowed (k ∷ ks) = both_allowed w me _ _ (one_allowed k) (each_allowed ks)

pub sleepers_allowed : (w : World) (k : ℕ) (s : Path) (c : ℕ) → is_free_at w (k ∷ s) ≡ true → AreAllowed w (k ∷ s) (sleepers w s c)
unfolding sleepers
sleepers_allowed w k s c free = each_allowed w (k ∷ s) s c (free_space w k s free) (slots SLOTS)
