-- Mild changes touch nobody else.
use Rattle.std.proofs.Common.{◌≡◌, Bool, true, false, is_some, [], ◌∷◌, Option, Some, None, Ok, refl, ap, sym, subst, ◌∙◌, inl, inr}
use Rattle.fk_model.specs.declared.names.Kind.TheVariants as kinds
use Rattle.fk_model.specs.declared.thread.Turn.{Turn}
use Rattle.fk_model.specs.Places.{Path, same_path, parent}
use Rattle.fk_model.specs.Places.Ptr.{At}
use Rattle.fk_model.specs.Objects.{Body, mutex_of, space_of, thread_of, and_then, holds}
use Rattle.fk_model.specs.Objects.Body.{Mutex}
use Rattle.fk_model.specs.World.{World, Change, apply}
use Rattle.fk_model.specs.World.Change.{Alter}
use Rattle.fk_model.specs.World.Edit.{SetLocked}
use Rattle.fk_model.specs.Holds.{holder_of}
use Rattle.fk_model.specs.LinkRows.{portset_of}
use Rattle.fk_model.specs.Readers.{handled}
use Rattle.fk_model.proofs.walks.PlaceLaws.{same_path_eq}
use Rattle.laws_waits.specs.Touching.{is_loud, stirs, repoints, regroups}
use Rattle.laws_waits.specs.Stuck.{is_held, BringsNobody, End, LeavesEnd, LeavesPage, IsPlace, LeavesPlace, IsGone, Reason, IsStuck, IsUntouched}
use Rattle.laws_waits.specs.Stuck.End.{Absent, Covered, Unclaimed, Closed, Unnamed}
use Rattle.laws_waits.specs.Stuck.Reason.{Resting, Beneath, Locking, Sleeping, Connecting, Receiving, Passing, Sending, Lacking, Ending, Holding, Waiting}
use Rattle.laws_waits.specs.Stuck.Reason.{WaitingOut, Barred}
use Rattle.laws_waits.specs.Calm.{IsApart, IsApartFrom, IsMild, MildChangesTouchNobody, SetsLock}
use Rattle.laws_waits.proofs.Calm.{alter-handle, calm-touches, off-right}
use Rattle.laws_waits.proofs.Stays.{stuck_stays_lem}

mutex-is : (o : Option Body) → is_some (and_then mutex_of o) ≡ true → (b : Bool) × (o ≡ Some (Mutex b))
mutex-is (Some (Mutex b)) h = (b, refl)
mutex-is None h = cc
mutex-is (Some b) h = cc

-- ---- a mutex that is locked or unlocked

module _ (w : World) (at : Path) (locked mutex : Bool) (body : w.body at ≡ Some (Mutex mutex)) where
  -- what is read as something else isn't the mutex
  other : {A : Type 0} (test : Option Body → A) (a : A) (q : Path) → test (w.body q) ≡ a → (test (Some (Mutex mutex)) ≡ a → ⊥) → same_path q at ≡ false
  other test a q is not = by (same_path q at) refl
    where
      by : (b : Bool) → same_path q at ≡ b → b ≡ false
      by true same =
          let here = same_path_eq q at same in
          absurd (not (ap test (sym body) ∙ ap (λ z. test (w.body z)) (sym here) ∙ is))
      by false same = refl

  held-other : (space : Path) → is_held w space ≡ true → same_path space at ≡ false
  held-other space held = other (λ o. is_some (holder_of o)) true space held (λ h. absurd (cc))

  set-other : (x : Path) (set : _) → is_some (and_then portset_of (w.body (set ∷ x))) ≡ true → same_path (set ∷ x) at ≡ false
  set-other x set is = other (λ o. is_some (and_then portset_of o)) true (set ∷ x) is (λ h. absurd (cc))

  space-other : (q : Path) → is_some (and_then space_of (w.body q)) ≡ true → same_path q at ≡ false
  space-other q is = other (λ o. is_some (and_then space_of o)) true q is (λ h. absurd (cc))

  place-left : (x : Path) (s : _) (space : Path) → IsPlace w x s space → LeavesPlace w (Alter at (SetLocked locked)) x s space
  place-left x s space (inl own) = inl own.0
  place-left x s space (inr there) =
      inr (other (handled w kinds.Space (s ∷ parent x)) (Ok (At space)) (s ∷ parent x) there.2 (λ h. absurd (cc)), refl)

  page-left : (s : Path) (address : _) (far : Bool) → LeavesPage w (Alter at (SetLocked locked)) s address far
  page-left s address false = refl
  page-left s address true = refl

  unstirred : (q : Path) → stirs w (Alter at (SetLocked locked)) q ≡ false
  unstirred q = off-right (same_path q at) _ (ap (λ o. holds (is_loud (SetLocked locked)) (and_then thread_of o)) body)

  unpointed : (q : Path) → repoints w (Alter at (SetLocked locked)) q ≡ false
  unpointed q = off-right (same_path q at) _ refl

  ungrouped : (q : Path) → regroups w (Alter at (SetLocked locked)) q ≡ false
  ungrouped q = off-right (same_path q at) _ refl

  end-left : (side : Turn) (end : End) → IsGone w side end → LeavesEnd w (Alter at (SetLocked locked)) end
  end-left side (Absent y) gone = unstirred y
  end-left side (Unnamed y k) gone = (unstirred y, refl)
  end-left side (Covered y space) gone = held-other space gone.1
  end-left side Unclaimed gone = tt
  end-left side (Closed port space) gone = held-other space gone.1

  nobody : (x z : Path) → BringsNobody w (Alter at (SetLocked locked)) x z
  nobody x z = record {
    ports = λ p h. let off = ungrouped p in absurd (cc);
    threads = λ y h. let off = unstirred y in absurd (cc);
    unserved = λ y h. let off = unstirred y in absurd (cc);
    handles = λ y h at_connect set. let off = unpointed (h ∷ parent y) in absurd (cc);
  }

  -- the change and the mutex leave a reason that doesn't look at it
  lock-touches : (x : Path) (r : Reason) → IsStuck w x r → IsApartFrom at (Alter at (SetLocked locked)) x r → IsUntouched w (Alter at (SetLocked locked)) x r
  lock-touches x Resting stuck apart = apart
  lock-touches x (Beneath space) stuck apart = held-other space stuck.1
  lock-touches x (Locking m) stuck apart = apart
  lock-touches x (Sleeping c m) stuck apart = (apart, refl, refl)
  lock-touches x (Connecting h port) stuck apart = (apart, unpointed (h ∷ parent x), refl)
  lock-touches x (Receiving side into room reference far client) stuck apart =
      (apart, unstirred _, page-left (parent x) into far, alter-handle at (SetLocked locked) (parent x) reference)
  lock-touches x (Passing side reference client end) stuck apart =
      (apart, unstirred _, end-left side end stuck.2, alter-handle at (SetLocked locked) (parent x) reference)
  lock-touches x (Sending side address count far client end) stuck apart =
      (apart, unstirred _, end-left side end stuck.4, page-left (parent x) address far)
  lock-touches x (Lacking side address count far client y into room) stuck apart =
      (apart.0, unstirred _, apart.1, page-left (parent x) address far, refl)
  lock-touches x (Ending y space) stuck apart = (apart, unstirred y, held-other space stuck.2.1)
  lock-touches x (Waiting set) stuck apart = (apart, set-other (parent x) set stuck.1.1, nobody x (set ∷ parent x))
  lock-touches x (WaitingOut set) stuck apart =
      (apart, set-other (parent x) set stuck.1.1, nobody x (set ∷ parent x), λ space held. held-other space held)
  lock-touches x (Holding s j space) stuck apart =
      (apart, place-left x s space stuck.2, space-other (j ∷ space) stuck.3, λ q h. off-right (same_path q at) _ refl)
  lock-touches x Barred stuck apart = absurd apart

-- ---- any mild change

-- what is apart from a change is apart from its place
apart-place : (at : Path) (c : Change) (x : Path) (r : Reason) → IsApartFrom at c x r → IsApart at x r
apart-place at (Alter y (SetLocked locked)) x (Locking m) apart = apart.0
apart-place at (Alter y (SetLocked locked)) x Resting apart = apart
apart-place at (Alter y (SetLocked locked)) x r apart = apart
apart-place at (Alter y e) x r apart = apart
apart-place at c x r apart = apart

set-touches : (w : World) (at : Path) (c : Change) (x : Path) (r : Reason) (sets : SetsLock w at c) → IsStuck w x r → IsApartFrom at c x r → IsUntouched w c x r
set-touches w at c x r sets stuck apart =
    let mutex = mutex-is (w.body at) sets.there in
    subst (λ c. IsUntouched w c x r) (sym sets.is)
    (lock-touches w at sets.locked mutex.0 mutex.1 x r stuck (subst (λ c. IsApartFrom at c x r) sets.is apart))

mild-touches : (w : World) (at : Path) (c : Change) (x : Path) (r : Reason) → IsMild w at c → IsStuck w x r → IsApartFrom at c x r → IsUntouched w c x r
mild-touches w at c x r (inl calm) stuck apart = calm-touches w at c x r calm stuck (apart-place at c x r apart)
mild-touches w at c x r (inr sets) stuck apart = set-touches w at c x r sets stuck apart

pub mild_changes_touch_nobody_lem : MildChangesTouchNobody
mild_changes_touch_nobody_lem w [] [] x r mild stuck apart = tt
mild_changes_touch_nobody_lem w (at ∷ places) (c ∷ cs) x r mild stuck apart =
    let out = mild-touches w at c x r mild.0 stuck apart.0 in
    (out, mild_changes_touch_nobody_lem (apply c w) places cs x r mild.1 (stuck_stays_lem w c x r stuck out) apart.1)
mild_changes_touch_nobody_lem w [] (c ∷ cs) x r mild stuck apart = absurd mild
mild_changes_touch_nobody_lem w (at ∷ places) [] x r mild stuck apart = absurd mild
