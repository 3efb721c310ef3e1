-- What a run wants of a job that works in it, and what the job's own law may say of its end.
use Rattle.std.specs.Prelude.{◌≡◌, ℕ, Bool, true, List, ◌∷◌, Option, Some}
use Rattle.fk_model.specs.declared.limits.TheConstants.{LAST_PORTER_SLOT}
use Rattle.fk_model.specs.declared.stage.Stage.{Stage}
use Rattle.fk_model.specs.Places.{Path}
use Rattle.fk_model.specs.Objects.{holds}
use Rattle.fk_model.specs.World.{World}
use Rattle.fk_model.specs.StateRows.{is_native}
use Rattle.fk_model.specs.Valid.{birth_at}
use Rattle.fk_model.specs.Cut.{cut, IsPlain}
use Rattle.fk_model.specs.Closed.{IsClosed}
use Rattle.fk_model.specs.Rebind.{rebound}
use Rattle.fk_model.specs.Sound.{IsClean}
use Rattle.laws_moves.specs.Savable.Savable.{IsSound}
use Rattle.laws_jobs.specs.Machines.{Machine, AtWork, IsOwedCall}
use Rattle.laws_jobs.specs.Machines.Head.{Stops, Asks}

-- a world in which a job may begin beneath a nester
pub record MayBegin (w : World) (nester : Path) (birth : ℕ) : Type 0 where
  pub sound : IsSound w
  pub clean : IsClean w
  pub named : birth_at w nester ≡ Some birth

-- its porter and its nester are there
pub record HasPorter (v : World) (nester : Path) (birth : ℕ) : Type 0 where
  pub porter : holds is_native (v.body (LAST_PORTER_SLOT ∷ nester)) ≡ true
  pub named : birth_at v nester ≡ Some birth

-- what a job's own law gives to the run in which the job works. Its later worlds are sound, as those of each interleaving
pub record MeetsContract {S A : Type 0} (m : Machine S A) (birth : ℕ) (s : S) : Type 0 where
  -- its first call is owed
  pub first : (w : World) (nester : Path) → MayBegin w nester birth → (stage : Stage) (words : List ℕ) → m.head s ≡ Asks stage words →
      IsOwedCall w nester stage words
  -- and so is each later one
  pub later : (w : World) (nester : Path) (v : World) (t : S) → MayBegin w nester birth → AtWork m nester w s v t →
      (stage : Stage) (words : List ℕ) → m.head t ≡ Asks stage words → IsOwedCall v nester stage words
  -- while it has calls to make its porter stays
  pub stays : (w : World) (nester : Path) (v : World) (t : S) → MayBegin w nester birth → AtWork m nester w s v t →
      (stage : Stage) (words : List ℕ) → m.head t ≡ Asks stage words → HasPorter v nester birth
  -- at its end no scratch is left
  pub ends : (w : World) (nester : Path) (v : World) (t : S) (end : A) → MayBegin w nester birth → AtWork m nester w s v t →
      m.head t ≡ Stops end → IsClean v

-- ---- a job's own law, over every interleaving

-- a checkpoint of the subtree in a slot of a nester, begun in a world: the cut is the same while it works, and what it ends with, if
-- it is done, is the picture of a closed subtree
pub record Saves {S A : Type 0} (m : Machine S A) (birth slot : ℕ) (picture : A → Option World) (w : World) (nester : Path) (s : S) : Type 0 where
  pub keeps : (v : World) (t : S) → MayBegin w nester birth → AtWork m nester w s v t → cut v nester slot ≡ cut w nester slot
  pub gives : (v : World) (t : S) (end : A) (c : World) → MayBegin w nester birth → AtWork m nester w s v t →
      m.head t ≡ Stops end → picture end ≡ Some c → IsClosed w nester slot × (c ≡ cut w nester slot)

-- a restore of a picture in a slot of a nester, begun in a world: if it is done, what stands there is the picture with its ports bound
pub record Restores {S A : Type 0} (m : Machine S A) (birth slot : ℕ) (bind : ℕ → ℕ) (c : World) (is_done : A → Bool) (w : World) (nester : Path) (s : S) :
    Type 0 where
  pub gives : (v : World) (t : S) (end : A) → MayBegin w nester birth → AtWork m nester w s v t →
      m.head t ≡ Stops end → is_done end ≡ true → IsPlain v nester slot × (cut v nester slot ≡ rebound bind c)
