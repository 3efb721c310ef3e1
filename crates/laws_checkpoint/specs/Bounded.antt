-- How many calls a checkpoint makes: for each body and page of its subtree so many as that is deep, times a constant.
use Rattle.std.specs.Prelude.{ℕ, ◌+◌, ◌*◌, ◌≤◌, List, [], ◌∷◌, length}
use Rattle.fk_model.specs.declared.limits.TheConstants.{LAST_USER_SLOT}
use Rattle.fk_model.specs.Places.{Path}
use Rattle.fk_model.specs.World.{World}
use Rattle.fk_model.specs.Searches.{objects}
use Rattle.fk_model.specs.Cut.{cut}
use Rattle.laws_jobs.specs.Machines.{AtWork, calls_made, LiesWithin}
use Rattle.laws_jobs.specs.Jobs.{MayBegin}
use Rattle.laws_checkpoint.specs.Contents.{content}
use Rattle.laws_checkpoint.specs.Checkpoint.{State, checkpoint}
use Rattle.laws_checkpoint.specs.Checkpoint.State.{Holds}

abbrev pub sum_of : (Path → ℕ) → List Path → ℕ
sum_of f [] = 0
sum_of f (q ∷ qs) = f q + sum_of f qs

abbrev pub pages_in : World → Path → ℕ
pages_in c q = length (content c q).pages

-- bodies and pages of a subtree seen alone: its root, every object beneath, and the pages of each
abbrev pub count_of : World → ℕ
count_of c = sum_of (λ q. 1 + pages_in c q) ([] ∷ objects c)

-- in every run, whether it has ended or not, and however it ends
abbrev pub CheckpointIsBounded : Type 0
CheckpointIsBounded = (slot birth : ℕ) (w v : World) (nester : Path) (t : State) (d : ℕ) → slot ≤ LAST_USER_SLOT → MayBegin w nester birth →
    LiesWithin (cut w nester slot) d → (work : AtWork (checkpoint slot) nester w Holds v t)
    → calls_made work ≤ 100 * ((count_of (cut w nester slot) + 1) * (d + 1))
