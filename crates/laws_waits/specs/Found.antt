-- Found: what the kernel knows of a wait that isn't ready is all that its reason needs.
use Rattle.std.specs.Prelude.{◌≡◌, ℕ, ◌≤◌, false, true, ◌∷◌, Option, Some, None}
use Rattle.fk_model.specs.declared.moves.Ask.TheVariants as asks
use Rattle.fk_model.specs.declared.stage.Stage.TheVariants.{Wait}
use Rattle.fk_model.specs.Places.{Path}
use Rattle.fk_model.specs.Objects.{Thread}
use Rattle.fk_model.specs.World.{World}
use Rattle.fk_model.specs.Searches.{thread_at, is_serving, depth}
use Rattle.fk_model.specs.Holds.{decider, is_free}
use Rattle.fk_model.specs.Moves.{IsReady}
use Rattle.fk_model.specs.Valid.{IsValid}
use Rattle.laws_waits.specs.Stuck.{IsAtStage, IsSet, IsStuck}
use Rattle.laws_waits.specs.Stuck.Reason.{Waiting, WaitingOut}

-- a free thread of a space is at a wait that isn't refused, and none of its moves is ready
pub record IsIdleWait (w : World) (k : ℕ) (s : Path) (set : ℕ) : Type 0 where
  pub thread : Thread
  pub there : thread_at w (k ∷ s) ≡ Some thread
  pub free : is_free w s thread ≡ true
  pub stage : IsAtStage w (k ∷ s) (Wait set)
  pub port_set : IsSet w s set
  pub idle : is_serving w (k ∷ s) ≡ false
  pub unready : (pick : Option Path) → IsReady w (k ∷ s) pick asks.Run → ⊥

-- then nobody comes but some that are held
abbrev pub IdleWaitsAreStuck : Type 0
IdleWaitsAreStuck = (w : World) (k : ℕ) (s : Path) (set : ℕ) → IsValid w → w.next ≤ depth → IsIdleWait w k s set → IsStuck w (k ∷ s) (WaitingOut set)

-- and nobody at all where no space is held
abbrev pub UnheldWaitsAreStuck : Type 0
UnheldWaitsAreStuck = (w : World) (k : ℕ) (s : Path) (set : ℕ) → IsValid w → w.next ≤ depth → ((q : Path) → decider w q ≡ None) →
    IsIdleWait w k s set → IsStuck w (k ∷ s) (Waiting set)
