-- The law of rebinding: a subtree that is seen alone does, with other outward ports, what it did, and tells it at these. Two
-- ports may get one name.
use Rattle.std.specs.Prelude.{◌≡◌, ℕ, List, map, Option}
use Rattle.fk_model.specs.declared.stage.Stage.{Stage}
use Rattle.fk_model.specs.Places.{Path}
use Rattle.fk_model.specs.World.{World}
use Rattle.fk_model.specs.Further.{Touch, Onward, Told, IsOnward, IsFurther}
use Rattle.fk_model.specs.Further.Onward.{Own, ByOthers}
use Rattle.fk_model.specs.Rebind.{rebound, rebound_told, rebound_move}
use Rattle.laws_subtrees.specs.Cut.CutLaws.{IsAtStage, IsRunning}
use Rattle.laws_subtrees.specs.Cut.Likeness.{IsCutWorld}
use Rattle.fk_model.specs.Runs.{after}

-- a move of the subtree, and the same move of it with other outward ports
pub record RebindsTo (bind : ℕ → ℕ) (c : World) (m : Onward) : Type 0 where
  -- where it is ready it is ready with these, tells the same at these, and leaves the same
  pub forth : (told : List Told) (later : World) → IsOnward c m told later →
      IsOnward (rebound bind c) (rebound_move bind m) (map (rebound_told bind) told) (rebound bind later)
  -- and it is ready with these only where it is ready
  pub back : (heard : List Told) (after : World) → IsOnward (rebound bind c) (rebound_move bind m) heard after →
      (told : List Told) × (later : World) × IsOnward c m told later × (heard ≡ map (rebound_told bind) told) × (after ≡ rebound bind later)
  -- what it leaves is seen alone as well
  pub stays : (told : List Told) (later : World) → IsOnward c m told later → IsCutWorld later

abbrev pub Rebinds : World → Onward → Type 0
Rebinds c m = (bind : ℕ → ℕ) → IsCutWorld c → RebindsTo bind c m

-- the law for every move of its own by a thread that is at such a stage
abbrev pub StageRebinds : (Stage → Type 0) → Type 0
StageRebinds IsSuch = (c : World) (x : Path) (pick : Option Path) (taken : ℕ) (stage : Stage) →
    IsSuch stage → IsAtStage c x stage → Rebinds c (Own x pick taken)

-- and for every instruction
abbrev pub InstructionRebinds : Type 0
InstructionRebinds = (c : World) (x : Path) (pick : Option Path) (taken : ℕ) → IsRunning c x → Rebinds c (Own x pick taken)

-- and for whatever the outside does to the subtree
abbrev pub TouchRebinds : Type 0
TouchRebinds = (c : World) (touch : Touch) → Rebinds c (ByOthers touch)

-- ---- all of them

-- the law for every move of its own, and for whatever the outside does
abbrev pub MoveRebinds : Type 0
MoveRebinds = (c : World) (m : Onward) → Rebinds c m

-- a list of moves, and the same list with other outward ports
pub record RunRebindsTo (bind : ℕ → ℕ) (c : World) (ms : List Onward) : Type 0 where
  pub forth : (told : List Told) (later : World) →
      IsFurther c ms told later → IsFurther (rebound bind c) (map (rebound_move bind) ms) (map (rebound_told bind) told) (rebound bind later)
  pub back : (heard : List Told) (after : World) → IsFurther (rebound bind c) (map (rebound_move bind) ms) heard after →
      (told : List Told) × (later : World) × IsFurther c ms told later × (heard ≡ map (rebound_told bind) told) × (after ≡ rebound bind later)

-- the further runs of a subtree that is seen alone are, with other outward ports, the same runs
abbrev pub RunRebinds : Type 0
RunRebinds = (bind : ℕ → ℕ) (c : World) (ms : List Onward) → IsCutWorld c → RunRebindsTo bind c ms
