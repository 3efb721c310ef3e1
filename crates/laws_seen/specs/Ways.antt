-- The ways in which a subtree sees a move.
use Rattle.std.specs.Prelude.{◌⊎◌, ℕ}
use Rattle.fk_model.specs.Places.{Path}
use Rattle.fk_model.specs.World.{World}
use Rattle.fk_model.specs.Runs.{Event}
use Rattle.fk_model.specs.Further.{Onward}
use Rattle.fk_model.specs.Seen.{IsSeen}
use Rattle.fk_model.specs.Seen.Seen.{Onwards, Unseen, Other}

-- a move that isn't seen as other is onward or unseen
abbrev pub WhatIsntOtherIsOnwardOrUnseen : Type 0
WhatIsntOtherIsOnwardOrUnseen = (w : World) (nester : Path) (slot : ℕ) (e : Event) → (IsSeen w nester slot e Other → ⊥) →
    ((m : Onward) × IsSeen w nester slot e (Onwards m)) ⊎ IsSeen w nester slot e Unseen
