-- Blocks: the page that a block of words makes.
use Rattle.std.specs.Prelude.{◌≡◌, ℕ, ◌+◌, ◌≤◌, List, take, drop, Some, IsSome}
use Rattle.fk_model.specs.Places.{Path}
use Rattle.fk_model.specs.Reach.{words_at}
use Rattle.fk_model.specs.TransferRows.{overwritten}
use Rattle.fk_model.specs.Valid.{birth_at}
use Rattle.fk_model.specs.World.{World}
use Rattle.fk_plans.specs.declared.plans.blocks.Block.{Block}

-- the page into which a block was copied
abbrev pub block_page : (ℕ → Path) → World → Block → List ℕ
block_page p w b = overwritten (words_at w (p b.to.0) b.to.1) b.into (take b.count (drop b.at (words_at w (p b.from.0) b.from.1)))

-- it lies within both pages, and they are there
abbrev pub IsBlock : (ℕ → Path) → World → Block → Type 0
IsBlock p w b = (b.at + b.count ≤ 64) ×
    (b.into + b.count ≤ 64) × IsSome (w.page (p b.from.0) b.from.1) × (birth_at w (p b.to.0) ≡ Some b.to.0) × IsSome (w.page (p b.to.0) b.to.1)
