-- The call and the walk of a part are those of its order.
use Rattle.std.proofs.Common.{◌≡◌, ℕ, List, option_map, refl}
use Rattle.fk_image.specs.declared.image.image.SpaceRec.{SpaceRec}
use Rattle.laws_restore.specs.Sites.Orders.{stage_of}
use Rattle.fk_restore.specs.Positions.Passes.{Part}
use Rattle.fk_restore.specs.Positions.Passes.Part.{Nothing, Walks, Asks}
use Rattle.fk_restore.specs.Positions.Positions.{asked, walked}
use Rattle.fk_restore.specs.Positions.Doing.{doing_of, stage_in, walk_in}

pub stage_same : (ss : List SpaceRec) (slot : ℕ) (bind : ℕ → ℕ) (p : Part) → stage_in (doing_of slot p) ≡ option_map (stage_of slot) (asked ss slot bind p)
stage_same ss slot bind Nothing = refl
stage_same ss slot bind (Walks walk) = refl
stage_same ss slot bind (Asks order) = refl

pub walk_same : (ss : List SpaceRec) (slot : ℕ) (bind : ℕ → ℕ) (p : Part) → walk_in (doing_of slot p) ≡ walked ss slot bind p
walk_same ss slot bind Nothing = refl
walk_same ss slot bind (Walks walk) = refl
walk_same ss slot bind (Asks order) = refl
