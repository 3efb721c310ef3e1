use Rattle.std.proofs.Common.{◌≡◌, ◌++◌, ◌∷◌, [], length, map}
use Rattle.fk_store.specs.Store.World.{world, place_of}
use Rattle.fk_cut.proofs.InClosing.Walked.{trees}
use Rattle.fk_cut.proofs.closing.walk.objects_of.Given as goal

-- what was met, and what lies at and beneath the objects that are yet to come, is the whole subtree
abbrev pub invariant-loop-who : goal.invariant-loop-who
invariant-loop-who l =
    map (place_of l.store) l.objects ++ trees (world l.store) (place_of l.store l.fn.root) (map (place_of l.store) l.stack)
    ≡ trees (world l.store) (place_of l.store l.fn.root) (place_of l.store l.fn.root ∷ [])

abbrev pub decreases-loop-who : goal.decreases-loop-who
decreases-loop-who l = length (trees (world l.store) (place_of l.store l.fn.root) (map (place_of l.store) l.stack))
