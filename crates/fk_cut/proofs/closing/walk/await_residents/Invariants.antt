use Rattle.std.proofs.Common.{◌≡◌, ◌≤◌}
use Rattle.fk_store.specs.Store.Paths.{path}
use Rattle.fk_store.specs.Store.World.{world}
use Rattle.fk_cut.proofs.InClosing.Walked.{awaited}
use Rattle.fk_cut.proofs.closing.walk.await_residents.Given as goal

abbrev pub invariant-loop-left : goal.invariant-loop-left
invariant-loop-left l = (l.left ≤ 256)
    × (awaited (world l.store) (path l.store l.space) l.space l.left l.stack ≡ awaited (world l.store) (path l.store l.space) l.space 256 l.fn.stack)

abbrev pub decreases-loop-left : goal.decreases-loop-left
decreases-loop-left l = l.left
