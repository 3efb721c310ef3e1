use Rattle.std.proofs.Common.{◌≡◌, Some}
use Rattle.fk_store.specs.Store.Paths.{path}
use Rattle.fk_store.specs.Store.World.{world}
use Rattle.laws_bursts.specs.Bursts.{made}
use Rattle.fk_stretch.specs.Stretches.{burst_in}
use Rattle.fk_stretch.proofs.stretch.run_in.Given as goal

-- so many instructions have led to where the thread is
abbrev pub invariant-loop-event : goal.invariant-loop-event
invariant-loop-event l = made l.event (burst_in (world l.store) (path l.store l.space) l.fn.running) ≡ Some (burst_in (world l.store) (path l.store l.space) l.running)
