use Rattle.std.proofs.Common.{◌≡◌, false}
use Rattle.std.specs.List.{flat_map}
use Rattle.fk_model.specs.Searches.{slots}
use Rattle.fk_store.specs.Store.Paths.{path}
use Rattle.fk_store.specs.Store.World.{world}
use Rattle.fk_changes.specs.Threads.Sleepers.{is_changed}
use Rattle.fk_changes.proofs.InThreads.SleeperLaws.{wakes_at}
use Rattle.fk_changes.proofs.threads.sleepers.is_slept_on.Given as goal

-- nobody so far
abbrev pub invariant-loop-slot : goal.invariant-loop-slot
invariant-loop-slot l = is_changed (flat_map (wakes_at (world l.store) (path l.store l.space) l.cond) (slots l.slot)) ≡ false
