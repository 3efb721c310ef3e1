use Rattle.std.proofs.Common.{◌≡◌}
use Rattle.std.specs.List.{flat_map}
use Rattle.fk_model.specs.Searches.{slots}
use Rattle.fk_model.specs.Valid.{kind_there}
use Rattle.fk_model.specs.World.{apply_all}
use Rattle.fk_store.specs.Store.Paths.{path}
use Rattle.fk_store.specs.Store.World.{world}
use Rattle.fk_changes.proofs.InThreads.SleeperLaws.{wakes_at}
use Rattle.fk_changes.proofs.threads.sleepers.wake_all.Given as goal

-- those in the slots so far are awake
abbrev pub invariant-loop-slot : goal.invariant-loop-slot
invariant-loop-slot l =
    let w = world l.initial.store in
    record {
      woken : world l.store ≡ apply_all (flat_map (wakes_at w (path l.initial.store l.space) l.cond) (slots l.slot)) w;
      kinds : kind_there (world l.store) ≡ kind_there w;
      paths : path l.store ≡ path l.initial.store;
    }
