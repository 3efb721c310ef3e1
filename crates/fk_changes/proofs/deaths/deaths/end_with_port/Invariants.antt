use Rattle.std.proofs.Common.{◌≡◌}
use Rattle.fk_model.specs.Valid.{kind_there}
use Rattle.fk_store.specs.Store.Paths.{path, place}
use Rattle.fk_store.specs.Store.World.{world, IsLive}
use Rattle.fk_changes.proofs.InDeaths.Clients.{AreEnding}
use Rattle.fk_changes.proofs.InDeaths.Scans.{left_from}
use Rattle.fk_changes.proofs.deaths.deaths.end_with_port.Given as goal

-- the calls at each client's ends have ended, or it is yet to come
abbrev pub invariant-loop-at : goal.invariant-loop-at
invariant-loop-at l = record {
  ending : AreEnding (world l.fn.store) (world l.store) (place (path l.fn.store) l.port) (IsLive l.fn.store) (path l.fn.store) l.at;
  kinds : kind_there (world l.store) ≡ kind_there (world l.fn.store);
  paths : path l.store ≡ path l.fn.store;
}

abbrev pub decreases-loop-at : goal.decreases-loop-at
decreases-loop-at l = left_from l.at
