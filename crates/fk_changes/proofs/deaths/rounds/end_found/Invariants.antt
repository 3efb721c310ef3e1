use Rattle.std.proofs.Common.{◌≡◌}
use Rattle.fk_model.specs.Valid.{kind_there}
use Rattle.fk_store.specs.Store.Paths.{path, place}
use Rattle.fk_store.specs.Store.World.{world}
use Rattle.fk_changes.specs.Deaths.Ends.{HaveEnded}
use Rattle.fk_changes.proofs.deaths.rounds.end_found.Given as goal

-- what has ended so far ends with the port
abbrev pub invariant-loop-round : goal.invariant-loop-round
invariant-loop-round l = record {
  ended : HaveEnded (world l.fn.store) (world l.store) (place (path l.fn.store) l.port);
  kinds : kind_there (world l.store) ≡ kind_there (world l.fn.store);
  paths : path l.store ≡ path l.fn.store;
}
