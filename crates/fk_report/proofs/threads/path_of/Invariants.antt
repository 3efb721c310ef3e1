use Rattle.std.proofs.Common.{◌≡◌, ◌++◌}
use Rattle.fk_store.specs.Store.Paths.{path}
use Rattle.fk_store.specs.Store.World.{place_of, IsLive}
use Rattle.fk_report.proofs.threads.path_of.Given as goal

abbrev pub invariant-loop-space : goal.invariant-loop-space
invariant-loop-space l = record {
  whole : l.path ++ path l.store l.at.space ≡ place_of l.store l.fn.who;
  live : IsLive l.store l.at;
}

abbrev pub decreases-loop-space : goal.decreases-loop-space
decreases-loop-space l = l.at.space
