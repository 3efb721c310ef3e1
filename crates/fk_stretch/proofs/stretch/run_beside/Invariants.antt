use Rattle.std.proofs.Common.{◌≡◌, ◌≤◌, Some}
use Rattle.fk_model.specs.Valid.{kind_there}
use Rattle.fk_store.specs.Store.Paths.{path}
use Rattle.fk_store.specs.Store.World.{world}
use Rattle.laws_bursts.specs.Bursts.{made}
use Rattle.fk_stretch.specs.Stretches.{burst_in, Rewrites}
use Rattle.fk_stretch.proofs.stretch.run_beside.Given as goal

-- so many instructions have led to where the thread is, and to the pages that are there
abbrev pub invariant-loop : goal.invariant-loop
invariant-loop l = record {
  makes : made l.made (burst_in (world l.fn.store) (path l.fn.store l.space) l.fn.running) ≡ Some (burst_in (world l.store) (path l.fn.store l.space) l.running);
  few : l.made ≤ l.most;
  none : l.made ≡ 0 → l.store ≡ l.fn.store;
  rewrites : Rewrites (path l.fn.store l.space) (world l.fn.store) (world l.store);
  kinds : kind_there (world l.store) ≡ kind_there (world l.fn.store);
  paths : path l.store ≡ path l.fn.store;
}
