use Rattle.std.proofs.Common.{◌≡◌, ◌-◌}
use Rattle.fk_model.specs.Reach as definition
use Rattle.fk_store.specs.Store.Paths.{path}
use Rattle.fk_store.specs.Store.World.{world}
use Rattle.fk_store.proofs.store.store.Store.reach.Given as goal

-- with the mappings that are left, the same answer
abbrev pub invariant-loop-followed : goal.invariant-loop-followed
invariant-loop-followed l = definition.reach_within (16 - l._followed)
    (world l.self) (path l.self l.at) l.here l.write ≡ definition.reach (world l.self) (path l.self l.space) l.page l.write
