use Rattle.std.proofs.Common.{arith}
use Rattle.fk_migrate.specs.Pairs.{shown}
use Rattle.fk_migrate.proofs.Counting.{few_near, near_counts}
use Rattle.fk_migrate.proofs.pair.Pair.count_near.Goals as goal

pub near-requires : goal.near-requires
near-requires g c =
    let few = few_near (shown c.args.self.now) c.requires.run in
    omega (arith, few, c.requires.room, c.capacity.ensures)

pub returns : goal.returns
returns g c =
    near_counts (shown c.args.self.now) c.args.m.now c.is_porters-is_own.result c.near.result c.is_porters-is_own.ensures c.near.ensures
