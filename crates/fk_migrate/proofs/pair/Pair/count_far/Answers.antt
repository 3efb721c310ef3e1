use Rattle.std.proofs.Common.{arith}
use Rattle.fk_migrate.specs.Pairs.{shown}
use Rattle.fk_migrate.proofs.Counting.{few_far, far_counts}
use Rattle.fk_migrate.proofs.pair.Pair.count_far.Goals as goal

pub far-requires : goal.far-requires
far-requires g c =
    let few = few_far (shown c.args.self.now) c.requires.run in
    omega (arith, few, c.requires.room, c.capacity.ensures)

pub returns : goal.returns
returns g c =
    far_counts (shown c.args.self.now) c.args.m.now c.is_porters-is_own.result c.far.result c.is_porters-is_own.ensures c.far.ensures
