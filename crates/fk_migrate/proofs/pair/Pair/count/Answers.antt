use Rattle.fk_migrate.specs.Pairs.{shown}
use Rattle.fk_migrate.proofs.Counting.{to_far_counts, to_near_counts, give_up_counts}
use Rattle.fk_migrate.proofs.pair.Pair.count.Goals as goal

pub returns-in-Near : goal.returns-in-Near
returns-in-Near g c = rw c.in-Near.is c.count_near.ensures

pub returns-in-Far : goal.returns-in-Far
returns-in-Far g c = rw c.in-Far.is c.count_far.ensures

pub returns-in-ToFar : goal.returns-in-ToFar
returns-in-ToFar g c = rw c.in-ToFar.is (to_far_counts (shown c.args.self.now) _)

pub returns-in-ToNear : goal.returns-in-ToNear
returns-in-ToNear g c = rw c.in-ToNear.is (to_near_counts (shown c.args.self.now) _)

pub returns-in-GiveUp : goal.returns-in-GiveUp
returns-in-GiveUp g c = rw c.in-GiveUp.is (give_up_counts (shown c.args.self.now))
