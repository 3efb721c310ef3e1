use Rattle.laws_restore.specs.Rooms.Restoring.{bound_by}
use Rattle.fk_restore.specs.Positions.Positions.{rest}
use Rattle.fk_restore.specs.Orders.Left.{image_of}
use Rattle.fk_restore.proofs.InOrders.Lefts.{few}
use Rattle.fk_restore.proofs.InRestore.Missed.{misses}
use Rattle.fk_restore.proofs.restore.restore.goes_on.Goals as goal

pub count_objects-requires : goal.count_objects-requires
count_objects-requires c = record { few = few (image_of c.args.spaces.now) c.requires.valid }

pub returns-in-Some-clause-state : goal.returns-in-Some-clause-state
returns-in-Some-clause-state c =
    misses c.args.spaces.now c.args.pairs.now (rest c.args.spaces.now c.args.slot (bound_by c.args.pairs.now) c.args.next) c.args.port c.in-Some.port _ _
    c.in-Some.is c.count_objects.ensures.count c.lowest_bound.ensures
