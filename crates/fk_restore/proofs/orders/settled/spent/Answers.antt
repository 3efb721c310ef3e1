use Rattle.laws_restore.specs.Rooms.Restoring.{bound_by}
use Rattle.fk_restore.specs.Orders.Left.{image_of}
use Rattle.fk_restore.proofs.InOrders.Lefts.{few}
use Rattle.fk_restore.proofs.InOrders.Spent.{spent_gone}
use Rattle.fk_restore.proofs.orders.settled.spent.Goals as goal

pub behind-requires : goal.behind-requires
behind-requires c = few (image_of c.args.spaces.now) c.requires.valid

pub returns-in-Some : goal.returns-in-Some
returns-in-Some c =
    rw c.place.ensures (spent_gone (image_of c.args.spaces.now) c.args.slot (bound_by c.args.pairs.now) c.requires.valid c.args.at c.in-Some.spot
    c.requires.place c.in-Done.is c.in-Some.ensures)
