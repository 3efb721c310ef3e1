use Rattle.std.proofs.Common.{sym, ◌∙◌}
use Rattle.laws_restore.specs.Rooms.Restoring.{bound_by}
use Rattle.fk_restore.specs.Positions.Positions.{order_at}
use Rattle.fk_restore.specs.Orders.Left.{image_of}
use Rattle.fk_restore.proofs.InOrders.Lefts.{empty_parts, stays, falls, few}
use Rattle.fk_restore.proofs.orders.settled.passed.Goals as goal

pub next_of-requires : goal.next_of-requires
next_of-requires c = few (image_of c.args.spaces.now) c.requires.valid

pub returns-then-is_empty : goal.returns-then-is_empty
returns-then-is_empty c =
    let bind = bound_by c.args.pairs.now in
    let parts = empty_parts c.args.at (order_at c.args.spaces.now c.args.slot bind c.args.at) (sym c.is_empty.ensures ∙ c.if-is_empty.true) in
    let same = stays (image_of c.args.spaces.now) c.args.slot bind c.args.at c.requires.valid c.requires.place parts.1 in
    let less = falls c.args.spaces.now c.args.slot bind c.args.at parts.1 parts.0 in
    rw c.next_of.ensures record { goes = record { rest = same.0; place = same.1; fewer = less }; stands = tt }

pub returns-else-is_empty : goal.returns-else-is_empty
returns-else-is_empty c = record { goes = tt; stands = sym c.is_empty.ensures ∙ c.if-is_empty.false }
