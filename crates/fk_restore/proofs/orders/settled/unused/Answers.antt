use Rattle.std.proofs.Common.{sym, ◌∙◌}
use Rattle.laws_restore.specs.Rooms.Restoring.{bound_by}
use Rattle.fk_restore.specs.Orders.Left.{image_of}
use Rattle.fk_restore.proofs.InOrders.Skipped.{unused_gone}
use Rattle.fk_restore.proofs.orders.settled.unused.Goals as goal

pub returns-then-out-used : goal.returns-then-out-used
returns-then-out-used c =
    rw (c.place.ensures, c.slot_pass.ensures) (unused_gone (image_of c.args.spaces.now) c.args.slot (bound_by c.args.pairs.now) c.args.at c.in-Some.out _
    c.requires.valid c.requires.place (sym c.begins.ensures ∙ c.in-Some.is) c.if-out-used.true c.used_from-used.ensures.none)
