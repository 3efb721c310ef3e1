use Rattle.std.proofs.Common.{sym, ◌∙◌}
use Rattle.laws_restore.specs.Rooms.Restoring.{bound_by}
use Rattle.fk_restore.specs.Positions.Positions.{order_at}
use Rattle.fk_restore.specs.Orders.Left.{image_of}
use Rattle.fk_restore.proofs.InOrders.Lefts.{few}
use Rattle.fk_restore.proofs.InRestore.Worked.{ordered, unordered, releases, hears, goes_well}
use Rattle.fk_restore.proofs.restore.restore.worked.Goals as goal

pub returns-then-is_over : goal.returns-then-is_over
returns-then-is_over c = record {
  sound = tt;
  state = releases (image_of c.args.spaces.now) c.args.slot c.args.pairs.now c.args.at c.requires.sound.1
      (unordered c.args.slot (order_at c.args.spaces.now c.args.slot (bound_by c.args.pairs.now) c.args.at) (sym c.is_over.ensures ∙ c.if-is_over.true)) _ _;
}

pub next_of-requires : goal.next_of-requires
next_of-requires c = few (image_of c.args.spaces.now) c.requires.valid

pub goes_on-requires-clause-place : goal.goes_on-requires-clause-place
goes_on-requires-clause-place c =
    let found = ordered c.args.slot (order_at c.args.spaces.now c.args.slot (bound_by c.args.pairs.now) c.args.at)
    (sym c.is_over.ensures ∙ c.if-is_over.false) in
    rw c.next_of.ensures (goes_well (image_of c.args.spaces.now) c.args.slot c.args.pairs.now c.args.at c.requires.valid c.requires.sound.0 found.0 found.1)

pub returns-clause-state : goal.returns-clause-state
returns-clause-state c =
    let found = ordered c.args.slot (order_at c.args.spaces.now c.args.slot (bound_by c.args.pairs.now) c.args.at)
    (sym c.is_over.ensures ∙ c.if-is_over.false) in
    c.goes_on.ensures.state ∙ rw c.next_of.ensures
    (hears (image_of c.args.spaces.now) c.args.slot c.args.pairs.now c.args.at c.requires.valid c.requires.sound.0 found.0 found.1 _
    (c.look_at.ensures c.args.slot) _ _ _ c.missing-port.ensures)
