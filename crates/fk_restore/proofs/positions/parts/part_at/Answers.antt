use Rattle.std.proofs.Common.{rules}
use Rattle.laws_restore.specs.Rooms.Restoring.{bound_by}
use Rattle.fk_restore.proofs.positions.parts.part_at.Goals as goal

pub returns-in-Spaces : goal.returns-in-Spaces
returns-in-Spaces c = search (rules, c.makes_part.ensures c.args.spaces.now c.args.slot (bound_by c.args.pairs.now) c.args.number)

pub returns-in-Fills : goal.returns-in-Fills
returns-in-Fills c = search (rules, c.fills_part.ensures c.args.spaces.now c.args.slot (bound_by c.args.pairs.now) c.args.number)

pub returns-in-Holds : goal.returns-in-Holds
returns-in-Holds c = search (rules, c.holds_part.ensures (bound_by c.args.pairs.now) c.args.number)
