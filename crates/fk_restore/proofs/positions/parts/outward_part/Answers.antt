use Rattle.std.proofs.Common.{rules}
use Rattle.laws_restore.specs.Rooms.Restoring.{bound_by}
use Rattle.fk_restore.proofs.positions.parts.outward_part.Goals as goal

pub returns-in-0 : goal.returns-in-0
returns-in-0 c ss slot n s = search (rules, c.points_out_part.ensures ss slot (bound_by c.args.pairs.now) n s)
