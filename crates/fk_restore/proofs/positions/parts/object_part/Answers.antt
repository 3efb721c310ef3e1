use Rattle.std.proofs.Common.{rules}
use Rattle.laws_restore.specs.Rooms.Restoring.{bound_by}
use Rattle.fk_restore.proofs.positions.parts.object_part.Goals as goal

pub returns-in-Inward : goal.returns-in-Inward
returns-in-Inward c s = search (rules, c.inward_part.ensures (bound_by c.args.pairs.now) s)
