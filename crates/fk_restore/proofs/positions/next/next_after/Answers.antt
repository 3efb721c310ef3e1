use Rattle.std.proofs.Common.{rules}
use Rattle.laws_restore.specs.Rooms.Restoring.{bound_by}
use Rattle.fk_restore.proofs.positions.next.next_after.Goals as goal

pub returns-else-k-behind_count : goal.returns-else-k-behind_count
returns-else-k-behind_count c = search (rules, c.next_pass.ensures c.args.spaces.now c.args.slot (bound_by c.args.pairs.now))
