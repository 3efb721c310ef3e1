use Rattle.std.proofs.Common.{rules}
use Rattle.fk_restore.proofs.positions.fills.fills_part.Goals as goal

pub returns-then-part-eq0 : goal.returns-then-part-eq0
returns-then-part-eq0 c ss slot bind n = search (rules, c.fills_item.ensures ss slot bind n)
