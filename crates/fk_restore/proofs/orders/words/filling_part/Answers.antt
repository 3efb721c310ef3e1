use Rattle.std.proofs.Common.{rules}
use Rattle.fk_restore.proofs.orders.words.filling_part.Goals as goal

pub returns-then-part-eq0 : goal.returns-then-part-eq0
returns-then-part-eq0 c ss slot bind n = search (rules, c.filling.ensures ss slot bind n)
