use Rattle.std.proofs.Common.{rules}
use Rattle.fk_restore.proofs.orders.words.filling.Goals as goal

pub returns-then-item-count-2 : goal.returns-then-item-count-2
returns-then-item-count-2 c ss slot bind n = search (rules, c.record_at.ensures ss slot bind n c.args.space.now)

pub returns-else-item-count-2 : goal.returns-else-item-count-2
returns-else-item-count-2 c ss slot bind n = search (rules, c.page_at.ensures ss slot bind n c.args.space.now)
