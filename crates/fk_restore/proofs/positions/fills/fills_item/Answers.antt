use Rattle.std.proofs.Common.{rules}
use Rattle.fk_restore.proofs.positions.fills.fills_item.Goals as goal

pub returns-then-item-count : goal.returns-then-item-count
returns-then-item-count c ss slot bind n = search (rules, c.made.ensures ss slot bind n c.args.space.now)

pub returns-then-item-count-2 : goal.returns-then-item-count-2
returns-then-item-count-2 c ss slot bind n = search (rules, c.was_set.ensures ss slot bind n c.args.space.now)

pub returns-else-item-count-2 : goal.returns-else-item-count-2
returns-else-item-count-2 c ss slot bind n = search (rules, c.given.ensures ss slot bind n c.args.space.now)
