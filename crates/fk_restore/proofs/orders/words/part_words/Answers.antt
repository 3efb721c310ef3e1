use Rattle.std.proofs.Common.{rules}
use Rattle.fk_restore.proofs.orders.words.part_words.Goals as goal

pub returns-in-Fills : goal.returns-in-Fills
returns-in-Fills c ss slot bind n = search (rules, c.filling_part.ensures ss slot bind n)
