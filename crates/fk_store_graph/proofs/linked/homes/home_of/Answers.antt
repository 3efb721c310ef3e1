use Rattle.std.proofs.Common.{sym, ◌∙◌, arith}
use Rattle.fk_store_graph.proofs.InLinked.HomeLaws.{home_past, home_read}
use Rattle.fk_store_graph.proofs.linked.homes.home_of.Goals as goal

pub returns-then-birth-len : goal.returns-then-birth-len
returns-then-birth-len c = c.key_word.ensures ∙ home_read _ _ _ (omega arith) c.index.ensures

pub returns-else-birth-len : goal.returns-else-birth-len
returns-else-birth-len c = sym (home_past _ _ (omega arith))
