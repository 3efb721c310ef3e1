use Rattle.std.proofs.Common.{rules}
use Rattle.fk_restore.proofs.orders.words.raised_fault.Goals as goal

pub returns-in_default : goal.returns-in_default
returns-in_default c ss slot bind n s x = search (rules, c.fault_words.ensures ss)
