use Rattle.std.proofs.Common.{rules}
use Rattle.fk_restore.proofs.orders.words.parked_talk.Goals as goal

pub returns-then-is_out : goal.returns-then-is_out
returns-then-is_out c ss slot bind n s x = search (rules, c.talk_words.ensures ss)
