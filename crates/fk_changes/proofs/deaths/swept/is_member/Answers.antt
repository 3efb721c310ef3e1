use Rattle.std.proofs.Common.{sym, ◌∙◌}
use Rattle.fk_store.specs.Store.Names.{at}
use Rattle.fk_changes.proofs.deaths.swept.is_member.Goals as goal

pub returns-in-Some : goal.returns-in-Some
returns-in-Some c p apart = rw c.in-Some.is (c.eq.ensures ∙ sym (apart (at c.args.port.space c.in-Some.slot)).0)
