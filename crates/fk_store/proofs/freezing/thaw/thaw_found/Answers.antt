use Rattle.std.proofs.Common.{sym}
use Rattle.fk_store.proofs.freezing.thaw.thaw_found.Goals as goal

pub thaw_one-requires-clause-born : goal.thaw_one-requires-clause-born
thaw_one-requires-clause-born c = sym c.in_ok-birth.ensures

pub returns-then-thaw_one-clause-some : goal.returns-then-thaw_one-clause-some
returns-then-thaw_one-clause-some c = c.thaw_one.ensures.gone c.if-thaw_one.true

pub returns-else-thaw_one-clause-none : goal.returns-else-thaw_one-clause-none
returns-else-thaw_one-clause-none c = λ none. c.thaw_one.ensures.same c.if-thaw_one.false
