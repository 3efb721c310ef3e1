use Rattle.fk_store.proofs.InStore.finding.Firsts.{kept-first, world-first}
use Rattle.fk_store.proofs.store.store.Store.new.Goals as goal

pub invariant_of-result : goal.invariant_of-result
invariant_of-result c = rw (c.new.ensures, c.new-2.ensures) kept-first

pub returns : goal.returns
returns c = rw (c.new.ensures, c.new-2.ensures) world-first
