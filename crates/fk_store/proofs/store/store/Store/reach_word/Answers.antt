use Rattle.std.proofs.Common.{arith}
use Rattle.fk_store.proofs.InStore.changing.WordLaws.{reached, page_found, reach_word_there}
use Rattle.fk_store.proofs.store.store.Store.reach_word.Goals as goal

pub returns-then-is_some-clause-reach : goal.returns-then-is_some-clause-reach
returns-then-is_some-clause-reach c = rw (← c.self.view_is)
    (reach_word_there _ _ c.args.address c.args.write (omega arith) (page_found _ c.self.invariant c.args.space _ c.at.result c.at.ensures (cc)).1)

pub returns-then-is_some-clause-there : goal.returns-then-is_some-clause-there
returns-then-is_some-clause-there c = rw (← c.self.view_is) (page_found _ c.self.invariant c.args.space _ c.at.result c.at.ensures (cc))

pub returns-clause-there : goal.returns-clause-there
returns-clause-there c =
    rw (← c.self.view_is) (reached _ c.self.invariant c.args.space _ c.args.write c.reach.result (rw (← c.self.view_is) at c.reach.ensures))
