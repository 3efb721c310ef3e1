use Rattle.fk_store.proofs.store.store.Store.set_member.Goals as goal

pub set-requires-clause-home : goal.set-requires-clause-home
set-requires-clause-home c = (c.with_set.ensures.keeps _).1 _ c.in-Some.ensures.home

pub set-requires-clause-named : goal.set-requires-clause-named
set-requires-clause-named c = c.with_set.ensures.named _ c.in-Some.ensures.named
