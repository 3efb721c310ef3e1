use Rattle.fk_store.proofs.store.store.Store.set_holder.Goals as goal

pub set-requires-clause-home : goal.set-requires-clause-home
set-requires-clause-home c = (c.with_holder.ensures.keeps _).1 _ c.in-Some.ensures.home

pub set-requires-clause-named : goal.set-requires-clause-named
set-requires-clause-named c = c.with_holder.ensures.named _ c.requires.holder c.in-Some.ensures.named
