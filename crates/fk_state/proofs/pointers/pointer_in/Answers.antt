use Rattle.fk_state.proofs.pointers.pointer_in.Goals as goal

pub returns-clause-live : goal.returns-clause-live
returns-clause-live c = c.pointer_of.ensures.named c.args.store.now c.requires.named
