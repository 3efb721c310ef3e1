use Rattle.fk_store.proofs.freezing.settle.tell.Goals as goal

pub returns-then-is_held-clause-others : goal.returns-then-is_held-clause-others
returns-then-is_held-clause-others c = λ n apart told. c.note.ensures.others n told
