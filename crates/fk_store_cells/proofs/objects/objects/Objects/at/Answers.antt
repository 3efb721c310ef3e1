use Rattle.std.proofs.Common.{ap, option_map, ◌∙◌}
use Rattle.fk_store_cells.specs.declared.objects.entry.Entry.{Entry}
use Rattle.fk_store_cells.specs.Objects.Filed.{entry_under, key_of}
use Rattle.fk_store_cells.proofs.InObjects.FiledLaws.{read_word}
use Rattle.fk_store_cells.proofs.objects.objects.Objects.at.Goals as goal

pub returns-in-None : goal.returns-in-None
unfolding entry_under key_of
returns-in-None c = rw (← c.self.view_is) (ap (option_map (λ (e : Entry). e.body)) c.in-None.ensures
    ∙ read_word _ c.self.invariant c.args.who c.word-word.result c.word-word.ensures)

pub returns-in-Some : goal.returns-in-Some
unfolding entry_under key_of
returns-in-Some c = rw (← c.self.view_is) (ap (option_map (λ (e : Entry). e.body)) c.in-Some.ensures
    ∙ read_word _ c.self.invariant c.args.who c.word-word.result c.word-word.ensures)
