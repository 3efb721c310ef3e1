use Rattle.std.proofs.Common.{◌≡◌, ℕ, Some, subst, sym, ◌∙◌}
use Rattle.fk_store_graph.specs.declared.hints.lead.Lead.{Lead}
use Rattle.fk_store_cells.specs.Objects.Filed.{Filed}
use Rattle.fk_store_graph.specs.Linked.Bodied.{IsTold}
use Rattle.fk_store_graph.proofs.InLinked.TellLaws.{retold_none, still_none}
use Rattle.fk_store_graph.proofs.linked.hinting.tell_field.Goals as goal

this_lead : (o : Filed) (m l : Lead) (key : ℕ) → Some m ≡ Some l → IsTold o m key → IsTold o l key
this_lead o m l key is told = let same : m ≡ l = cc in subst (λ x. IsTold o x key) same told

pub returns-in-Some-clause-told : goal.returns-in-Some-clause-told
returns-in-Some-clause-told c = λ l is. this_lead _ c.in-Some.lead l c.args.key (sym c.in-Some.is ∙ is) c.note.ensures.told

pub returns-in_default-clause-kept : goal.returns-in_default-clause-kept
returns-in_default-clause-kept c = still_none _

pub returns-in_default-clause-same : goal.returns-in_default-clause-same
returns-in_default-clause-same c = retold_none _
