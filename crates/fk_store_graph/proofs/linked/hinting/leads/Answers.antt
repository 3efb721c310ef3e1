use Rattle.std.proofs.Common.{◌≡◌, ◌≢◌, ℕ, Option, Some, None, option_map, false, sym, ap, ◌∙◌}
use Rattle.fk_model.specs.declared.body.Body.{Body}
use Rattle.fk_store_graph.specs.declared.hints.lead.Lead.{Lead}
use Rattle.fk_store_graph.specs.Hints.Leads.{led}
use Rattle.fk_store_cells.specs.declared.objects.entry.Entry.{Entry}
use Rattle.fk_store_cells.specs.Objects.Filed.{Filed, entry_under}
use Rattle.fk_store_graph.specs.Linked.Bodied.{body_under}
use Rattle.fk_store_graph.proofs.InLinked.BodyLaws.{no-body, body-of}
use Rattle.fk_store_graph.proofs.linked.hinting.leads.Goals as goal

nothing : (o : Filed) (key : ℕ) (b : Body) → None ≡ entry_under o key → body_under o key ≡ Some b → ⊥
nothing o key b none there = let gone = no-body o key (sym none) in absurd (cc)

this_one : (o : Filed) (key : ℕ) (e : Entry) (l : Lead) → Some e ≡ entry_under o key → ((i : ℕ) → led e.body i ≢ Some l) →
    (b : Body) (i : ℕ) → body_under o key ≡ Some b → led b i ≢ Some l
this_one o key e l is off b i there leads =
    let here = body-of o key e (sym is) in
    let same : e.body ≡ b = cc in
    off i (ap (λ x. led x i) same ∙ leads)

pub returns-in-None : goal.returns-in-None
returns-in-None c = λ no b i there leads. nothing _ c.args.key b c.in-None.ensures.entry there

pub returns-in-Some : goal.returns-in-Some
returns-in-Some c = λ no. this_one _ c.args.key c.in-Some.entry.now c.args.lead c.in-Some.ensures.entry (c.leads_there.ensures no)
