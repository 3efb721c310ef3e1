use Rattle.std.proofs.Common.{◌≡◌, ℕ, Option, Some, None, sym, ap, ◌∙◌}
use Rattle.fk_store_graph.specs.Linked.Shapes.{Entry}
use Rattle.fk_store_graph.specs.Linked.Shapes.{Told}
use Rattle.fk_store_graph.specs.Linked.Filed.{Filed, entry_under}
use Rattle.fk_store_graph.specs.Linked.Bodied.{told_by}
use Rattle.fk_store_graph.specs.Linked.Parts.{sort_of}
use Rattle.fk_store_graph.specs.Linked.Shapes.{Part}
use Rattle.fk_store_graph.proofs.bodies.scans.told_of_part.Goals as goal

this : (o : Filed) (part : Part) (key : ℕ) (d : Entry) (told : Told) → Some d ≡ entry_under o key → told ≡ told_by (sort_of part) d.hints →
    (e : Entry) → entry_under o key ≡ Some e → told ≡ told_by (sort_of part) e.hints
this o part key d told there is e at = let both = there ∙ at in let same : d ≡ e = cc in is ∙ ap (λ (x : Entry). told_by (sort_of part) x.hints) same

gone : (o : Filed) (key : ℕ) (told other : Told) → None ≡ entry_under o key → (e : Entry) → entry_under o key ≡ Some e → told ≡ other
gone o key told other none e at = let both = none ∙ at in absurd (cc)

pub returns-in-None : goal.returns-in-None
returns-in-None c = λ e at. gone _ c.args.key _ _ c.in-None.ensures.entry e at

pub returns-in-Some : goal.returns-in-Some
returns-in-Some c = this _ c.args.part c.args.key c.in-Some.entry.now _ c.in-Some.ensures.entry (rw c.sort.ensures at c.told_of.ensures)
