use Rattle.std.proofs.Common.{◌≤◌, arith, ◌∙◌}
use Rattle.fk_model.specs.Searches.{depth}
use Rattle.fk_store.proofs.InStore.finding.PointerLaws.{sum-hits}
use Rattle.fk_store.proofs.store.store.Store.pointers_at.Goals as goal

pub returns : goal.returns
returns c =
    let few : c.self.inside.next ≤ depth = omega arith in
    rw (← c.self.view_is) (c.pointers_at.ensures ∙ sum-hits _ c.self.invariant few c.args.who)
