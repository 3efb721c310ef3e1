use Rattle.std.proofs.Common.{◌≡◌, ◌≤◌, sym, subst, ◌∙◌, arith}
use Rattle.fk_model.specs.ObjectRows.{pointer_count}
use Rattle.fk_model.specs.Searches.{depth}
use Rattle.fk_store.specs.Store.Paths.{path, place}
use Rattle.fk_store.specs.Store.World.{world}
use Rattle.fk_store.proofs.InStore.finding.Counting.{begins, counts, ends}
use Rattle.fk_store.proofs.InStore.finding.Outside.{count-is}
use Rattle.fk_store.proofs.store.store.Store.count_all.Goals as goal

pub loop-at-init : goal.loop-at-init
loop-at-init c =
    let few : c.self.inside.next ≤ depth = omega arith in
    rw (← c.self.view_is) (begins _ c.self.invariant _ few c.after-at.result (rw (← c.self.view_is) at c.after-at.ensures.first)
    (rw (← c.self.view_is) at c.after-at.ensures.ends))

pub loop-at-preserved : goal.loop-at-preserved
loop-at-preserved c =
    rw (← c.self.view_is) (counts _ c.self.invariant _ c.in-Some.from c.loop-at.count (rw (← c.self.view_is, c.in-Some.is) at c.loop-at.invariant)
    c.after-at-in-Some.result (rw (← c.self.view_is) at c.after-at-in-Some.ensures.first) c.after-at-in-Some.ensures.rises
    (rw (← c.self.view_is) at c.after-at-in-Some.ensures.ends)
    c.counted-count.result (rw (← c.self.view_is) at c.counted-count.ensures.hits) c.counted-count.ensures.few)

pub returns : goal.returns
returns c =
    subst (λ n. c.loop-at.count ≡ pointer_count (world n) (path n c.args.base) (path n c.args.nester) (place (path n) c.args.who)) c.self.view_is
    (ends _ c.self.invariant _ c.loop-at.count (rw (← c.self.view_is, c.in_default.is) at c.loop-at.invariant) ∙ sym (count-is _ _ _ _))
