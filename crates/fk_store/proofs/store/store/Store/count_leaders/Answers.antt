use Rattle.std.proofs.Common.{◌≡◌, ◌+◌, ◌≤◌, refl, sym, subst, ◌∙◌, arith}
use Rattle.std.specs.List.{sum_by}
use Rattle.fk_model.specs.ObjectRows.{pointer_count}
use Rattle.fk_model.specs.Searches.{depth}
use Rattle.fk_store.specs.Store.Paths.{path, place}
use Rattle.fk_store.specs.Store.World.{world}
use Rattle.fk_store.proofs.InStore.finding.Lefts.{fewer_left}
use Rattle.fk_store.proofs.InStore.finding.Outside.{one_there, weights-begin, weights-go, weights-room, weights-end}
use Rattle.fk_store.proofs.store.store.Store.count_leaders.Goals as goal

pub loop-from-init : goal.loop-from-init
loop-from-init c =
    let few : c.self.inside.next ≤ depth = omega arith in
    record {
      total = λ all. subst (λ n. 0 + sum_by (one_there n (path n c.args.base) (path n c.args.nester)) c.leaders-leaders.result.0
          ≡ pointer_count (world n) (path n c.args.base) (path n c.args.nester) (place (path n) c.args.who)) c.self.view_is
          (weights-begin _ c.self.invariant few _ _ c.args.who c.leaders-leaders.result.0 (c.leaders-leaders.ensures.sums all));
      low = omega (arith, c.leaders-leaders.ensures.few);
    }

pub loop-from-preserved : goal.loop-from-preserved
loop-from-preserved c =
    let m = c.args.self.now in
    record {
      total = λ all. weights-go (one_there m (path m c.args.base) (path m c.args.nester)) c.in-Some.from _ _ c.loop-from.count c.weight-count.result _
          c.in-Some.ensures.some c.weight-count.ensures.one (c.loop-from.invariant.total (sym c.next.ensures.all ∙ all));
      low = weights-room c.in-Some.from _ _ c.loop-from.count c.weight-count.result _
          c.in-Some.ensures.some c.weight-count.ensures.few c.loop-from.invariant.low;
    }

pub loop-from-smaller : goal.loop-from-smaller
loop-from-smaller c = fewer_left c.in-Some.from _ _ c.in-Some.ensures.some

pub are_all-requires : goal.are_all-requires
are_all-requires c = (c.in_default.ensures.none refl).1

pub returns-then-are_all : goal.returns-then-are_all
returns-then-are_all c =
    let m = c.args.self.now in
    weights-end (one_there m (path m c.args.base) (path m c.args.nester)) _ c.loop-from.count _ (c.in_default.ensures.none refl).0
    (c.loop-from.invariant.total (sym c.next.ensures.all ∙ sym c.are_all.ensures ∙ c.if-are_all.true))
