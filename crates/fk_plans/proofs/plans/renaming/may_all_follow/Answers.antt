use Rattle.std.proofs.Common.{refl, sym, ◌∙◌}
use Rattle.fk_model.specs.Freezing.{may_follow}
use Rattle.fk_store.specs.Store.Paths.{path, place}
use Rattle.fk_store.specs.Store.World.{world}
use Rattle.fk_store.proofs.InStore.finding.Lefts.{left_more, nobody_left, fewer_left}
use Rattle.fk_changes.proofs.InDeaths.Sweeps.{IsBarred, none_barred, not_all, not_barred}
use Rattle.fk_changes.proofs.InDeaths.Unheld.{unheld-follows}
use Rattle.fk_plans.proofs.InPlans.Following.{barred_follows}
use Rattle.fk_plans.proofs.plans.renaming.may_all_follow.Goals as goal

pub returns-then-not-is_any_held : goal.returns-then-not-is_any_held
returns-then-not-is_any_held c =
    let me = place (path c.args.store.now) c.args.me in
    let renamed = place (path c.args.store.now) c.args.renamed in
    ((λ yes. unheld-follows (world c.args.store.now) (c.is_any_held.ensures c.if-not-is_any_held.true) me renamed), (λ h. refl))

pub returns-then-not-may_space_follow : goal.returns-then-not-may_space_follow
returns-then-not-may_space_follow c =
    let m = c.args.store.now in
    let found = c.may_space_follow.ensures.forbids c.if-not-may_space_follow.true in
    not_all (may_follow (world m) (place (path m) c.args.me) (place (path m) c.args.renamed)) found.0 found.1

pub loop-other-init : goal.loop-other-init
loop-other-init c = record { left = λ all x barred. c.leaders-leaders.ensures all x barred.0 }

pub loop-other-preserved : goal.loop-other-preserved
loop-other-preserved c =
    let m = c.args.store.now in
    let renamed = place (path m) c.args.renamed in
    let may = may_follow (world m) (place (path m) c.args.me) renamed in
    record {
      left = λ all. left_more (path m) (IsBarred m renamed may) c.in-Some.other _ _ c.in-Some.ensures.some
          (not_barred m renamed may (place (path m) c.in-Some.other) (sym c.may_follow.ensures ∙ c.if-not-may_follow.false))
          (c.loop-other.invariant.left (sym c.next.ensures.all ∙ all));
    }

pub loop-other-smaller : goal.loop-other-smaller
loop-other-smaller c = fewer_left c.in-Some.other _ _ c.in-Some.ensures.some

pub are_all-requires : goal.are_all-requires
are_all-requires c = (c.in_default.ensures.none refl).1

pub returns-then-are_all : goal.returns-then-are_all
returns-then-are_all c =
    let m = c.args.store.now in
    let me = place (path m) c.args.me in
    let renamed = place (path m) c.args.renamed in
    let may = may_follow (world m) me renamed in (
      (λ yes. none_barred m c.args.renamed may (barred_follows (world m) me renamed) c.slots.ensures
          (c.may_space_follow.ensures.allows c.if-not-may_space_follow.false)
          (nobody_left (path m) (IsBarred m renamed may) _ (c.in_default.ensures.none refl).0
          (c.loop-other.invariant.left (sym c.next.ensures.all ∙ sym c.are_all.ensures ∙ c.if-are_all.true)))),
      (λ h. c.if-are_all.true),
    )

pub returns-else-are_all : goal.returns-else-are_all
returns-else-are_all c = c.may_each_follow.ensures
