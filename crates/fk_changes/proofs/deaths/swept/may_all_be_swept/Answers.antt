use Rattle.std.proofs.Common.{refl, sym, ◌∙◌}
use Rattle.fk_model.specs.Freezing.{may_be_swept}
use Rattle.fk_store.specs.Store.Paths.{path, place}
use Rattle.fk_store.specs.Store.World.{world}
use Rattle.fk_store.proofs.InStore.finding.Lefts.{left_more, nobody_left, fewer_left}
use Rattle.fk_changes.proofs.InDeaths.Sweeps.{IsBarred, barred_swept, none_barred, not_all, not_barred}
use Rattle.fk_changes.proofs.InDeaths.Unheld.{unheld-swept}
use Rattle.fk_changes.proofs.deaths.swept.may_all_be_swept.Goals as goal

pub returns-then-not-is_any_held : goal.returns-then-not-is_any_held
returns-then-not-is_any_held c =
    let me = place (path c.args.store.now) c.args.me in
    let gone = place (path c.args.store.now) c.args.gone in
    ((λ yes. unheld-swept (world c.args.store.now) (c.is_any_held.ensures c.if-not-is_any_held.true) me gone), (λ h. refl))

pub returns-then-not-may_space_be_swept : goal.returns-then-not-may_space_be_swept
returns-then-not-may_space_be_swept c =
    let m = c.args.store.now in
    let found = c.may_space_be_swept.ensures.forbids c.if-not-may_space_be_swept.true in
    not_all (may_be_swept (world m) (place (path m) c.args.me) (place (path m) c.args.gone)) found.0 found.1

pub loop-who-init : goal.loop-who-init
loop-who-init c = record { left = λ all x barred. c.leaders-leaders.ensures all x barred.0 }

pub loop-who-preserved : goal.loop-who-preserved
loop-who-preserved c =
    let m = c.args.store.now in
    let gone = place (path m) c.args.gone in
    let may = may_be_swept (world m) (place (path m) c.args.me) gone in
    record {
      left = λ all. left_more (path m) (IsBarred m gone may) c.in-Some.who _ _ c.in-Some.ensures.some
          (not_barred m gone may (place (path m) c.in-Some.who) (sym c.may_be_swept.ensures ∙ c.if-not-may_be_swept.false))
          (c.loop-who.invariant.left (sym c.next.ensures.all ∙ all));
    }

pub loop-who-smaller : goal.loop-who-smaller
loop-who-smaller c = fewer_left c.in-Some.who _ _ c.in-Some.ensures.some

pub are_all-requires : goal.are_all-requires
are_all-requires c = (c.in_default.ensures.none refl).1

pub returns-then-are_all : goal.returns-then-are_all
returns-then-are_all c =
    let m = c.args.store.now in
    let me = place (path m) c.args.me in
    let gone = place (path m) c.args.gone in
    let may = may_be_swept (world m) me gone in (
      (λ yes. none_barred m c.args.gone may (barred_swept (world m) me gone) c.slots.ensures
          (c.may_space_be_swept.ensures.allows c.if-not-may_space_be_swept.false)
          (nobody_left (path m) (IsBarred m gone may) _ (c.in_default.ensures.none refl).0
          (c.loop-who.invariant.left (sym c.next.ensures.all ∙ sym c.are_all.ensures ∙ c.if-are_all.true)))),
      (λ h. c.if-are_all.true),
    )

pub returns-else-are_all : goal.returns-else-are_all
returns-else-are_all c = c.may_each_be_swept.ensures
