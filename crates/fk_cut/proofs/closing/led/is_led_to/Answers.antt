use Rattle.std.proofs.Common.{refl, sym, ◌∙◌}
use Rattle.fk_store.specs.Store.Paths.{path}
use Rattle.fk_store.specs.Store.World.{world, place_of}
use Rattle.fk_store.proofs.InStore.finding.Lefts.{left_more, nobody_left, fewer_left}
use Rattle.fk_cut.proofs.InClosing.Leads.{LeadsIn, led_from, leads_pointed, leads_live, led_by_nothing, not_both}
use Rattle.fk_cut.proofs.closing.led.is_led_to.Goals as goal

pub loop-from-init : goal.loop-from-init
loop-from-init c =
    let m = c.args.store.now in
    record { left = λ all x leads. c.leaders-leaders.ensures all x (leads_pointed (world m) (place_of m c.args.root) (place_of m c.args.target) x leads) }

pub is_met-requires : goal.is_met-requires
is_met-requires c =
    let m = c.args.store.now in
    leads_live m (place_of m c.args.root) (place_of m c.args.target) c.in-Some.from (sym c.leads_in_from.ensures ∙ c.if-leads_in_from.true)

pub returns-then-leads_in_from : goal.returns-then-leads_in_from
returns-then-leads_in_from c =
    let m = c.args.store.now in
    led_from m (place_of m c.args.root) (place_of m c.args.target) c.in-Some.from c.is_met.ensures
    (sym c.leads_in_from.ensures ∙ c.if-leads_in_from.true)

pub loop-from-preserved : goal.loop-from-preserved
loop-from-preserved c =
    let m = c.args.store.now in
    record {
      left = λ all. left_more (path m) (LeadsIn m (place_of m c.args.root) (place_of m c.args.target)) c.in-Some.from _ _ c.in-Some.ensures.some
          (not_both _ (sym c.leads_in_from.ensures ∙ c.if-leads_in_from.false)) (c.loop-from.invariant.left (sym c.next.ensures.all ∙ all));
    }

pub loop-from-smaller : goal.loop-from-smaller
loop-from-smaller c = fewer_left c.in-Some.from _ _ c.in-Some.ensures.some

pub are_all-requires : goal.are_all-requires
are_all-requires c = (c.in_default.ensures.none refl).1

pub returns-then-not-are_all : goal.returns-then-not-are_all
returns-then-not-are_all c = c.is_led_to_by_any.ensures

pub returns-else-not-are_all : goal.returns-else-not-are_all
returns-else-not-are_all c =
    let m = c.args.store.now in
    rw c.if-not-are_all.false (led_by_nothing (world m) (place_of m c.args.root) (place_of m c.args.target)
    (nobody_left (path m) (LeadsIn m (place_of m c.args.root) (place_of m c.args.target)) _ (c.in_default.ensures.none refl).0
    (c.loop-from.invariant.left (sym c.next.ensures.all ∙ sym c.are_all.ensures ∙ c.if-not-are_all.false))))
