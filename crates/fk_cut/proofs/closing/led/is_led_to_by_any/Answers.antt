use Rattle.std.proofs.Common.{Some, sym, subst, ◌∙◌}
use Rattle.fk_store.specs.Store.World.{place_of, IsLive}
use Rattle.fk_changes.proofs.InDeaths.Scans.{ArePassed, passed_more}
use Rattle.fk_cut.proofs.InClosing.Leads.{IsHarmless, first_live, led_from, led_by_none}
use Rattle.fk_cut.proofs.closing.led.is_led_to_by_any.Goals as goal

pub returns-then-leads_in_from : goal.returns-then-leads_in_from
returns-then-leads_in_from c =
    let m = c.args.store.now in
    led_from m (place_of m c.args.root) (place_of m c.args.target) c.in-Some.from c.is_met.ensures
    (sym c.leads_in_from.ensures ∙ c.if-leads_in_from.true)

pub loop-at-preserved : goal.loop-at-preserved
loop-at-preserved c =
    let m = c.args.store.now in
    let Fact = IsHarmless m (place_of m c.args.root) (place_of m c.args.target) in
    let next = c.after-at-in-Some in
    record {
      live = first_live (IsLive m) (Some c.in-Some.from) next.result next.ensures.first;
      passed = passed_more (IsLive m) (IsLive m) Fact Fact c.in-Some.from next.result
          (subst (ArePassed (IsLive m) Fact) c.in-Some.is c.loop-at.invariant.passed) (λ other live. live) (λ other fact. fact)
          (sym c.leads_in_from.ensures ∙ c.if-leads_in_from.false) next.ensures.first;
    }

pub returns : goal.returns
returns c =
    let m = c.args.store.now in
    led_by_none m (place_of m c.args.root) (place_of m c.args.target) c.after-at.ensures.named
    (subst (ArePassed (IsLive m) (IsHarmless m (place_of m c.args.root) (place_of m c.args.target))) c.in_default.is c.loop-at.invariant.passed)
