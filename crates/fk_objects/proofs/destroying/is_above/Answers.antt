use Rattle.std.proofs.Common.{◌≡◌, sym, ap, ◌∙◌, arith}
use Rattle.fk_store.specs.Store.Paths.{path, place}
use Rattle.fk_store.proofs.InStore.finding.Walks.{path-root}
use Rattle.fk_objects.proofs.Above.{above_none, above_some, above_on}
use Rattle.fk_objects.proofs.destroying.is_above.Goals as goal

pub returns-in-None : goal.returns-in-None
returns-in-None c =
    above_none c.args.object.slot (path c.args.store.now c.args.object.space) _ (path c.args.store.now c.args.space)
    c.in-None.ensures.none c.loop-step.invariant.same

pub returns-then-eq : goal.returns-then-eq
returns-then-eq c =
    let p = path c.args.store.now in
    above_some (place p c.args.object) (p c.loop-step.at) (p c.args.space) c.in-Some.who.slot (p c.in-Some.who.space) c.in-Some.ensures.some.0
    ((c.requires.apart c.in-Some.who).0 ∙ sym c.eq.ensures ∙ c.if-eq.true) c.loop-step.invariant.same

pub loop-step-preserved : goal.loop-step-preserved
loop-step-preserved c =
    let p = path c.args.store.now in
    record {
      steps = omega (arith, c.loop-step.invariant.steps, c.in-Some.ensures.some.2);
      space = c.in-Some.ensures.some.1;
      same = above_on (place p c.args.object) (p c.loop-step.at) (p c.args.space) c.in-Some.who.slot (p c.in-Some.who.space) c.in-Some.ensures.some.0
          ((c.requires.apart c.in-Some.who).0 ∙ sym c.eq.ensures ∙ c.if-eq.false) c.loop-step.invariant.same;
    }

pub returns : goal.returns
returns c =
    let top : c.loop-step.at ≡ 0 = omega (arith, c.loop-step.invariant.steps) in
    above_none c.args.object.slot (path c.args.store.now c.args.object.space) (path c.args.store.now c.loop-step.at)
    (path c.args.store.now c.args.space) (ap (path c.args.store.now) top ∙ path-root c.args.store.now) c.loop-step.invariant.same
