use Rattle.std.proofs.Common.{◌<◌, IsSome, refl, sym, subst, arith}
use Rattle.fk_core.proofs.cores.turns.Core.proceed_by.Goals as goal

pub run_on-made-requires-clause-few : goal.run_on-made-requires-clause-few
run_on-made-requires-clause-few g c =
    let below = c.runner.ensures (subst (λ o. IsSome o) (sym c.in_ok-who.was) refl) in
    let room = c.left.ensures.budget in
    omega (arith, below, room)

pub returns-then-made-eq0-clause-events : goal.returns-then-made-eq0-clause-events
returns-then-made-eq0-clause-events g c =
    let events = c.run_on-made.ensures.events in
    let none = c.if-made-eq0.true in
    omega (arith, events, none)

pub returns-clause-made : goal.returns-clause-made
returns-clause-made g c =
    let below = c.runner.ensures (subst (λ o. IsSome o) (sym c.in_ok-who.was) refl) in
    let room = c.left.ensures.budget in
    let round = c.left.ensures.round in
    let few = c.run_on-made.ensures.few in
    let some : 0 < c.run_on-made.result = omega arith in
    record {
      some = some;
      few = omega (arith, few);
      round = omega (arith, few, round);
      within = omega (arith, few, below, room);
      events = c.run_on-made.ensures.events;
      run = c.run_on-made.ensures.turns some;
    }
