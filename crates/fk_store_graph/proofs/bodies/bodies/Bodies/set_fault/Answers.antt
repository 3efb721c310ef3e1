use Rattle.std.proofs.Common.{is_some, refl, sym, ap}
use Rattle.fk_model.specs.declared.body.Body.TheVariants.{Thread}
use Rattle.fk_store_graph.specs.Leads.Leading.{with_fault}
use Rattle.fk_store_graph.proofs.InBodies.FaultedLaws.{thread_under, thread_unborn, told_still, unmarked}
use Rattle.fk_store_graph.proofs.InBodies.QuietLaws.{gone_there}
use Rattle.fk_store_graph.proofs.InBodies.SetLaws.{set_all, set_body, set_map, set_others}
use Rattle.fk_store_graph.proofs.bodies.bodies.Bodies.set_fault.Goals as goal

pub set_fault-requires-clause-thread : goal.set_fault-requires-clause-thread
set_fault-requires-clause-thread c =
    let t = rw (← c.self.view_is) at c.requires.thread in
    (t.0, thread_under c.self.inside.objects c.args.who c.in-Some.key (sym c.in-Some.ensures.key) t.0 t.1)

pub tell_fault-requires-clause-here : goal.tell_fault-requires-clause-here
tell_fault-requires-clause-here c =
    let o = c.self.inside.objects in
    let t = rw (← c.self.view_is) at c.requires.thread in
    let there = thread_under o c.args.who c.in-Some.key (sym c.in-Some.ensures.key) t.0 t.1 in
    record {
      thread = t.0;
      there = set_body o _ _ _ _ c.filed.ensures c.self.invariant c.args.who c.in-Some.key (with_fault t.0 c.args.fault) (sym c.in-Some.ensures.key)
          c.set_fault.ensures.alike (c.set_fault.ensures.bodies t.0 there);
    }

pub tell_fault-requires-clause-served : goal.tell_fault-requires-clause-served
tell_fault-requires-clause-served c = λ b l is leads.
    let o = c.self.inside.objects in
    let t = rw (← c.self.view_is) at c.requires.thread in
    let there = thread_under o c.args.who c.in-Some.key (sym c.in-Some.ensures.key) t.0 t.1 in
    let now = set_body o _ _ _ _ c.filed.ensures c.self.invariant c.args.who c.in-Some.key (with_fault t.0 c.args.fault) (sym c.in-Some.ensures.key)
    c.set_fault.ensures.alike (c.set_fault.ensures.bodies t.0 there) in
    told_still o _ _ _ _ c.self.invariant c.in-Some.key t.0 c.args.fault there c.set_fault.ensures.alike b l now is leads

pub tell_fault-requires-clause-others : goal.tell_fault-requires-clause-others
tell_fault-requires-clause-others c =
    let o = c.self.inside.objects in
    let t = rw (← c.self.view_is) at c.requires.thread in
    let there = thread_under o c.args.who c.in-Some.key (sym c.in-Some.ensures.key) t.0 t.1 in
    set_others o _ _ _ _ c.filed.ensures c.self.invariant c.args.who c.in-Some.key (with_fault t.0 c.args.fault) (sym c.in-Some.ensures.key)
    c.set_fault.ensures.alike (c.set_fault.ensures.bodies t.0 there)

pub invariant_of-self : goal.invariant_of-self
invariant_of-self c =
    let o = c.self.inside.objects in
    let t = rw (← c.self.view_is) at c.requires.thread in
    let there = thread_under o c.args.who c.in-Some.key (sym c.in-Some.ensures.key) t.0 t.1 in
    let b = with_fault t.0 c.args.fault in
    set_all o _ _ _ _ c.filed.ensures c.self.invariant c.args.who c.in-Some.key b (sym c.in-Some.ensures.key) c.set_fault.ensures.alike
    (c.set_fault.ensures.bodies t.0 there) _ _ c.tell_fault.ensures.same refl refl (λ s m marked. marked)
    (unmarked _ c.args.who t.0 c.args.fault) c.tell_fault.ensures.told _ _ c.set_fault.ensures.rings c.set_fault.ensures.long
    (c.set_fault.ensures.held _ c.self.invariant.held)
    ((rw (← c.self.view_is) at c.requires.leads) t.0 t.1) (thread_unborn _ t.0 c.args.fault t.1)

pub returns-in-Some : goal.returns-in-Some
returns-in-Some c = λ t is.
    let o = c.self.inside.objects in
    let was = rw (← c.self.view_is) at is in
    let there = thread_under o c.args.who c.in-Some.key (sym c.in-Some.ensures.key) t was in
    rw (← c.self.view_is) (set_map o _ _ _ _ c.filed.ensures c.self.invariant c.args.who c.in-Some.key (with_fault t c.args.fault)
    (sym c.in-Some.ensures.key) c.set_fault.ensures.alike (c.set_fault.ensures.bodies t there) _ _ c.tell_fault.ensures.same refl refl
    (λ s m marked. marked) (Thread t) there)

pub returns-in_default : goal.returns-in_default
returns-in_default c = λ t is.
    absurd (gone_there c.self.inside.objects c.args.who c.in_default.ensures.key (ap is_some (rw (← c.self.view_is) at is)))
