use Rattle.std.proofs.Common.{ℕ, List, ap, sym, subst, ◌∙◌}
use Rattle.fk_waits.specs.Causes.Causes.{AreStanding, Stand}
use Rattle.fk_waits.specs.Causes.Names.{key_at}
use Rattle.fk_waits.specs.declared.causes.names.Name.{Name}
use Rattle.fk_waits.proofs.InCauses.Placed.{with_both}
use Rattle.fk_waits.proofs.InCauses.Steps.{found_cause, found_so}
use Rattle.fk_waits.proofs.causes.causes.Causes.queue_named.Goals as goal

pub returns-in-Some-clause-standing : goal.returns-in-Some-clause-standing
returns-in-Some-clause-standing c l standing =
    let q = c.args.self.now in
    let near = c.in-Some.ensures in
    subst (λ (n : List Name × ℕ). AreStanding (with_both q q.queues n) c.in-Some.head l) (sym near.same)
    (found_so q c.in-Some.head c.args.name near.found l standing)

pub returns-in-Some-clause-cause : goal.returns-in-Some-clause-cause
returns-in-Some-clause-cause c = found_cause c.args.self.now c.in-Some.head c.args.name c.in-Some.ensures.found c.requires

pub queue_new-requires : goal.queue_new-requires
queue_new-requires c =
    let q = c.args.self.now in
    let near = c.in-None.ensures in
    record {
      stand = subst (λ (n : List Name × ℕ). Stand (with_both q q.queues n) q.ready) (sym near.same) c.requires;
      new = ap (λ (n : List Name × ℕ). key_at n.0 c.args.name) near.same ∙ sym near.found;
    }

pub returns-in-None-clause-standing : goal.returns-in-None-clause-standing
returns-in-None-clause-standing c l standing =
    let q = c.args.self.now in
    c.queue_new.ensures.standing l
    (subst (λ (n : List Name × ℕ). AreStanding (with_both q q.queues n) q.ready l) (sym c.in-None.ensures.same) standing)
