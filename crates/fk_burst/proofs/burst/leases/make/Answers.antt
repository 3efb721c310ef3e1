use Rattle.std.proofs.Common.{subst, ◌≡◌, ◌-◌, ◌+◌, suc, Some, rules, sym, ◌∙◌, arith}
use Rattle.laws_bursts.specs.Bursts.{instructed, made}
use Rattle.fk_burst.specs.Copies.Copies.{burst_of}
use Rattle.fk_burst.proofs.InBurst.Runs.{run_more, run_none, count_more, count_none, made_more}
use Rattle.fk_burst.proofs.burst.leases.make.Goals as goal

pub loop-event-preserved : goal.loop-event-preserved
loop-event-preserved c =
    let event = c.loop-event.event in
    let n = c.args.most - event in
    let k = c.args.most - (event + 1) in
    let here = burst_of c.loop-event.copied in
    let there = burst_of c.instruct.new.self in
    let more : n ≡ suc k = omega arith in
    let next : instructed here ≡ Some there = search rules in
    record {
      made = made_more event _ here there c.loop-event.invariant.made next;
      first = search rules;
      rest = run_more n k here there more next ∙ c.loop-event.invariant.rest;
      count = omega (arith, count_more n k here there more next, c.loop-event.invariant.count);
    }

pub returns-clause-made : goal.returns-clause-made
returns-clause-made c =
    let all : c.args.most ≡ c.loop-event.event = omega arith in
    subst (λ n. made n (burst_of c.args.copied.now) ≡ Some (burst_of c.loop-event.copied)) (sym all) c.loop-event.invariant.made

pub returns-clause-run : goal.returns-clause-run
returns-clause-run c = sym (run_none (c.args.most - c.loop-event.event) _ (omega arith)) ∙ c.loop-event.invariant.rest

pub returns-clause-count : goal.returns-clause-count
returns-clause-count c =
    omega (arith, count_none (c.args.most - c.loop-event.event) (burst_of c.loop-event.copied) (omega arith), c.loop-event.invariant.count)
