use Rattle.std.proofs.Common.{◌≡◌, ◌-◌, ◌+◌, suc, true, rules, sym, ◌∙◌, arith}
use Rattle.fk_store.specs.Store.World.{world}
use Rattle.fk_lone.specs.Lones.{lone_state}
use Rattle.fk_lone.specs.Machine.{State, is_running}
use Rattle.fk_lone.proofs.Runs.{run_more, run_none, events_more, events_none}
use Rattle.fk_lone.proofs.lone.run_beside.Goals as goal

pub loop-event-preserved : goal.loop-event-preserved
loop-event-preserved c =
    let n = c.args.budget - c.loop-event.event in
    let k = c.args.budget - (c.loop-event.event + 1) in
    let s : State = lone_state (world c.loop-event.store) c.loop-event.lone in
    let more : n ≡ suc k = omega arith in
    let running : is_running s ≡ true = search rules in
    record {
      alone = c.instruct.ensures.alone;
      rest = rw c.instruct.ensures.state (run_more n k s more running ∙ c.loop-event.invariant.rest);
      count = rw c.instruct.ensures.state (omega (arith, events_more n k s more running, c.loop-event.invariant.count));
    }

pub returns-clause-state : goal.returns-clause-state
returns-clause-state c = sym (run_none _ _ (omega arith)) ∙ c.loop-event.invariant.rest

pub returns-clause-count : goal.returns-clause-count
returns-clause-count c =
    let s : State = lone_state (world c.loop-event.store) c.loop-event.lone in
    omega (arith, events_none (c.args.budget - c.loop-event.event) s (omega arith), c.loop-event.invariant.count)
