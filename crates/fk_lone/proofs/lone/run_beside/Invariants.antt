use Rattle.std.proofs.Common.{◌≡◌, ◌+◌, ◌-◌}
use Rattle.fk_store.specs.Store.World.{world}
use Rattle.fk_lone.specs.LoneThread.{IsAlone}
use Rattle.fk_lone.specs.Lones.{lone_state}
use Rattle.fk_lone.specs.Machine.{run, events}
use Rattle.fk_lone.proofs.lone.run_beside.Given as goal

-- the rest of the budget leads to the end of the whole run, and to its number of instructions
abbrev pub invariant-loop-event : goal.invariant-loop-event
invariant-loop-event l = record {
  alone : IsAlone (world l.store);
  rest : run (l.budget - l.event) (lone_state (world l.store) l.lone) ≡ run l.budget (lone_state (world l.fn.store) l.fn.lone);
  count : l.event + events (l.budget - l.event) (lone_state (world l.store) l.lone) ≡ events l.budget (lone_state (world l.fn.store) l.fn.lone);
}
