use Rattle.fk_turns.proofs.InSteps.Wanted.{wants_calling, wants_halted, wants_native, wants_running}
use Rattle.fk_turns.proofs.steps.room.thread_wants.Goals as goal

pub returns-in-Calling : goal.returns-in-Calling
returns-in-Calling c w x p there = wants_calling w x p c.args.thread.now there c.call_wants.result c.in-Calling.is c.call_wants.ensures

pub returns-in-Running : goal.returns-in-Running
returns-in-Running c w x p there = wants_running w x p c.args.thread.now there c.in-Running.is

pub returns-in-Halted : goal.returns-in-Halted
returns-in-Halted c w x p there = wants_halted w x p c.args.thread.now there _ c.in-Halted.is

pub returns-in-Native : goal.returns-in-Native
returns-in-Native c w x p there = wants_native w x p c.args.thread.now there c.in-Native.is
