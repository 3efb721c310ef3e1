use Rattle.std.proofs.Common.{◌∙◌}
use Rattle.fk_model.specs.Calls.{todo_of}
use Rattle.fk_turns.proofs.InSteps.Wanted.{wants_first, wants_none}
use Rattle.fk_turns.proofs.steps.room.call_wants.Goals as goal

pub returns-in-Some : goal.returns-in-Some
returns-in-Some c = c.makes_object.ensures ∙ wants_first (todo_of c.args.registers.now) _ c.in-Some.ensures

pub returns-in-None : goal.returns-in-None
returns-in-None c = wants_none (todo_of c.args.registers.now) c.in-None.ensures
