use Rattle.fk_turns.proofs.InWhys.Reasons.{first_shown, none_shown}
use Rattle.fk_turns.proofs.whys.stages.first_named.Goals as goal

pub returns-in-Some : goal.returns-in-Some
returns-in-Some c = first_shown c.args.registers.now c.in-Some.stages c.first_of.result c.in-Some.ensures c.first_of.ensures

pub returns-in-None : goal.returns-in-None
returns-in-None c = none_shown c.args.registers.now c.in-None.ensures
