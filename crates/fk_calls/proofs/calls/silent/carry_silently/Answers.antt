use Rattle.fk_calls.proofs.calls.silent.carry_silently.Goals as goal

pub returns-in-Done-clause-step : goal.returns-in-Done-clause-step
returns-in-Done-clause-step c = rw c.in-Done.is c.finish_silently.ensures.step

pub returns-in-Destroys-clause-step : goal.returns-in-Destroys-clause-step
returns-in-Destroys-clause-step c = rw c.in-Destroys.is c.destroy_silently.ensures.step

pub returns-in-Renames-clause-step : goal.returns-in-Renames-clause-step
returns-in-Renames-clause-step c = rw c.in-Renames.is c.rename_silently.ensures.step
