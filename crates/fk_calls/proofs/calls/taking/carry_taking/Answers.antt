use Rattle.fk_calls.proofs.calls.taking.carry_taking.Goals as goal

pub returns-in-Done-clause-step : goal.returns-in-Done-clause-step
returns-in-Done-clause-step c = rw c.in-Done.is c.finish_silently.ensures.step

pub returns-in-Ends-clause-step : goal.returns-in-Ends-clause-step
returns-in-Ends-clause-step c = rw c.in-Ends.is c.end_silently.ensures.step
