-- Each instruction is computed.
use Rattle.std.proofs.Common.{refl}
use Rattle.laws_bursts.specs.Bursts.{run, count}
use Rattle.examples_bursts.proofs.bursts_end.Goals as goal

pub returns-clause-call : goal.returns-clause-call
unfolding run count
returns-clause-call c = refl

pub returns-clause-at_call : goal.returns-clause-at_call
unfolding run count
returns-clause-at_call c = refl

pub returns-clause-halt : goal.returns-clause-halt
unfolding run count
returns-clause-halt c = refl

pub returns-clause-gap : goal.returns-clause-gap
unfolding run count
returns-clause-gap c = refl

pub returns-clause-at_gap : goal.returns-clause-at_gap
unfolding run count
returns-clause-at_gap c = refl
