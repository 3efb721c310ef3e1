-- Each instruction is computed.
use Rattle.std.proofs.Common.{refl}
use Rattle.laws_bursts.specs.Bursts.{run, count}
use Rattle.examples_bursts.proofs.a_countdown_runs_on.Goals as goal

pub returns-clause-counts : goal.returns-clause-counts
unfolding run count
returns-clause-counts c = refl

pub returns-clause-register : goal.returns-clause-register
unfolding run count
returns-clause-register c = refl

pub returns-clause-counter : goal.returns-clause-counter
unfolding run count
returns-clause-counter c = refl

pub returns-clause-used : goal.returns-clause-used
unfolding run count
returns-clause-used c = refl

pub returns-clause-unused : goal.returns-clause-unused
unfolding run count
returns-clause-unused c = refl
