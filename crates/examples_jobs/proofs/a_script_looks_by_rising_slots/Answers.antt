use Rattle.examples_jobs.proofs.Scripts.{looks_rise}
use Rattle.examples_jobs.proofs.a_script_looks_by_rising_slots.Goals as goal

pub returns : goal.returns
returns c = looks_rise
