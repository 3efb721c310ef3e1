use Rattle.std.proofs.Common.{refl}
use Rattle.fk_model.specs.FaultRows.{fault_done}
use Rattle.fk_faults.proofs.freeing.fault_done.Goals as goal

pub returns-in-None-clause-row : goal.returns-in-None-clause-row
unfolding fault_done
returns-in-None-clause-row c = record {
  outcome = λ words. rw (← c.in-None.ensures.faulter c.requires.valid.consistent) refl;
  fits = tt;
}

pub returns-in-Some-clause-row : goal.returns-in-Some-clause-row
unfolding fault_done
returns-in-Some-clause-row c = record {
  outcome = λ words. rw (← c.in-Some.ensures.faulter c.requires.valid.consistent) (c.frees.ensures.outcome words);
  fits = c.frees.ensures.fits;
}
