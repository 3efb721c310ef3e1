use Rattle.fk_burst.proofs.InBurst.Leasing.{kept_fresh}
use Rattle.fk_burst.proofs.burst.leases.Leased.blank.Goals as goal

pub invariant_of-result : goal.invariant_of-result
invariant_of-result c = kept_fresh _ c.blank-taken.result c.blank-taken.ensures.unused c.blank-taken.ensures.first
