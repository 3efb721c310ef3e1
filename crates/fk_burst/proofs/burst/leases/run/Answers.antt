use Rattle.fk_burst.proofs.InBurst.Leasing.{kept_more}
use Rattle.fk_burst.proofs.burst.leases.run.Goals as goal

pub invariant_of-l : goal.invariant_of-l
invariant_of-l c = kept_more c.l.inside.thread c.l.inside.taken c.l.inside.copy c.make.new.copied c.l.inside.count c.make.result c.l.invariant
    c.make.ensures.made c.make.ensures.first
