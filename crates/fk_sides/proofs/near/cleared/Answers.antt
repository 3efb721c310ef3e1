use Rattle.fk_sides.proofs.Nearness.{clears_done, clears_on}
use Rattle.fk_sides.proofs.near.cleared.Goals as goal

pub returns-then-more-eq0 : goal.returns-then-more-eq0
returns-then-more-eq0 c = λ i slot status words. clears_done slot i c.args.more status words c.if-more-eq0.true

pub returns-else-more-eq0 : goal.returns-else-more-eq0
returns-else-more-eq0 c = λ i slot status words. clears_on slot i c.args.more status words c.if-more-eq0.false
