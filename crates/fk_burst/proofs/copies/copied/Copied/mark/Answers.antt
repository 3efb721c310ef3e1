use Rattle.std.proofs.Common.{rules}
use Rattle.fk_burst.proofs.InCopies.Places.{marked}
use Rattle.fk_burst.proofs.copies.copied.Copied.mark.Goals as goal

pub returns-clause-burst : goal.returns-clause-burst
returns-clause-burst c = marked c.args.self.now c.args.k (search rules)
