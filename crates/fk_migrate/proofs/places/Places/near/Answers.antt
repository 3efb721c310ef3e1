use Rattle.std.proofs.Common.{◌+◌}
use Rattle.fk_migrate.proofs.places.Places.near.Goals as goal

pub returns : goal.returns
returns c = λ i. record c.args.self { near = c.args.self.near + 1; hold = c.first_at.ensures i }
