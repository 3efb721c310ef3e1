use Rattle.std.proofs.Common.{◌+◌}
use Rattle.fk_migrate.proofs.places.Places.far.Goals as goal

pub returns : goal.returns
returns c = λ i. record c.args.self { far = c.args.self.far + 1; make = c.first_at.ensures i; release = c.last_at.ensures i }
