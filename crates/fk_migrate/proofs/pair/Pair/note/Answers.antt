use Rattle.fk_migrate.specs.Pairs.{shown}
use Rattle.fk_migrate.proofs.pair.Pair.note.Goals as goal

pub returns : goal.returns
returns g c = λ i. record (shown c.args.self.now) { events = c.push_reserved.ensures.items i; places = c.args.places }
