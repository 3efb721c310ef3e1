use Rattle.fk_image.proofs.InPointers.Sets.{inserted}
use Rattle.fk_image.proofs.pointers.places.Places.insert.Goals as goal

pub returns : goal.returns
returns c = inserted c.args.self.now (record { set = c.insert.new.self }) c.args.place c.in_ok-insert.ensures.updates.0
