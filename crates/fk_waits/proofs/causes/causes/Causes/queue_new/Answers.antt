use Rattle.fk_waits.proofs.causes.causes.Causes.queue_new.Goals as goal

pub open-requires : goal.open-requires
open-requires c = record {
  stand = record { list = c.requires.stand.list; standing = c.make_place.ensures.standing c.requires.stand.list c.requires.stand.standing };
  new = c.make_place.ensures.new c.args.name c.requires.new;
  place = c.make_place.ensures.place;
}

pub returns-clause-standing : goal.returns-clause-standing
returns-clause-standing c l standing = c.open.ensures.standing l (c.make_place.ensures.standing l standing)
