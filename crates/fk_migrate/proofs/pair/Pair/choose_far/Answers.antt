use Rattle.fk_migrate.specs.Pairs.{shown}
use Rattle.fk_migrate.proofs.pair.Pair.choose_far.Goals as goal

pub returns-clause-same : goal.returns-clause-same
returns-clause-same g c = λ i. record (shown c.args.self.now) {
  far_slot = (c.choose.ensures.far i).slot;
  far = c.choose.ensures.same i;
  makes = (c.choose.ensures.far i).makes;
}
