use Rattle.fk_sides.proofs.Keeping.{listens_still, never_moved, restores_moved}
use Rattle.fk_sides.proofs.far.Far.has_moved.Goals as goal

pub returns-in-Restores : goal.returns-in-Restores
returns-in-Restores c =
    λ f is. restores_moved c.args.self.now.makes c.in-Restores.restore _ c.has_moved.result f c.in-Restores.is (c.has_moved.ensures c.in-Restores.restore) is

pub returns-in-Listens : goal.returns-in-Listens
returns-in-Listens c = λ f is. listens_still c.args.self.now.makes _ f c.in-Listens.is is

pub returns-in-Never : goal.returns-in-Never
returns-in-Never c = λ f is. never_moved c.args.self.now.makes f c.in-Never.is is
