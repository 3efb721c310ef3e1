use Rattle.fk_core.specs.Moment.Moments.{seen}
use Rattle.fk_core.proofs.InMoment.Due.{some_other}
use Rattle.fk_core.proofs.moment.moment.Moment.is_other_ready.Goals as goal

pub returns : goal.returns
returns g c =
    let self = c.args.self.now in
    some_other self.jobs.now.jobs (seen self) c.find_other.result c.find_other.ensures.other c.find_other.ensures.none _ c.is_some.ensures
