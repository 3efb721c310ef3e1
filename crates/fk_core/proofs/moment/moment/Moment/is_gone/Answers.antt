use Rattle.fk_core.proofs.InMoment.Due.{gone_exactly}
use Rattle.fk_core.proofs.moment.moment.Moment.is_gone.Goals as goal

pub returns : goal.returns
returns g c =
    let self = c.args.self.now in
    gone_exactly self.kernel.now.store _ c.args.plan.now.nester c.is_live.result c.store.ensures c.names.ensures.valid c.names.ensures.few c.names.ensures.born c.is_live.ensures
