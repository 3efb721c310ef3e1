use Rattle.std.proofs.Common.{subst}
use Rattle.fk_embed.proofs.Ending.{if_ok, restore_comes}
use Rattle.fk_embed.specs.Jobs.{ComesTo}
use Rattle.fk_embed.specs.Now.{Restores}
use Rattle.fk_model.specs.Places.{Path}
use Rattle.fk_jobs.specs.Porters.{state_of}
use Rattle.fk_served.specs.Kernels.{world_of as world}
use Rattle.laws_jobs.specs.Jobs.{MayBegin}
use Rattle.fk_embed.proofs.now.restore_now.Goals as goal

pub returns-clause-restored : goal.returns-clause-restored
returns-clause-restored g c =
    let w = world c.args.host.now.kernel in
    let v = world c.to_end.new.host.kernel in
    let job = c.restore.result in
    if_ok c.to_end.result (λ finish. ComesTo job.nester w (state_of job.porter) v finish)
    (λ finish. (path : Path) → MayBegin w path c.args.nester → Restores path c.args.slot c.args.pairs c.args.image w v finish)
    (λ finish comes path may. restore_comes c.args.slot c.args.nester c.args.image c.args.pairs w path c.requires.job may (state_of job.porter) v finish
    c.restore.ensures.state (subst (λ birth. ComesTo birth w (state_of job.porter) v finish) c.restore.ensures.nester comes))
    c.to_end.ensures.comes
