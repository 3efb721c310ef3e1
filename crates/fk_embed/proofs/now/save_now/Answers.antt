use Rattle.std.proofs.Common.{◌≤◌, subst}
use Rattle.fk_embed.proofs.Ending.{if_ok, save_comes}
use Rattle.fk_embed.specs.Jobs.{ComesTo}
use Rattle.fk_embed.specs.Now.{Saves}
use Rattle.fk_model.specs.declared.limits.TheConstants.{LAST_USER_SLOT}
use Rattle.fk_model.specs.Places.{Path}
use Rattle.fk_jobs.specs.Porters.{state_of}
use Rattle.fk_served.specs.Kernels.{world_of as world}
use Rattle.laws_jobs.specs.Jobs.{MayBegin}
use Rattle.fk_embed.proofs.now.save_now.Goals as goal

pub returns-clause-saved : goal.returns-clause-saved
returns-clause-saved g c =
    let w = world c.args.host.now.kernel in
    let v = world c.to_end.new.host.kernel in
    let job = c.save.result in
    if_ok c.to_end.result (λ finish. ComesTo job.nester w (state_of job.porter) v finish)
    (λ finish. (path : Path) → c.args.slot ≤ LAST_USER_SLOT → MayBegin w path c.args.nester → Saves path c.args.slot w v finish)
    (λ finish comes path low may. save_comes c.args.slot c.args.nester w path low may (state_of job.porter) v finish c.save.ensures.state
    (subst (λ birth. ComesTo birth w (state_of job.porter) v finish) c.save.ensures.nester comes))
    c.to_end.ensures.comes
