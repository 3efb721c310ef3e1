use Rattle.std.proofs.Common.{refl}
use Rattle.std.proofs.lemmas.Result.{err_from_is_err_and}
use Rattle.fk_migrate.specs.Pairs.{shown}
use Rattle.fk_migrate.proofs.Leading.{leads_give_up}
use Rattle.fk_migrate.proofs.pair.Pair.give_up.Goals as goal

pub returns-clause-leads : goal.returns-clause-leads
returns-clause-leads g c =
    leads_give_up (shown c.args.self.now) _ c.give_up.ensures.slot refl refl (λ f is. is) c.in_ok-give_up.ensures.told c.requires.ready

pub returns-in_err-give_up-clause-lacking : goal.returns-in_err-give_up-clause-lacking
returns-in_err-give_up-clause-lacking g c =
    let p = err_from_is_err_and c.from_residual.result c.from_residual.ensures.1 in rw p.1
    (record { slot = c.give_up.ensures.slot; far_slot = refl; near = c.in_err-give_up.ensures.lacking; far = refl; makes = λ f is. is; events = refl; places = refl })
