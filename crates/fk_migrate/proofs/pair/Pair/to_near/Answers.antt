use Rattle.std.proofs.Common.{refl}
use Rattle.std.proofs.lemmas.Result.{err_from_is_err_and}
use Rattle.fk_migrate.specs.Pairs.{shown}
use Rattle.fk_migrate.proofs.Leading.{leads_to_near}
use Rattle.fk_migrate.proofs.pair.Pair.to_near.Goals as goal

pub returns-in_ok-take-in-Some-clause-leads : goal.returns-in_ok-take-in-Some-clause-leads
returns-in_ok-take-in-Some-clause-leads g c =
    leads_to_near (shown c.args.self.now) _ c.args.number c.packet.result c.take.ensures.slot refl refl (λ f is. is) c.packet.ensures
    (rw c.in-Some.is c.in_ok-take-in-Some.ensures.told) c.requires.ready

pub returns-in-None-clause-leads : goal.returns-in-None-clause-leads
returns-in-None-clause-leads g c =
    leads_to_near (shown c.args.self.now) _ c.args.number c.packet.result refl refl refl (λ f is. is) c.packet.ensures (rw c.in-None.is refl) c.requires.ready

pub returns-in_err-take-in-Some-clause-lacking : goal.returns-in_err-take-in-Some-clause-lacking
returns-in_err-take-in-Some-clause-lacking g c =
    let p = err_from_is_err_and c.from_residual.result c.from_residual.ensures.1 in rw p.1
    (record { slot = c.take.ensures.slot; far_slot = refl; near = c.in_err-take-in-Some.ensures.lacking; far = refl; makes = λ f is. is; events = refl; places = refl })
