use Rattle.std.proofs.Common.{refl}
use Rattle.std.proofs.lemmas.Result.{err_from_is_err_and}
use Rattle.fk_migrate.specs.Pairs.{shown}
use Rattle.fk_migrate.proofs.Leading.{leads_to_far}
use Rattle.fk_migrate.proofs.pair.Pair.to_far.Goals as goal

pub returns-in_ok-take-in-Some-clause-leads : goal.returns-in_ok-take-in-Some-clause-leads
returns-in_ok-take-in-Some-clause-leads g c =
    leads_to_far (shown c.args.self.now) _ c.args.number c.in_ok-packet.packet c.packet.ensures.slot c.take.ensures.slot c.packet.ensures.same
    c.take.ensures.same c.in_ok-packet.ensures.packet (λ f is. rw c.in-Some.is (c.in_ok-take-in-Some.ensures.told f is)) c.requires.ready

pub returns-in-None-clause-leads : goal.returns-in-None-clause-leads
returns-in-None-clause-leads g c =
    leads_to_far (shown c.args.self.now) _ c.args.number c.in_ok-packet.packet c.packet.ensures.slot refl c.packet.ensures.same refl
    c.in_ok-packet.ensures.packet (λ f is. rw c.in-None.is is) c.requires.ready

pub returns-in_err-packet-clause-lacking : goal.returns-in_err-packet-clause-lacking
returns-in_err-packet-clause-lacking g c =
    let p = err_from_is_err_and c.from_residual.result c.from_residual.ensures.1 in rw p.1
    (record { slot = c.packet.ensures.slot; far_slot = refl; near = c.packet.ensures.same; far = refl; makes = λ f is. is; events = refl; places = refl })

pub returns-in_err-take-in-Some-clause-lacking : goal.returns-in_err-take-in-Some-clause-lacking
returns-in_err-take-in-Some-clause-lacking g c =
    let p = err_from_is_err_and c.from_residual-in_err-take-in-Some.result c.from_residual-in_err-take-in-Some.ensures.1 in rw p.1
    (record {
      slot = c.packet.ensures.slot;
      far_slot = c.take.ensures.slot;
      near = c.packet.ensures.same;
      far = c.take.ensures.same;
      makes = c.in_err-take-in-Some.ensures.lacking;
      events = refl;
      places = refl;
    })
