use Rattle.std.proofs.Common.{refl}
use Rattle.std.proofs.lemmas.Result.{err_from_is_err_and}
use Rattle.fk_migrate.specs.Pairs.{shown}
use Rattle.fk_migrate.proofs.Stepping.{near_may}
use Rattle.fk_migrate.proofs.Leading.{leads_near}
use Rattle.fk_migrate.proofs.pair.Pair.near_move.Goals as goal

pub turn-requires-clause-ready : goal.turn-requires-clause-ready
turn-requires-clause-ready g c = (near_may (shown c.args.self.now) c.args.m.now c.requires.run c.requires.ready).0

pub turn-requires-clause-fit : goal.turn-requires-clause-fit
turn-requires-clause-fit g c = (near_may (shown c.args.self.now) c.args.m.now c.requires.run c.requires.ready).1

pub returns-clause-leads : goal.returns-clause-leads
returns-clause-leads g c = leads_near (shown c.args.self.now) _ c.args.m.now c.turn.ensures.slot refl c.in_ok-turn.ensures.lands refl (λ f is. is) c.requires.ready

pub returns-in_err-turn-clause-lacking : goal.returns-in_err-turn-clause-lacking
returns-in_err-turn-clause-lacking g c =
    let p = err_from_is_err_and c.from_residual.result c.from_residual.ensures.1 in rw p.1
    (record { slot = c.turn.ensures.slot; far_slot = refl; near = c.in_err-turn.ensures.lacking; far = refl; makes = λ f is. is; events = refl; places = refl })
