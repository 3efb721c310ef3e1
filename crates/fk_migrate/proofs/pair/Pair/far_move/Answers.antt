use Rattle.std.proofs.Common.{refl}
use Rattle.std.proofs.lemmas.Result.{err_from_is_err_and}
use Rattle.fk_migrate.specs.Pairs.{shown}
use Rattle.fk_migrate.proofs.Stepping.{far_may, same_makes}
use Rattle.fk_migrate.proofs.Leading.{leads_far}
use Rattle.fk_migrate.proofs.pair.Pair.far_move.Goals as goal

pub turn-requires-clause-ready : goal.turn-requires-clause-ready
turn-requires-clause-ready g c = far_may (shown c.args.self.now) c.args.m.now c.requires.run c.requires.ready

pub returns-clause-leads : goal.returns-clause-leads
returns-clause-leads g c = leads_far (shown c.args.self.now) _ c.args.m.now refl c.turn.ensures.slot c.in_ok-turn.ensures.lands refl c.requires.ready

pub returns-in_err-turn-clause-lacking : goal.returns-in_err-turn-clause-lacking
returns-in_err-turn-clause-lacking g c =
    let p = err_from_is_err_and c.from_residual.result c.from_residual.ensures.1 in rw p.1
    (record {
      slot = refl;
      far_slot = c.turn.ensures.slot;
      near = refl;
      far = c.in_err-turn.ensures.lacking;
      makes = same_makes _ _ c.in_err-turn.ensures.lacking_side;
      events = refl;
      places = refl;
    })
