use Rattle.std.proofs.Common.{None, [], ◌∙◌}
use Rattle.fk_model.specs.declared.moves.Ask.TheVariants as asks
use Rattle.fk_model.specs.declared.moves.Move.{Move}
use Rattle.fk_model.specs.declared.moves.Said.TheVariants as says
use Rattle.fk_store.specs.Store.Paths.{path, place}
use Rattle.fk_store.specs.Store.World.{world}
use Rattle.fk_calls.specs.declared.calls.judging.Judgement.{Judgement}
use Rattle.fk_calls.proofs.InCalls.Judged.{ended_judged, free_there, ready_judged, step_judged, user}
use Rattle.fk_calls.proofs.InCalls.Chosen.{chosen_judged}
use Rattle.fk_calls.proofs.InCalls.Untold.{on_true}
use Rattle.fk_calls.proofs.InCalls.Touches.{touching_by}
use Rattle.fk_calls.proofs.calls.taking.take_verdict.Goals as goal

pub carry_taking-requires-clause-live : goal.carry_taking-requires-clause-live
carry_taking-requires-clause-live c = free_there (world c.args.store.now) (place (path c.args.store.now) c.args.who) c.requires.free

pub returns-in-None-clause-made : goal.returns-in-None-clause-made
returns-in-None-clause-made c =
    let m = c.args.store.now in
    let run : Move = record { who = c.args.who; pick = c.args.pick } in
    let j : Judgement = record { caller = user c.args.who; chooses = c.chooses.result; verdict = c.args.verdict.now } in
    let judged = chosen_judged m run c.args.stage.now c.args.verdict.now c.chooses.result c.chooses.ensures c.requires.free c.requires.at
    c.requires.row c.requires.fits c.requires.sure in
    let ready = (ready_judged m run asks.Run j _ judged (c.is_ready.ensures [])).0 (cc) in
    on_true c.carry_taking.result (λ step. (ready, step_judged m run asks.Run j judged ready ∙ step)) c.carry_taking.ensures.step

pub returns-in-None-clause-ended : goal.returns-in-None-clause-ended
returns-in-None-clause-ended c =
    let m = c.args.store.now in
    let run : Move = record { who = c.args.who; pick = c.args.pick } in
    let j : Judgement = record { caller = user c.args.who; chooses = c.chooses.result; verdict = c.args.verdict.now } in
    let judged = chosen_judged m run c.args.stage.now c.args.verdict.now c.chooses.result c.chooses.ensures c.requires.free c.requires.at
    c.requires.row c.requires.fits c.requires.sure in
    let ready = (ready_judged m run asks.Run j _ judged (c.is_ready.ensures [])).0 (cc) in
    on_true c.carry_taking.result (λ step. record {
      ending = ended_judged m c.carry_taking.new.store run asks.Run j says.Nothing None judged ready (step_judged m run asks.Run j judged ready ∙ step)
          (c.in-None.ensures.ending []);
      apart = tt;
    }) c.carry_taking.ensures.step

pub returns-in-None-clause-touched : goal.returns-in-None-clause-touched
returns-in-None-clause-touched c =
    let m = c.args.store.now in
    let run : Move = record { who = c.args.who; pick = c.args.pick } in
    let j : Judgement = record { caller = user c.args.who; chooses = c.chooses.result; verdict = c.args.verdict.now } in
    let judged = chosen_judged m run c.args.stage.now c.args.verdict.now c.chooses.result c.chooses.ensures c.requires.free c.requires.at
    c.requires.row c.requires.fits c.requires.sure in
    on_true c.carry_taking.result (λ step. touching_by m run asks.Run j c.touched_by_move.result c.touched_by_move.ensures.by judged)
    c.carry_taking.ensures.step
