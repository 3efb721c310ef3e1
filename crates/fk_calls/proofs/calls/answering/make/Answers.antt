use Rattle.std.proofs.Common.{true, refl, ◌∙◌}
use Rattle.fk_model.specs.declared.moves.Ask.TheVariants as asks
use Rattle.fk_model.specs.Moves.{chooses}
use Rattle.fk_store.specs.Store.Paths.{path}
use Rattle.fk_store.specs.Store.World.{world}
use Rattle.fk_plans.proofs.InPlans.Hearers.{heard_verdict}
use Rattle.fk_calls.specs.declared.calls.judging.Judgement.{Judgement}
use Rattle.fk_calls.proofs.InCalls.Judged.{porter, ended_judged, ready_judged, step_judged}
use Rattle.fk_calls.proofs.InCalls.Touches.{touching_by}
use Rattle.fk_calls.proofs.calls.answering.make.Goals as goal

pub returns-clause-made : goal.returns-clause-made
returns-clause-made c =
    let m = c.args.store.now in
    let move = c.args.m.now in
    let ask = asks.Call c.args.stage.now c.args.words.now in
    let j : Judgement = record { caller = porter move.who; chooses = chooses c.args.stage.now; verdict = c.args.verdict.now } in
    let judged = c.requires.judged in
    let ready = (ready_judged m move ask j _ judged (rw c.chooses.ensures at c.is_ready.ensures c.args.words.now)).0 (cc) in
    (ready, step_judged m move ask j judged ready ∙ c.in_ok-answer.ensures.step)

pub returns-then-not-is_ready-clause-unready : goal.returns-then-not-is_ready-clause-unready
returns-then-not-is_ready-clause-unready c =
    let m = c.args.store.now in
    let move = c.args.m.now in
    let ask = asks.Call c.args.stage.now c.args.words.now in
    let j : Judgement = record { caller = porter move.who; chooses = chooses c.args.stage.now; verdict = c.args.verdict.now } in
    let ready = (ready_judged m move ask j _ c.requires.judged (rw c.chooses.ensures at c.is_ready.ensures c.args.words.now)).1 in
    ((λ r. let yes = ready r in absurd (cc)), refl)

pub returns-clause-ended : goal.returns-clause-ended
returns-clause-ended c =
    let made = returns-clause-made c in
    let j : Judgement = record { caller = porter c.args.m.now.who; chooses = chooses c.args.stage.now; verdict = c.args.verdict.now } in
    record {
      ending = ended_judged c.args.store.now c.answer.new.store c.args.m.now (asks.Call c.args.stage.now c.args.words.now) j _ _ c.requires.judged made.0 made.1
          (c.ended_by-told.ensures.ending c.args.words.now);
      apart = c.ended_by-told.ensures.apart;
    }

pub returns-clause-heard : goal.returns-clause-heard
returns-clause-heard c =
    let m = c.args.store.now in
    heard_verdict (world m) (path m) (path c.answer.new.store) c.args.m.now.who c.args.words.now true c.args.verdict.now _ _
    (λ plan n last is. let porter_is = (rw is at c.requires.judged.fits).0 in absurd (cc))
    c.apart.ensures c.in_ok-answer.ensures.step

pub returns-clause-touched : goal.returns-clause-touched
returns-clause-touched c =
    let j : Judgement = record { caller = porter c.args.m.now.who; chooses = chooses c.args.stage.now; verdict = c.args.verdict.now } in
    touching_by c.args.store.now c.args.m.now (asks.Call c.args.stage.now c.args.words.now) j c.touched_by_move.result c.touched_by_move.ensures.by
    c.requires.judged
