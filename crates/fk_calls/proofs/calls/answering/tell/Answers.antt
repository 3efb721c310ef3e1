use Rattle.std.proofs.Common.{◌≡◌, ◌||◌, is_none, true, ap, refl, sym, ◌∙◌}
use Rattle.fk_model.specs.Moves.{chooses, closed, stepped}
use Rattle.fk_model.specs.World.{apply_all}
use Rattle.fk_model.specs.declared.moves.Ask.TheVariants as asks
use Rattle.fk_plans.proofs.InPlans.Hearers.{heard_verdict}
use Rattle.fk_plans.specs.Plans.Plans.{caller_by}
use Rattle.fk_plans.specs.Plans.Verdicts.{outcome_by}
use Rattle.fk_plans.specs.declared.plans.plan.Plan.TheVariants as plans
use Rattle.fk_plans.specs.declared.plans.plan.Verdict.TheVariants as verdicts
use Rattle.fk_store.specs.Store.Moves.{said_by}
use Rattle.fk_store.specs.Store.Paths.{path}
use Rattle.fk_store.specs.Store.World.{world}
use Rattle.fk_calls.specs.declared.calls.judging.Judgement.{Judgement}
use Rattle.fk_calls.proofs.InCalls.Judged.{porter, quiet_judged, step_judged, still_ready, still_unready}
use Rattle.fk_calls.proofs.InCalls.Touches.{touching}
use Rattle.fk_calls.proofs.calls.answering.tell.Goals as goal

pub returns-clause-made : goal.returns-clause-made
unfolding apply_all
returns-clause-made c =
    let m = c.args.store.now in
    let move = c.args.m.now in
    let ask = asks.Call c.args.stage.now c.args.words.now in
    let j : Judgement = record { caller = porter move.who; chooses = chooses c.args.stage.now; verdict = verdicts.Done plans.Nothing c.args.answers } in
    let ready = still_ready m move ask (chooses c.args.stage.now) c.args.answers c.requires.judged
    (ap (λ b. b || is_none move.pick) (sym c.chooses.ensures) ∙ sym c.may_pick.ensures ∙ cc) in
    (ready, step_judged m move ask j c.requires.judged ready ∙ rw (c.lay.ensures.said (path m)) refl)

pub returns-then-not-may_pick-clause-unready : goal.returns-then-not-may_pick-clause-unready
returns-then-not-may_pick-clause-unready c = (
  still_unready c.args.store.now c.args.m.now (asks.Call c.args.stage.now c.args.words.now) (chooses c.args.stage.now) c.args.answers c.requires.judged
      (ap (λ b. b || is_none c.args.m.now.pick) (sym c.chooses.ensures) ∙ sym c.may_pick.ensures ∙ cc),
  refl,
)

pub returns-clause-ended : goal.returns-clause-ended
returns-clause-ended c =
    let m = c.args.store.now in
    let j : Judgement = record { caller = porter c.args.m.now.who; chooses = chooses c.args.stage.now; verdict = verdicts.Done plans.Nothing c.args.answers } in
    quiet_judged m m c.args.m.now (asks.Call c.args.stage.now c.args.words.now) j c.lay.new.said c.requires.valid c.names.ensures.few refl c.requires.judged
    (returns-clause-made c)

pub returns-clause-heard : goal.returns-clause-heard
unfolding apply_all
returns-clause-heard c =
    let m = c.args.store.now in
    let who = c.args.m.now.who in
    let v = verdicts.Done plans.Nothing c.args.answers in
    let step : stepped (world m) (closed (caller_by (path m) (porter who) c.args.words.now) (outcome_by (world m) (path m) (caller_by (path m) (porter who) c.args.words.now) v))
    ≡ record { world = world m; said = said_by (path m) c.lay.new.said } = rw (c.lay.ensures.said (path m)) refl in
    heard_verdict (world m) (path m) (path m) who c.args.words.now true v (world m) c.lay.new.said (λ plan n last is. absurd (cc)) tt step

pub returns-clause-touched : goal.returns-clause-touched
returns-clause-touched c =
    let j : Judgement = record { caller = porter c.args.m.now.who; chooses = chooses c.args.stage.now; verdict = verdicts.Done plans.Nothing c.args.answers } in
    touching c.args.store.now c.args.m.now (asks.Call c.args.stage.now c.args.words.now) j c.requires.judged
