use Rattle.std.proofs.Common.{◌||◌, is_none, true, ap, refl, sym, ◌∙◌}
use Rattle.fk_model.specs.declared.moves.Ask.TheVariants as asks
use Rattle.fk_model.specs.Moves.{chooses}
use Rattle.fk_plans.proofs.InPlans.Hearers.{heard_verdict}
use Rattle.fk_store.specs.Store.Paths.{path}
use Rattle.fk_store.specs.Store.World.{world}
use Rattle.fk_calls.specs.declared.calls.judging.Judgement.{Judgement}
use Rattle.fk_calls.proofs.InCalls.Judged.{porter, quiet_judged, step_judged}
use Rattle.fk_calls.proofs.InCalls.Quiet.{quiet_ready, quiet_unready, quiet_left, quiet_unheard}
use Rattle.fk_calls.proofs.InCalls.Touches.{quiet_touches, touching_by}
use Rattle.std.proofs.Common.{None}
use Rattle.fk_plans.specs.declared.wakes.touching.Touched.TheVariants.{Few}
use Rattle.fk_calls.proofs.calls.straight.show.Goals as goal

pub returns-clause-made : goal.returns-clause-made
returns-clause-made c =
    let m = c.args.store.now in
    let move = c.args.m.now in
    let ask = asks.Call c.args.stage.now c.args.words.now in
    let j : Judgement = record { caller = porter move.who; chooses = chooses c.args.stage.now; verdict = c.args.verdict.now } in
    let ready = quiet_ready m move ask (chooses c.args.stage.now) c.args.verdict.now c.requires.quiet c.requires.judged
    (ap (λ b. b || is_none move.pick) (sym c.chooses.ensures) ∙ sym c.may_pick.ensures ∙ cc) in
    (ready, step_judged m move ask j c.requires.judged ready ∙ c.in_ok-answer.ensures.step)

pub returns-then-not-may_pick-clause-unready : goal.returns-then-not-may_pick-clause-unready
returns-then-not-may_pick-clause-unready c = (
  quiet_unready c.args.store.now c.args.m.now (asks.Call c.args.stage.now c.args.words.now) (chooses c.args.stage.now) c.args.verdict.now c.requires.quiet
      c.requires.judged (ap (λ b. b || is_none c.args.m.now.pick) (sym c.chooses.ensures) ∙ sym c.may_pick.ensures ∙ cc),
  refl,
)

pub returns-clause-ended : goal.returns-clause-ended
returns-clause-ended c =
    let m = c.args.store.now in
    let j : Judgement = record { caller = porter c.args.m.now.who; chooses = chooses c.args.stage.now; verdict = c.args.verdict.now } in
    quiet_judged m c.answer.new.store c.args.m.now (asks.Call c.args.stage.now c.args.words.now) j _ c.requires.valid c.names.ensures.few
    (quiet_left (world m) (path m) c.args.verdict.now c.requires.quiet) c.requires.judged (returns-clause-made c)

pub returns-clause-heard : goal.returns-clause-heard
returns-clause-heard c =
    let m = c.args.store.now in
    heard_verdict (world m) (path m) (path c.answer.new.store) c.args.m.now.who c.args.words.now true c.args.verdict.now _ _
    (λ plan news last is. let loud = rw is at c.requires.quiet in absurd (cc))
    (rw (quiet_unheard c.args.verdict.now c.requires.quiet) tt) c.in_ok-answer.ensures.step

pub returns-clause-touched : goal.returns-clause-touched
returns-clause-touched c =
    let v = c.args.verdict.now in
    let j : Judgement = record { caller = porter c.args.m.now.who; chooses = chooses c.args.stage.now; verdict = v } in
    touching_by c.args.store.now c.args.m.now (asks.Call c.args.stage.now c.args.words.now) j (Few None None None) (quiet_touches v c.requires.quiet)
    c.requires.judged
