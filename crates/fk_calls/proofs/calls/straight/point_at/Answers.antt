use Rattle.std.proofs.Common.{◌≡◌, true, None, refl, sym, ◌∙◌}
use Rattle.fk_model.specs.declared.moves.Ask.TheVariants as asks
use Rattle.fk_model.specs.Moves.{chooses, closed, stepped}
use Rattle.fk_model.specs.World.{apply_all}
use Rattle.fk_plans.proofs.InPlans.Hearers.{heard_verdict}
use Rattle.fk_plans.specs.Plans.Plans.{caller_by}
use Rattle.fk_plans.specs.Plans.Verdicts.{outcome_by}
use Rattle.fk_store.specs.Store.Moves.{said_by}
use Rattle.fk_store.specs.Store.Paths.{path}
use Rattle.fk_store.specs.Store.World.{world}
use Rattle.fk_calls.specs.Acts.Endings.{IsLeft}
use Rattle.fk_calls.specs.declared.calls.judging.Judgement.{Judgement}
use Rattle.fk_calls.proofs.InCalls.Judged.{porter, quiet_judged, ready_judged, step_judged}
use Rattle.fk_calls.proofs.InCalls.Touches.{touching_by}
use Rattle.std.proofs.Common.{Some}
use Rattle.fk_plans.specs.declared.wakes.touching.Touched.{Touched}
use Rattle.fk_plans.specs.declared.wakes.touching.Touched.TheVariants.{Few}
use Rattle.fk_plans.specs.Wakes.Touches.{judged}
use Rattle.fk_calls.proofs.calls.straight.point_at.Goals as goal

pub point-requires : goal.point-requires
point-requires c = record { to = (rw c.requires.set at c.requires.judged.fits).0.1 }

pub returns-clause-made : goal.returns-clause-made
unfolding apply_all
returns-clause-made c =
    let m = c.args.store.now in
    let n = c.point.new.self in
    let move = c.args.m.now in
    let ask = asks.Call c.args.stage.now c.args.words.now in
    let v = c.args.verdict.now in
    let by = caller_by (path m) (porter move.who) c.args.words.now in
    let j : Judgement = record { caller = porter move.who; chooses = chooses c.args.stage.now; verdict = v } in
    let judged = c.requires.judged in
    let ready = (ready_judged m move ask j _ judged (rw c.chooses.ensures at c.is_pointing_ready.ensures c.args.words.now)).0 (cc) in
    let step : stepped (world m) (closed by (outcome_by (world m) (path m) by v)) ≡ record { world = world n; said = said_by (path n) c.lay.new.said }
    = rw (c.requires.set, c.point.ensures.world, c.lay.ensures.said (path n)) refl in
    (ready, step_judged m move ask j judged ready ∙ step)

pub returns-then-not-is_pointing_ready-clause-unready : goal.returns-then-not-is_pointing_ready-clause-unready
returns-then-not-is_pointing_ready-clause-unready c =
    let m = c.args.store.now in
    let move = c.args.m.now in
    let ask = asks.Call c.args.stage.now c.args.words.now in
    let j : Judgement = record { caller = porter move.who; chooses = chooses c.args.stage.now; verdict = c.args.verdict.now } in
    let ready = (ready_judged m move ask j _ c.requires.judged (rw c.chooses.ensures at c.is_pointing_ready.ensures c.args.words.now)).1 in
    ((λ r. let yes = ready r in absurd (cc)), refl)

pub returns-clause-ended : goal.returns-clause-ended
returns-clause-ended c =
    let m = c.args.store.now in
    let j : Judgement = record { caller = porter c.args.m.now.who; chooses = chooses c.args.stage.now; verdict = c.args.verdict.now } in
    let left : IsLeft (world m) (path m) c.args.verdict.now None = rw c.requires.set refl in
    quiet_judged m c.point.new.self c.args.m.now (asks.Call c.args.stage.now c.args.words.now) j c.lay.new.said c.requires.valid c.names.ensures.few left
    c.requires.judged (returns-clause-made c)

pub returns-clause-heard : goal.returns-clause-heard
unfolding apply_all
returns-clause-heard c =
    let m = c.args.store.now in
    let n = c.point.new.self in
    let who = c.args.m.now.who in
    let v = c.args.verdict.now in
    let by = caller_by (path m) (porter who) c.args.words.now in
    let step : stepped (world m) (closed by (outcome_by (world m) (path m) by v)) ≡ record { world = world n; said = said_by (path n) c.lay.new.said }
    = rw (c.requires.set, c.point.ensures.world, c.lay.ensures.said (path n)) refl in
    heard_verdict (world m) (path m) (path n) who c.args.words.now true v (world n) c.lay.new.said
    (λ plan news last is. let never = sym c.requires.set ∙ is in absurd (cc)) (rw c.requires.set tt) step

pub returns-clause-touched : goal.returns-clause-touched
returns-clause-touched c =
    let v = c.args.verdict.now in
    let j : Judgement = record { caller = porter c.args.m.now.who; chooses = chooses c.args.stage.now; verdict = v } in
    let told : Touched = Few (Some c.args.set.object) None None in
    let same : told ≡ judged v = rw c.requires.set refl in
    touching_by c.args.store.now c.args.m.now (asks.Call c.args.stage.now c.args.words.now) j told same c.requires.judged
