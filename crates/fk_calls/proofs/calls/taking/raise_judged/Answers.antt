use Rattle.std.proofs.Common.{◌≡◌, None, [], false, refl, ◌∙◌}
use Rattle.fk_model.specs.Moves.{closed, stepped}
use Rattle.fk_model.specs.Outcomes.Said.{Nothing}
use Rattle.fk_model.specs.World.{apply, apply_all}
use Rattle.fk_model.specs.declared.moves.Ask.TheVariants as asks
use Rattle.fk_model.specs.declared.moves.Move.{Move}
use Rattle.fk_model.specs.declared.moves.Said.TheVariants as says
use Rattle.fk_plans.specs.Plans.Plans.{caller_by}
use Rattle.fk_plans.specs.Plans.Verdicts.{outcome_by}
use Rattle.fk_store.specs.Store.Paths.{path}
use Rattle.fk_store.specs.Store.World.{world}
use Rattle.fk_calls.specs.declared.calls.judging.Judgement.{Judgement}
use Rattle.fk_calls.proofs.InCalls.Judged.{quiet_judged, ready_judged, step_judged, user}
use Rattle.fk_calls.proofs.InCalls.Touches.{touching_by}
use Rattle.fk_calls.proofs.calls.taking.raise_judged.Goals as goal

pub returns-in-Faults-clause-made : goal.returns-in-Faults-clause-made
unfolding apply apply_all
returns-in-Faults-clause-made c =
    let m = c.args.store.now in
    let run : Move = record { who = c.args.who; pick = None } in
    let j : Judgement = record { caller = user c.args.who; chooses = false; verdict = c.args.verdict.now } in
    let ready = (ready_judged m run asks.Run j _ c.requires.judged (c.is_ready.ensures [])).0 (cc) in
    let d = caller_by (path m) (user c.args.who) [] in
    let made : stepped (world m) (closed d (outcome_by (world m) (path m) d c.args.verdict.now)) ≡ record { world = world c.raise.new.self; said = Nothing } =
    rw (c.in-Faults.is, c.raise.ensures.world) refl in
    (ready, step_judged m run asks.Run j c.requires.judged ready ∙ made)

pub returns-in-Faults-clause-ended : goal.returns-in-Faults-clause-ended
unfolding apply apply_all
returns-in-Faults-clause-ended c =
    let m = c.args.store.now in
    let run : Move = record { who = c.args.who; pick = None } in
    let j : Judgement = record { caller = user c.args.who; chooses = false; verdict = c.args.verdict.now } in
    let ready = (ready_judged m run asks.Run j _ c.requires.judged (c.is_ready.ensures [])).0 (cc) in
    let d = caller_by (path m) (user c.args.who) [] in
    let made : stepped (world m) (closed d (outcome_by (world m) (path m) d c.args.verdict.now)) ≡ record { world = world c.raise.new.self; said = Nothing } =
    rw (c.in-Faults.is, c.raise.ensures.world) refl in
    quiet_judged m c.raise.new.self run asks.Run j says.Nothing c.requires.valid c.names.ensures.few (rw c.in-Faults.is refl) c.requires.judged
    (ready, step_judged m run asks.Run j c.requires.judged ready ∙ made)

pub returns-in-Faults-clause-touched : goal.returns-in-Faults-clause-touched
returns-in-Faults-clause-touched c =
    let run : Move = record { who = c.args.who; pick = None } in
    let j : Judgement = record { caller = user c.args.who; chooses = false; verdict = c.args.verdict.now } in
    touching_by c.args.store.now run asks.Run j c.touched_by_move.result c.touched_by_move.ensures.by c.requires.judged

pub returns-in-Faults-clause-few : goal.returns-in-Faults-clause-few
returns-in-Faults-clause-few c = rw (c.touched_by_move.ensures.by, c.in-Faults.is) refl
