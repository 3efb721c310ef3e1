use Rattle.std.proofs.Common.{false, None, refl, ◌∙◌}
use Rattle.fk_model.specs.declared.moves.Said.TheVariants as says
use Rattle.fk_store.specs.Store.Paths.{path}
use Rattle.fk_store.specs.Store.World.{world}
use Rattle.fk_calls.specs.Acts.Endings.{IsLeft}
use Rattle.fk_plans.proofs.InPlans.Moved.{each, fits_plan}
use Rattle.fk_plans.specs.Plans.Movings.{plan_of, verdict_of}
use Rattle.fk_calls.specs.declared.calls.judging.Judgement.{Judgement}
use Rattle.fk_calls.specs.Calls.Judgements.{words_of}
use Rattle.fk_calls.proofs.InCalls.Judged.{user, free_there, quiet_judged, ready_judged, step_judged}
use Rattle.fk_calls.proofs.InCalls.Touches.{moving_judged, touching_by}
use Rattle.std.proofs.Common.{Some, sym}
use Rattle.fk_plans.specs.declared.wakes.touching.Touched.TheVariants.{Few}
use Rattle.fk_calls.proofs.calls.moves.attempt_moving.Goals as goal

pub is_moving_ready-requires-clause-free : goal.is_moving_ready-requires-clause-free
is_moving_ready-requires-clause-free c = c.requires.judged.free

pub move_words-requires-clause-live : goal.move_words-requires-clause-live
move_words-requires-clause-live c = free_there _ _ (c.requires.judged.free refl)

pub move_words-requires-clause-fits : goal.move_words-requires-clause-fits
move_words-requires-clause-fits c =
    fits_plan c.args.store.now (user c.args.m.now.who) c.args.moving.now.last (plan_of c.args.moving.now) c.requires.judged.fits

pub returns-clause-made : goal.returns-clause-made
returns-clause-made c =
    let judged = c.requires.judged in
    let j : Judgement = record { caller = user c.args.m.now.who; chooses = false; verdict = verdict_of c.args.moving.now } in
    let ready = (ready_judged c.args.store.now c.args.m.now c.args.ask.now j _ judged (c.is_moving_ready.ensures (words_of c.args.ask.now))).0 (cc) in
    (ready, step_judged c.args.store.now c.args.m.now c.args.ask.now j judged ready ∙ c.move_words.ensures.step (words_of c.args.ask.now))

pub returns-then-not-is_moving_ready-clause-unready : goal.returns-then-not-is_moving_ready-clause-unready
returns-then-not-is_moving_ready-clause-unready c =
    let judged = c.requires.judged in
    let j : Judgement = record { caller = user c.args.m.now.who; chooses = false; verdict = verdict_of c.args.moving.now } in
    let ready = (ready_judged c.args.store.now c.args.m.now c.args.ask.now j _ judged (c.is_moving_ready.ensures (words_of c.args.ask.now))).1 in
    ((λ r. let yes = ready r in absurd (cc)), refl)

pub returns-clause-ended : goal.returns-clause-ended
returns-clause-ended c =
    let m = c.args.store.now in
    let moving = c.args.moving.now in
    let j : Judgement = record { caller = user c.args.m.now.who; chooses = false; verdict = verdict_of moving } in
    quiet_judged m c.move_words.new.store c.args.m.now c.args.ask.now j says.Nothing c.requires.valid c.names.ensures.few
    (each (λ v. IsLeft (world m) (path m) v None) moving.last (plan_of moving) refl refl) c.requires.judged (returns-clause-made c)

pub returns-clause-touched : goal.returns-clause-touched
returns-clause-touched c =
    let m = c.args.store.now in
    let moving = c.args.moving.now in
    let j : Judgement = record { caller = user c.args.m.now.who; chooses = false; verdict = verdict_of moving } in
    touching_by m c.args.m.now c.args.ask.now j (Few (Some moving.client) (Some moving.receiver) (Some moving.sender)) (sym (moving_judged moving))
    c.requires.judged
