use Rattle.std.proofs.Common.{◌∙◌}
use Rattle.fk_store.specs.Store.Paths.{path}
use Rattle.fk_store.specs.Store.World.{world}
use Rattle.fk_plans.proofs.InPlans.Hearers.{heard_verdict}
use Rattle.fk_calls.specs.Calls.Judgements.{words_of}
use Rattle.fk_calls.proofs.InCalls.Given.{fit_given}
use Rattle.fk_calls.proofs.InCalls.Judged.{ended_judged, ready_judged, step_judged, free_there}
use Rattle.fk_calls.proofs.InCalls.Touches.{touching_by}
use Rattle.fk_calls.proofs.calls.moves.attempt_judged.Goals as goal

pub judge-requires-clause-words : goal.judge-requires-clause-words
judge-requires-clause-words c = fit_given _ _ _ c.requires.fit

pub is_ready-requires-clause-free : goal.is_ready-requires-clause-free
is_ready-requires-clause-free c user = rw c.in-Some.ensures.judged.mover (c.in-Some.ensures.judged.free user)

pub carry_out-requires-clause-live : goal.carry_out-requires-clause-live
carry_out-requires-clause-live c user = rw c.in-Some.ensures.judged.mover (free_there _ _ (c.in-Some.ensures.judged.free user))

pub returns-clause-made : goal.returns-clause-made
returns-clause-made c =
    let judged = c.in-Some.ensures.judged in
    let ready = (ready_judged c.args.store.now c.args.m.now c.args.ask.now c.in-Some.j _ judged (c.is_ready.ensures (words_of c.args.ask.now))).0 (cc) in
    let step = rw c.given.ensures at c.in_ok-carry_out.ensures.step in
    (ready, step_judged c.args.store.now c.args.m.now c.args.ask.now c.in-Some.j judged ready ∙ step)

pub returns-clause-ended : goal.returns-clause-ended
returns-clause-ended c =
    let made = returns-clause-made c in
    record {
      ending = ended_judged c.args.store.now c.carry_out.new.store c.args.m.now c.args.ask.now c.in-Some.j _ _ c.in-Some.ensures.judged made.0 made.1
          (c.ended_by-ended.ensures.ending (words_of c.args.ask.now));
      apart = c.ended_by-ended.ensures.apart;
    }

pub returns-clause-heard : goal.returns-clause-heard
returns-clause-heard c =
    let m = c.args.store.now in
    let j = c.in-Some.j in
    let step = rw c.given.ensures at c.in_ok-carry_out.ensures.step in
    heard_verdict (world m) (path m) (path c.carry_out.new.store) j.caller.who (words_of c.args.ask.now) j.caller.is_porter j.verdict _ _
    (λ plan n last is. ((rw is at c.in-Some.ensures.judged.fits).0, c.in_ok-carry_out.ensures.told plan n last is))
    c.apart.ensures step

pub returns-clause-touched : goal.returns-clause-touched
returns-clause-touched c =
    touching_by c.args.store.now c.args.m.now c.args.ask.now c.in-Some.j c.touched_by_move.result c.touched_by_move.ensures.by c.in-Some.ensures.judged
