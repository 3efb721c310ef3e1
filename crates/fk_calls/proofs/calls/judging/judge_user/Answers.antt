use Rattle.std.proofs.Common.{[], sym, subst}
use Rattle.fk_store.specs.Store.Paths.{path, place}
use Rattle.fk_store.specs.Store.World.{world}
use Rattle.fk_calls.specs.Calls.Judgements.{IsJudged}
use Rattle.fk_calls.proofs.InCalls.Judged.{user, held_user, instruction_judged, stage_judged, free_there}
use Rattle.fk_model.specs.declared.moves.Ask.TheVariants as asks
use Rattle.fk_calls.proofs.calls.judging.judge_user.Goals as goal

pub returns-in-None-clause-never : goal.returns-in-None-clause-never
returns-in-None-clause-never c = held_user _ _ _ _ c.in-None.ensures.held

pub returns-in-Instruction-clause-judged : goal.returns-in-Instruction-clause-judged
returns-in-Instruction-clause-judged c =
    let m = c.args.store.now in
    let running = c.in-Instruction.ensures (world m) (place (path m) c.args.m.now.who) (path m) c.in-Some.ensures.there in
    instruction_judged m c.args.m.now c.judge.result (c.in-Some.ensures.free (cc)) running
    (c.judge.ensures.row []) c.judge.ensures.fits c.in-Some.thread.now.regs c.judge.ensures.instruction c.judge.ensures.sure

pub returns-in-Stage-clause-judged : goal.returns-in-Stage-clause-judged
returns-in-Stage-clause-judged c =
    let m = c.args.store.now in
    let at = c.in-Stage.ensures (world m) (place (path m) c.args.m.now.who) (path m) c.in-Some.ensures.there in
    subst (λ chosen. IsJudged m
    c.args.m.now asks.Run (record { caller = user c.args.m.now.who; chooses = chosen; verdict = c.judge-in-Stage.result })) (sym c.chooses.ensures)
    (stage_judged m c.args.m.now c.in-Stage.stage c.judge-in-Stage.result (c.in-Some.ensures.free (cc))
    at c.judge-in-Stage.ensures.row c.judge-in-Stage.ensures.fits c.judge-in-Stage.ensures.sure)

pub judge-requires-in-Stage-clause-live : goal.judge-requires-in-Stage-clause-live
judge-requires-in-Stage-clause-live c =
    let m = c.args.store.now in
    free_there (world m) (place (path m) c.args.m.now.who) (c.in-Some.ensures.free (cc))

pub judge-requires-in-Stage-clause-space : goal.judge-requires-in-Stage-clause-space
judge-requires-in-Stage-clause-space c = c.in-Some.ensures.space (cc)

pub returns-in-Nothing-clause-never : goal.returns-in-Nothing-clause-never
returns-in-Nothing-clause-never c =
    let m = c.args.store.now in
    c.in-Nothing.ensures (world m) (place (path m) c.args.m.now.who) (path m) c.in-Some.ensures.there _
