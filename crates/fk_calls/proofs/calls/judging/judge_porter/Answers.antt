use Rattle.std.proofs.Common.{sym, subst, arith}
use Rattle.fk_model.specs.declared.moves.Ask.TheVariants as asks
use Rattle.fk_store.specs.Store.Paths.{path, place}
use Rattle.fk_store.specs.Store.World.{world}
use Rattle.fk_calls.specs.Calls.Judgements.{IsJudged}
use Rattle.fk_calls.proofs.InCalls.Judged.{porter, held_porter, porter_judged, porter_there}
use Rattle.fk_calls.proofs.calls.judging.judge_porter.Goals as goal

pub returns-then-not-is_free_porter-clause-never : goal.returns-then-not-is_free_porter-clause-never
returns-then-not-is_free_porter-clause-never c = held_porter _ _ _ _ _ _ (cc)

pub judge-requires-clause-live : goal.judge-requires-clause-live
judge-requires-clause-live c = porter_there (world c.args.store.now) (place (path c.args.store.now) c.args.m.now.who) (cc)

pub returns-clause-judged : goal.returns-clause-judged
returns-clause-judged c =
    subst (λ chosen. IsJudged c.args.store.now c.args.m.now (asks.Call c.args.stage.now c.args.words.now)
    (record { caller = porter c.args.m.now.who; chooses = chosen; verdict = c.judge.result })) (sym c.chooses.ensures)
    (porter_judged c.args.store.now c.args.m.now
    c.args.stage.now c.args.words.now c.judge.result (cc) (omega arith) c.judge.ensures.row c.judge.ensures.fits c.judge.ensures.sure)
