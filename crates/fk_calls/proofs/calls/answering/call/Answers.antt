use Rattle.std.proofs.Common.{refl}
use Rattle.fk_model.specs.declared.moves.Ask.TheVariants as asks
use Rattle.fk_calls.proofs.InCalls.Judged.{held_porter, never_ready}
use Rattle.fk_calls.proofs.calls.answering.call.Goals as goal

pub returns-then-not-is_free_porter-clause-unready : goal.returns-then-not-is_free_porter-clause-unready
returns-then-not-is_free_porter-clause-unready c =
    (never_ready c.args.store.now c.args.m.now (asks.Call c.args.stage.now c.args.words.now) (held_porter _ _ _ _ _ _ (cc)), refl)
