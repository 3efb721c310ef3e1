use Rattle.fk_turns.proofs.InNext.Placed.{placed_settled}
use Rattle.fk_turns.proofs.InSteps.Locked.{then_user}
use Rattle.fk_calls.specs.declared.calls.going.Then.TheVariants as thens
use Rattle.fk_turns.proofs.steps.going.go_to_sleep.Goals as goal

pub settle_still-requires : goal.settle_still-requires
settle_still-requires c = record {
  valid = c.requires.valid;
  kept = c.requires.kept;
  user = then_user c.args.store.now c.args.mover thens.Asleep c.requires.asleep;
  unready = λ pick ready. c.requires.asleep.waits (pick, ready);
  why = c.asleep_at-cond.ensures.why;
  cause = c.asleep_at-cond.ensures.cause;
}

pub returns-clause-placed : goal.returns-clause-placed
returns-clause-placed c =
    placed_settled c.args.store.now c.args.mover c.args.turns.now.waits c.settle_still.new.turns.waits c.settle_still.ensures.settled
    c.requires.asleep.waits
