use Rattle.std.proofs.Common.{[], refl}
use Rattle.std.proofs.lemmas.Bool.{OnTrue_at}
use Rattle.fk_calls.proofs.InCalls.Talking.{has_waited}
use Rattle.fk_calls.proofs.calls.going.talks.receive.Goals as goal

pub returns-then-awaits : goal.returns-then-awaits
returns-then-awaits c = (
  refl,
  has_waited c.args.store.now c.args.who c.args.side c.args.into c.args.room c.requires.free c.requires.at
      (OnTrue_at c.if-awaits.true (c.awaits.ensures [])),
)
