use Rattle.std.proofs.Common.{refl}
use Rattle.fk_calls.proofs.calls.going.talks.hands.Goals as goal

pub returns : goal.returns
returns c =
    rw (
      c.finish-2.ensures.world,
      c.pass_turn.ensures.paths,
      c.pass_turn.ensures.world,
      c.finish.ensures.paths,
      c.finish.ensures.world,
      c.answered.ensures,
    ) refl
