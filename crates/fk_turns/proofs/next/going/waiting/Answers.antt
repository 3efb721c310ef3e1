use Rattle.std.proofs.Common.{subst}
use Rattle.fk_waits.specs.Waits.Lists.{StandOnce}
use Rattle.fk_turns.proofs.InNext.Passed.{are_waiting}
use Rattle.fk_turns.proofs.next.going.waiting.Goals as goal

pub returns : goal.returns
returns c =
    are_waiting c.args.store.now c.args.turns.now.waits c.args.turns.now.marks c.requires.valid c.names.ensures.few c.requires.kept
    (subst StandOnce c.waits.ensures c.once.ensures)
