use Rattle.fk_turns.proofs.InNext.Idle.{nobody_ready}
use Rattle.fk_turns.proofs.next.going.idle.Goals as goal

pub returns : goal.returns
returns c =
    nobody_ready c.args.store.now c.args.turns.now.waits c.args.turns.now.marks c.requires.valid c.names.ensures.few c.requires.kept c.requires.none
    c.after-first.ensures.named
