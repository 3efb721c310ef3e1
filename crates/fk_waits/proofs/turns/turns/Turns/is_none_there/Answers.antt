use Rattle.fk_waits.specs.Turns.Turns.{loud_cause}
use Rattle.fk_waits.proofs.InTurns.Roused.{none_at, some_at}
use Rattle.fk_waits.proofs.turns.turns.Turns.is_none_there.Goals as goal

pub returns-in-Some : goal.returns-in-Some
returns-in-Some c = some_at loud_cause _ c.args.self.now.waits.queued c.in-Some.ensures

pub returns-in-None : goal.returns-in-None
returns-in-None c = none_at loud_cause c.args.self.now.waits.queued c.in-None.ensures
