use Rattle.fk_waits.proofs.InTurns.Woken.{back_stands, back_turned}
use Rattle.fk_waits.proofs.turns.turns.Turns.is_back.Goals as goal

pub returns-clause-turned : goal.returns-clause-turned
returns-clause-turned c = back_turned c.args.who c.args.self.now.waits c.is_last.result c.once.ensures c.is_last.ensures

pub returns-clause-stood : goal.returns-clause-stood
returns-clause-stood c = back_stands c.args.who c.args.self.now.waits c.is_last.result c.is_last.ensures
