use Rattle.fk_core.proofs.cores.turns.Core.run_on.Goals as goal

pub returns-clause-turns : goal.returns-clause-turns
returns-clause-turns g c = λ some. c.goes_so.ensures.turns c.args.self.now.kernel c.requires.come c.run_into-made.ensures.ran
