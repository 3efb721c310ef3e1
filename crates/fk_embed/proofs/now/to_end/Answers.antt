use Rattle.fk_jobs.specs.Porters.{state_of}
use Rattle.fk_embed.proofs.now.to_end.Goals as goal

pub returns-in-Ok-clause-comes : goal.returns-in-Ok-clause-comes
returns-in-Ok-clause-comes g c = record {
  state = state_of c.go.new.self.porter;
  goes = c.go.ensures.goes;
  stops = c.finish.ensures;
}
