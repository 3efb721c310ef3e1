use Rattle.fk_store.specs.Store.Paths.{path, place}
use Rattle.fk_store.specs.Store.World.{world}
use Rattle.fk_calls.proofs.InCalls.Given.{fit_given}
use Rattle.fk_calls.proofs.InCalls.Judged.{porter_there}
use Rattle.fk_calls.proofs.calls.answering.call_any.Goals as goal

pub judged-requires-clause-live : goal.judged-requires-clause-live
judged-requires-clause-live c = porter_there (world c.args.store.now) (place (path c.args.store.now) c.args.m.now.who) c.requires.free

pub judged-requires-clause-words : goal.judged-requires-clause-words
judged-requires-clause-words c porter = fit_given _ _ _ c.requires.fit
