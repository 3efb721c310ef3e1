use Rattle.std.proofs.Common.{refl}
use Rattle.fk_model.specs.World.{apply_all}
use Rattle.fk_store.specs.Store.Paths.{path}
use Rattle.fk_plans.proofs.answers.answering.answer.Goals as goal

pub returns-in-Refused-clause-step : goal.returns-in-Refused-clause-step
unfolding apply_all
returns-in-Refused-clause-step c = rw (c.in-Refused.is, c.requires.porter, c.lay.ensures.said (path c.args.store.now)) refl
