use Rattle.std.proofs.Common.{refl}
use Rattle.fk_model.specs.World.{apply_all}
use Rattle.fk_store.specs.Store.Paths.{path}
use Rattle.fk_plans.proofs.answers.answering.answer_record.Goals as goal

pub returns-clause-step : goal.returns-clause-step
unfolding apply_all
returns-clause-step c words = rw (c.requires.fits, c.lay_record.ensures.said (path c.args.store.now)) refl
