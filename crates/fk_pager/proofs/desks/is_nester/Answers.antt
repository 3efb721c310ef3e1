use Rattle.std.proofs.Common.{sym, ap, ◌∙◌}
use Rattle.fk_model.specs.Objects.{holds}
use Rattle.fk_model.specs.StateRows as states
use Rattle.fk_store.specs.Store.Paths.{path}
use Rattle.fk_pager.proofs.desks.is_nester.Goals as goal

pub returns-in-Some : goal.returns-in-Some
returns-in-Some c = c.is_native.ensures (path c.args.store.now) ∙ sym (ap (holds states.is_native) c.in-Some.ensures.body)

pub returns-in-None : goal.returns-in-None
returns-in-None c = sym (ap (holds states.is_native) c.in-None.ensures.body)
