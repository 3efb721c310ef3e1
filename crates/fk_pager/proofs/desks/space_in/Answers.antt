use Rattle.std.proofs.Common.{ap, ◌∙◌}
use Rattle.fk_model.specs.Objects.{and_then}
use Rattle.fk_model.specs.Valid.{birth_of}
use Rattle.fk_store.specs.Store.Paths.{path}
use Rattle.fk_pager.proofs.Hindering.{root-home, stands-there}
use Rattle.fk_pager.proofs.desks.space_in.Goals as goal

pub returns-clause-birth : goal.returns-clause-birth
returns-clause-birth c = ap (and_then birth_of) c.in_ok-body.ensures.body ∙ c.birth_in.ensures.birth (path c.args.store.now)

pub returns-clause-path : goal.returns-clause-path
returns-clause-path c = root-home c.args.store.now c.args.slot c.birth_in.result
    (c.birth_in.ensures.home (path c.args.store.now) (record { space = 0; slot = c.args.slot }) c.in_ok-body.ensures.home)

pub returns-clause-space : goal.returns-clause-space
returns-clause-space c = stands-there c.args.store.now c.args.slot c.birth_in.result
    (ap (and_then birth_of) c.in_ok-body.ensures.body ∙ c.birth_in.ensures.birth (path c.args.store.now))
    (root-home c.args.store.now c.args.slot c.birth_in.result
    (c.birth_in.ensures.home (path c.args.store.now) (record { space = 0; slot = c.args.slot }) c.in_ok-body.ensures.home))
