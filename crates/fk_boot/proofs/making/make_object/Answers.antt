use Rattle.std.proofs.Common.{◌∙◌, ap, reverse}
use Rattle.fk_scenario.specs.Scenario.Servers.{has_key}
use Rattle.fk_store.specs.Store.World.{world}
use Rattle.fk_store.specs.Store.Paths.{path}
use Rattle.fk_store.proofs.InStore.finding.Results.{on_ok}
use Rattle.fk_boot.specs.FirstWorld.{first_body}
use Rattle.fk_boot.proofs.Walks.{makes}
use Rattle.fk_boot.proofs.making.make_object.Goals as goal

pub returns : goal.returns
returns c =
    let object = c.args.object.now in
    let served = c.has.ensures ∙ ap (has_key c.args.ports.now) c.as_slice-path.ensures in
    on_ok c.make.result _ _
    (makes (reverse object.path) _ _ (has_key c.args.ports.now object.path) object.spec (world c.args.store.now) (world c.make.new.self)
    (c.name_of-who.ensures.place ∙ ap reverse c.as_slice-path.ensures)
    (c.first_body.ensures.body (path c.args.store.now) ∙ ap (λ is. first_body is object.spec) served))
    c.make.ensures.world

pub make-requires-clause-birth : goal.make-requires-clause-birth
make-requires-clause-birth c = c.first_body.ensures.birth (world c.args.store.now).next

pub make-requires-clause-named : goal.make-requires-clause-named
make-requires-clause-named c = c.first_body.ensures.named c.args.store.now
