use Rattle.std.proofs.Common.{rules, OnOk, ◌≡◌, ℕ, ◌<◌, None, refl}
use Rattle.fk_model.specs.Valid.{IsValid}
use Rattle.fk_store.specs.Store.Paths.{path}
use Rattle.fk_store.specs.Store.World.{world, place_of, IsSpace}
use Rattle.fk_store.proofs.InStore.finding.Results.{on_ok}
use Rattle.test_parts.proofs.Made.{valid-made}
use Rattle.test_parts.proofs.porter.put_porter.Goals as goal

pub returns : goal.returns
returns c =
    let store = c.args.store.now in
    let who = c.args.who in
    let low : who.slot < 256 = search rules in
    let space : IsSpace store who.space = search rules in
    let empty : (world store).body (place_of store who) ≡ None = search rules in
    on_ok c.make.result _ _
    (valid-made (world store) (world c.make.new.self) who.slot (path store who.space) who.space _ c.requires low space empty refl refl)
    c.make.ensures.world
