use Rattle.std.proofs.Common.{◌≡◌, OnOk, sym, subst}
use Rattle.fk_model.specs.World.{apply_all}
use Rattle.fk_store.specs.Store.Paths.{path, place}
use Rattle.fk_store.specs.Store.World.{world}
use Rattle.fk_plans.specs.Plans.Plans.{made}
use Rattle.fk_plans.proofs.plans.making.make.Goals as goal

pub make-requires-clause-named : goal.make-requires-clause-named
make-requires-clause-named c = c.blank.ensures.named c.args.store.now

pub returns-clause-world : goal.returns-clause-world
unfolding apply_all
returns-clause-world c =
    subst (λ o. OnOk c.make.result (world c.make.new.self ≡ apply_all (made o) (world c.args.store.now)))
    (sym (c.blank.ensures.change (path c.args.store.now) (place (path c.args.store.now) c.args.object))) c.make.ensures.world
