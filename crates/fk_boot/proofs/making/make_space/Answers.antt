use Rattle.std.proofs.Common.{refl, reverse, ◌∙◌, sym}
use Rattle.fk_model.specs.World.{apply_all}
use Rattle.fk_store.proofs.InStore.finding.Walks.{path-root}
use Rattle.fk_store.specs.Store.World.{world}
use Rattle.fk_boot.proofs.Walks.{no-slots, makes-space, new-space, root-space}
use Rattle.fk_boot.proofs.making.make_space.Goals as goal

pub returns-then-is_empty-clause-world : goal.returns-then-is_empty-clause-world
unfolding apply_all
returns-then-is_empty-clause-world c = rw (no-slots c.args.slots.now (sym c.is_empty.ensures ∙ c.if-is_empty.true)) refl

pub returns-then-is_empty-clause-path : goal.returns-then-is_empty-clause-path
returns-then-is_empty-clause-path c = rw (no-slots c.args.slots.now (sym c.is_empty.ensures ∙ c.if-is_empty.true)) (path-root c.args.store.now)

pub returns-then-is_empty-clause-space : goal.returns-then-is_empty-clause-space
returns-then-is_empty-clause-space c = root-space c.args.store.now

pub returns-clause-world : goal.returns-clause-world
returns-clause-world c =
    makes-space (reverse c.args.slots.now) _ (world c.args.store.now)
    (world c.make.new.self) _ _ refl c.name_of-who.ensures.place c.in_ok-make.ensures.world

pub returns-clause-space : goal.returns-clause-space
returns-clause-space c =
    let home = rw c.next_birth-birth.ensures at c.in_ok-make.ensures.home in
    rw c.next_birth-birth.ensures (new-space c.args.store.now c.make.new.self
    c.name_of-who.result.space c.name_of-who.result.slot c.requires.births c.name_of-who.ensures.space
    c.in_ok-make.ensures.world home c.in_ok-make.ensures.paths)
