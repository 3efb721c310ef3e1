use Rattle.std.proofs.Common.{◌≡◌, ◌∙◌, ◌∷◌, sym, None, append-nil, get_or}
use Rattle.fk_store.proofs.InStore.finding.Walks.{path-root}
use Rattle.fk_store.specs.Store.Paths.{path}
use Rattle.fk_store.specs.Store.World.{world}
use Rattle.fk_model.specs.Valid.{birth_at}
use Rattle.fk_boot.proofs.Walks.{root-space, lost}
use Rattle.fk_boot.proofs.names.find_space.Goals as goal

pub loop-slot-init : goal.loop-slot-init
loop-slot-init c = record { left = rw (path-root, append-nil); space = root-space c.args.store.now }

pub returns-in_err-space-clause-birth : goal.returns-in_err-space-clause-birth
returns-in_err-space-clause-birth c =
    let none : birth_at (world c.args.store.now) (get_or c.args.slots.now c.loop-slot.slot-index 0 ∷ path c.args.store.now c.loop-slot.space)
    ≡ None = sym c.space_in.ensures.birth ∙ c.in_err-space.was in
    let gone = lost c.args.store.now c.args.slots.now c.loop-slot.slot-index c.loop-slot.space c.loop-slot-test.true c.loop-slot.invariant.left none in
    c.from_residual.ensures ∙ sym gone
