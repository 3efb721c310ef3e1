use Rattle.std.proofs.Common.{ℕ, ◌∷◌, refl}
use Rattle.fk_store.specs.Store.Names.{at}
use Rattle.fk_store.specs.Store.Paths.{path, place}
use Rattle.fk_store.specs.Store.World.{world, IsLive}
use Rattle.fk_turns.specs.Picks.Stands.{ConnectsBy, IsPicked}
use Rattle.fk_turns.proofs.InPicks.Slots.{all_slots, connecting_slot, connecting_there, each_slot, up_to}
use Rattle.fk_turns.proofs.picks.ports.takes_by_handle.Goals as goal

pub loop-slot-preserved : goal.loop-slot-preserved
loop-slot-preserved c =
    let m = c.args.store.now in
    let s = path m c.args.handle.space in
    rw c.from-from.ensures (up_to (λ k. ConnectsBy (world m) (place (path m) c.args.handle) (k ∷ s) → IsPicked m c.args.picker (k ∷ s) → ⊥)
    (λ k. IsLive m (at c.args.handle.space k)) c.loop-slot.from c.in-Some.slot
    (λ k shown connects picked. shown (connecting_there (world m) (k ∷ s) c.args.handle.slot connects.0) connects picked)
    c.loop-slot.invariant c.in-Some.ensures.some.1 c.in_default-takes_connecting.ensures.none)

pub returns-clause-none : goal.returns-clause-none
returns-clause-none c q connects picked =
    let m = c.args.store.now in
    let s = path m c.args.handle.space in
    each_slot (λ x. ConnectsBy (world m) (place (path m) c.args.handle) x → IsPicked m c.args.picker x → ⊥) q s
    (connecting_slot (world m) q c.args.handle.slot c.requires.valid connects.0) connects.1
    (λ k low. all_slots (λ k. ConnectsBy (world m) (place (path m) c.args.handle) (k ∷ s) → IsPicked m c.args.picker (k ∷ s) → ⊥)
    (λ k. IsLive m (at c.args.handle.space k)) c.loop-slot.from
    (λ k shown connects picked. shown (connecting_there (world m) (k ∷ s) c.args.handle.slot connects.0) connects picked)
    c.loop-slot.invariant (c.in_default.ensures.none refl) k) connects picked
