use Rattle.std.proofs.Common.{arith, IsSome}
use Rattle.fk_model.specs.SyncRows.{asleep_on}
use Rattle.fk_store.specs.Store.Paths.{path}
use Rattle.fk_store.specs.Store.World.{world}
use Rattle.fk_store.proofs.InStore.finding.Walks.{same_path_true}
use Rattle.fk_turns.specs.Picks.Stands.{IsPicked}
use Rattle.fk_turns.specs.declared.picks.moves.Picker.TheVariants.{User}
use Rattle.fk_turns.proofs.InPicks.Slots.{asleep_slot, each_slot}
use Rattle.fk_turns.proofs.picks.sleepers.wakes_one.Goals as goal

pub returns-clause-none : goal.returns-clause-none
returns-clause-none c q near asleep picked =
    let m = c.args.store.now in
    let s = path m c.args.who.space in
    each_slot (λ x. IsSome (asleep_on c.args.cond ((world m).body x)) → IsPicked m (User c.args.who) x → ⊥) q s
    (asleep_slot (world m) q c.args.cond c.requires.valid asleep) (same_path_true _ s near)
    (λ k low. c.loop-slot.invariant k (omega (arith, low))) asleep picked
