use Rattle.std.proofs.Common.{◌≡◌, ℕ, ◌∷◌, true, refl}
use Rattle.fk_model.specs.LinkRows.{is_member}
use Rattle.fk_model.specs.Places.{Path}
use Rattle.fk_store.specs.Store.Names.{at}
use Rattle.fk_store.specs.Store.Paths.{path}
use Rattle.fk_store.specs.Store.World.{world, IsLive}
use Rattle.fk_turns.specs.Picks.Stands.{StandsAt, IsPicked}
use Rattle.fk_turns.specs.declared.picks.moves.Picker.TheVariants.{User}
use Rattle.fk_turns.proofs.InPicks.Slots.{all_slots, member_there, up_to}
use Rattle.fk_turns.proofs.picks.ports.takes_one.Goals as goal

pub loop-slot-preserved : goal.loop-slot-preserved
loop-slot-preserved c =
    let m = c.args.store.now in
    let s = path m c.args.who.space in
    rw c.from-from.ensures (up_to (λ k. is_member c.args.set ((world m).body (k ∷ s)) ≡ true → (q : Path) → StandsAt (world m) (k ∷ s) q → IsPicked m (User c.args.who) q → ⊥)
    (λ k. IsLive m (at c.args.who.space k)) c.loop-slot.from c.in-Some.slot
    (λ k shown member. shown (member_there (world m) (k ∷ s) c.args.set member) member)
    c.loop-slot.invariant c.in-Some.ensures.some.1 c.in_default-takes_in.ensures.none)

pub returns-clause-none : goal.returns-clause-none
returns-clause-none c q stands picked =
    let m = c.args.store.now in
    let s = path m c.args.who.space in
    all_slots (λ k. is_member c.args.set ((world m).body (k ∷ s)) ≡ true → (q : Path) → StandsAt (world m) (k ∷ s) q → IsPicked m (User c.args.who) q → ⊥)
    (λ k. IsLive m (at c.args.who.space k)) c.loop-slot.from
    (λ k shown member. shown (member_there (world m) (k ∷ s) c.args.set member) member)
    c.loop-slot.invariant (c.in_default.ensures.none refl) stands.slot stands.member q stands.stands picked
