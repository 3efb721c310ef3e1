use Rattle.std.proofs.Common.{sym, ◌∙◌, Some, None}
use Rattle.fk_store.specs.Store.World.{world}
use Rattle.fk_store.proofs.InStore.changing.Residents.{plain-none, inner-slot, inner-place, inner-younger, inner-live}
use Rattle.fk_store.proofs.store.store.Store.lowest_in.Goals as goal

pub returns-in-None-clause-slot : goal.returns-in-None-clause-slot
returns-in-None-clause-slot c = rw (← c.self.view_is) (plain-none _ c.self.invariant c.args.who c.birth.result c.birth.ensures c.in-None.is)

pub returns-in-None-first_resident-clause-slot : goal.returns-in-None-first_resident-clause-slot
returns-in-None-first_resident-clause-slot c =
    let here = sym c.in-Some.is ∙ c.birth.ensures in
    let found = sym c.in-None-first_resident.is ∙ rw (← c.self.view_is) at c.first_resident.ensures in
    rw (← c.self.view_is) (inner-slot _ c.self.invariant c.args.who c.in-Some.space here None found)

pub returns-in-Some-first_resident : goal.returns-in-Some-first_resident
unfolding world
returns-in-Some-first_resident c =
    let here = sym c.in-Some.is ∙ c.birth.ensures in
    let found = sym c.in-Some-first_resident.is ∙ rw (← c.self.view_is) at c.first_resident.ensures in
    rw (← c.self.view_is) (record {
      slot = inner-slot _ c.self.invariant c.args.who c.in-Some.space here (Some c.in-Some-first_resident.slot) found;
      place = inner-place _ c.self.invariant c.args.who c.in-Some.space here c.in-Some-first_resident.slot;
      younger = inner-younger _ c.self.invariant c.args.who c.in-Some.space here;
      live = inner-live _ c.self.invariant c.args.who c.in-Some.space here c.in-Some-first_resident.slot found;
    })
