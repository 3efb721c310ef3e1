use Rattle.std.proofs.Common.{◌<◌, arith}
use Rattle.fk_store.specs.Store.Names.{at}
use Rattle.fk_store.proofs.InStore.finding.LookUps.{IsLive-there}
use Rattle.fk_store.proofs.InStore.changing.Residents.{no_residents, none_there}
use Rattle.fk_store.proofs.InStore.changing.Renames.{kept-renamed, world-renamed, none-renamed, kind-renamed, place-target, path-follows, kinds-renamed}
use Rattle.fk_store.proofs.InStore.changing.Renames.{lives-renamed, places-renamed, path-stays}
use Rattle.fk_store.proofs.store.store.Store.move_to.Goals as goal

pub rename-requires-clause-there : goal.rename-requires-clause-there
rename-requires-clause-there c = IsLive-there _ c.self.invariant c.args.from (rw (← c.self.view_is) at c.requires.there)

-- the new slot is free
pub rename-requires-clause-free : goal.rename-requires-clause-free
rename-requires-clause-free c = none_there _ c.self.invariant (at c.args.from.space c.args.to) (rw (← c.self.view_is) at c.requires.free)

pub invariant_of-self : goal.invariant_of-self
invariant_of-self c =
    let there = IsLive-there _ c.self.invariant c.args.from (rw (← c.self.view_is) at c.requires.there) in
    let empty = no_residents _ c.self.invariant _ (rw (← c.self.view_is) at c.requires.empty) in
    let low : c.args.to < 256 = omega arith in
    let free = none_there _ c.self.invariant (at c.args.from.space c.args.to) (rw (← c.self.view_is) at c.requires.free) in
    let bodies = c.rename.ensures in
    kept-renamed _ c.self.invariant c.args.from there empty c.args.to low free c.rename.new.self bodies

pub returns : goal.returns
returns c =
    let there = IsLive-there _ c.self.invariant c.args.from (rw (← c.self.view_is) at c.requires.there) in
    let empty = no_residents _ c.self.invariant _ (rw (← c.self.view_is) at c.requires.empty) in
    let low : c.args.to < 256 = omega arith in
    let free = none_there _ c.self.invariant (at c.args.from.space c.args.to) (rw (← c.self.view_is) at c.requires.free) in
    let bodies = c.rename.ensures in
    rw (← c.self.view_is) (record {
      world = world-renamed _ c.self.invariant c.args.from there empty c.args.to low free c.rename.new.self bodies;
      left = none-renamed _ c.self.invariant c.args.from there empty c.args.to low free c.rename.new.self bodies;
      moved = kind-renamed _ c.self.invariant c.args.from there empty c.args.to low free c.rename.new.self bodies;
      target = place-target _ c.self.invariant c.args.from there empty c.args.to low free c.rename.new.self bodies;
      follows = path-follows _ c.self.invariant c.args.from there empty c.args.to low free c.rename.new.self bodies;
      kinds = kinds-renamed _ c.self.invariant c.args.from there empty c.args.to low free c.rename.new.self bodies;
      lives = lives-renamed _ c.self.invariant c.args.from there empty c.args.to low free c.rename.new.self bodies;
      places = places-renamed _ c.self.invariant c.args.from there empty c.args.to low free c.rename.new.self bodies;
      paths = path-stays _ c.self.invariant c.args.from there empty c.args.to low free c.rename.new.self bodies;
    })
