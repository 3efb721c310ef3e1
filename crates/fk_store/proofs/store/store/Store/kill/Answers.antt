use Rattle.fk_store.proofs.InStore.finding.LookUps.{IsLive-there}
use Rattle.fk_store.proofs.InStore.changing.Residents.{no_residents, nobody-inside}
use Rattle.fk_store.proofs.InStore.changing.Kills.{pages-taken, kept-killed, world-killed, none-killed, kinds-killed, lives-killed, places-killed, path-killed}
use Rattle.fk_store.proofs.InStore.finding.Unfrozen.{known_well}
use Rattle.fk_store.proofs.store.store.Store.kill.Goals as goal

pub kill-requires-clause-there : goal.kill-requires-clause-there
kill-requires-clause-there c = IsLive-there _ c.self.invariant c.args.who (rw (← c.self.view_is) at c.requires.there)

-- nothing stands in it
pub kill-requires-clause-empty : goal.kill-requires-clause-empty
kill-requires-clause-empty c = λ n q birth in_it.
    let empty = no_residents _ c.self.invariant _ (rw (← c.self.view_is) at c.requires.empty) in
    nobody-inside _ c.self.invariant c.args.who n q birth in_it empty

pub invariant_of-self : goal.invariant_of-self
invariant_of-self c =
    let there = IsLive-there _ c.self.invariant c.args.who (rw (← c.self.view_is) at c.requires.there) in
    let empty = no_residents _ c.self.invariant _ (rw (← c.self.view_is) at c.requires.empty) in
    let bodies = c.kill.ensures in
    let pages = pages-taken c.self.inside.pages c.remove_all.new.self c.birth-space.result _ c.birth-space.ensures c.remove_all.ensures in
    kept-killed _ c.self.invariant c.args.who there empty c.kill.new.self c.remove_all.new.self bodies pages

pub returns : goal.returns
returns c =
    let there = IsLive-there _ c.self.invariant c.args.who (rw (← c.self.view_is) at c.requires.there) in
    let empty = no_residents _ c.self.invariant _ (rw (← c.self.view_is) at c.requires.empty) in
    let bodies = c.kill.ensures in
    let pages = pages-taken c.self.inside.pages c.remove_all.new.self c.birth-space.result _ c.birth-space.ensures c.remove_all.ensures in
    rw (← c.self.view_is) (record {
      world = world-killed _ c.self.invariant c.args.who there empty c.kill.new.self c.remove_all.new.self bodies pages;
      gone = none-killed _ c.self.invariant c.args.who there empty c.kill.new.self c.remove_all.new.self bodies pages;
      kinds = kinds-killed _ c.self.invariant c.args.who there empty c.kill.new.self c.remove_all.new.self bodies pages;
      lives = lives-killed _ c.self.invariant c.args.who there empty c.kill.new.self c.remove_all.new.self bodies pages;
      places = places-killed _ c.self.invariant c.args.who there empty c.kill.new.self c.remove_all.new.self bodies pages;
      paths = path-killed _ c.self.invariant c.args.who there empty c.kill.new.self c.remove_all.new.self bodies pages;
    })

pub kill-requires-clause-known : goal.kill-requires-clause-known
kill-requires-clause-known c = known_well _ c.self.invariant
