use Rattle.std.proofs.Common.{◌<◌, arith}
use Rattle.fk_store.specs.Store.World.{world}
use Rattle.fk_store.proofs.InStore.changing.Making.{is_empty, is_fresh, make-kept, make-world, make-home, make-paths, make-places, make-kinds}
use Rattle.fk_store.proofs.InStore.changing.Leads.{leads-named}
use Rattle.fk_store.proofs.InStore.finding.Unfrozen.{known_well, younger_next}
use Rattle.fk_store.proofs.store.store.Store.make.Goals as goal

pub put-requires-clause-empty : goal.put-requires-clause-empty
put-requires-clause-empty c =
    let slot : c.args.who.slot < 256 = omega arith in
    is_empty _ c.self.invariant c.args.who slot (rw (← c.self.view_is) at c.requires.space) (rw (← c.self.view_is) at c.requires.empty)

pub put-requires-clause-leads : goal.put-requires-clause-leads
put-requires-clause-leads c = leads-named _ c.self.invariant c.args.body (rw (← c.self.view_is) at c.requires.named)

pub put-requires-clause-birth : goal.put-requires-clause-birth
put-requires-clause-birth c =
    let slot : c.args.who.slot < 256 = omega arith in
    is_fresh _ c.self.invariant c.args.who slot (rw (← c.self.view_is) at c.requires.space) (rw (← c.self.view_is) at c.requires.empty)
    c.args.body (rw (← c.self.view_is) at c.requires.birth)

pub next_after-self-inside-requires : goal.next_after-self-inside-requires
unfolding world
next_after-self-inside-requires c = rw (← c.self.view_is) at c.requires.birth

pub invariant_of-self-2 : goal.invariant_of-self-2
invariant_of-self-2 c =
    let slot : c.args.who.slot < 256 = omega arith in
    rw (c.next_after-self-inside.ensures, c.in_ok-put.ensures.ok)
    (make-kept _ c.self.invariant c.args.who slot (rw (← c.self.view_is) at c.requires.space) (rw (← c.self.view_is) at c.requires.empty)
    c.args.body (rw (← c.self.view_is) at c.requires.birth) (rw (← c.self.view_is) at c.requires.named) c.requires.sized)

pub returns : goal.returns
returns c =
    let slot : c.args.who.slot < 256 = omega arith in
    let space = rw (← c.self.view_is) at c.requires.space in
    let empty = rw (← c.self.view_is) at c.requires.empty in
    let birth = rw (← c.self.view_is) at c.requires.birth in
    let named = rw (← c.self.view_is) at c.requires.named in
    rw (c.next_after-self-inside.ensures, c.in_ok-put.ensures.ok, ← c.self.view_is) (record {
      world = make-world _ c.self.invariant c.args.who slot space empty c.args.body birth named c.requires.sized;
      home = make-home _ c.self.invariant c.args.who slot space empty c.args.body birth named c.requires.sized;
      err = tt;
      kinds = make-kinds _ c.self.invariant c.args.who slot space empty c.args.body birth named c.requires.sized;
      places = make-places _ c.self.invariant c.args.who slot space empty c.args.body birth named c.requires.sized;
      paths = make-paths _ c.self.invariant c.args.who slot space empty c.args.body birth named c.requires.sized;
    })

pub put-requires-clause-known : goal.put-requires-clause-known
put-requires-clause-known c = known_well _ c.self.invariant

pub put-requires-clause-younger : goal.put-requires-clause-younger
put-requires-clause-younger c = younger_next _ c.self.invariant c.args.who c.args.body (rw (← c.self.view_is) at c.requires.space)
    (rw (← c.self.view_is) at c.requires.birth)
