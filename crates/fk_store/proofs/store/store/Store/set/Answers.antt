use Rattle.fk_store.proofs.InStore.changing.Sets.{set-there, set-birth, set-pages, set-kept, set-world, set-edits, set-kinds, set-paths}
use Rattle.fk_store.proofs.InStore.changing.Leads.{leads-named}
use Rattle.fk_store.proofs.InStore.finding.Unfrozen.{known_well}
use Rattle.fk_store.proofs.store.store.Store.set.Goals as goal

pub set-requires-clause-there : goal.set-requires-clause-there
set-requires-clause-there c =
    set-there _ c.self.invariant c.args.who c.args.body (rw (← c.self.view_is) at c.requires.kind) (rw (← c.self.view_is) at c.requires.home)

pub set-requires-clause-leads : goal.set-requires-clause-leads
set-requires-clause-leads c = leads-named _ c.self.invariant c.args.body (rw (← c.self.view_is) at c.requires.named)

pub set-requires-clause-birth : goal.set-requires-clause-birth
set-requires-clause-birth c =
    set-birth _ c.self.invariant c.args.who c.args.body (rw (← c.self.view_is) at c.requires.kind) (rw (← c.self.view_is) at c.requires.home)

pub set-requires-clause-pages : goal.set-requires-clause-pages
set-requires-clause-pages c =
    set-pages _ c.self.invariant c.args.who c.args.body (rw (← c.self.view_is) at c.requires.kind) (rw (← c.self.view_is) at c.requires.home)

pub invariant_of-self : goal.invariant_of-self
invariant_of-self c = rw c.set.ensures (set-kept _ c.self.invariant c.args.who c.args.body
    (rw (← c.self.view_is) at c.requires.kind) (rw (← c.self.view_is) at c.requires.home) (rw (← c.self.view_is) at c.requires.named) c.requires.sized)

pub returns : goal.returns
returns c =
    let kind = rw (← c.self.view_is) at c.requires.kind in
    let home = rw (← c.self.view_is) at c.requires.home in
    rw (c.set.ensures, ← c.self.view_is) (record {
      world = set-world _ c.self.invariant c.args.who c.args.body kind home;
      edits = set-edits _ c.self.invariant c.args.who c.args.body kind home;
      kinds = set-kinds _ c.self.invariant c.args.who c.args.body kind home;
      paths = set-paths _ c.self.invariant c.args.who c.args.body kind home;
    })

pub set-requires-clause-known : goal.set-requires-clause-known
set-requires-clause-known c = known_well _ c.self.invariant
