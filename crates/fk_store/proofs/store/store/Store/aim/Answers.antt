use Rattle.fk_model.specs.declared.body.Body.TheVariants.{Reference}
use Rattle.fk_store.proofs.InStore.changing.Aims.{aim-reference}
use Rattle.fk_store.proofs.InStore.changing.Sets.{set-kept, set-edits, set-kinds, set-paths}
use Rattle.fk_store.proofs.InStore.changing.Leads.{leads-named}
use Rattle.fk_store.proofs.InStore.finding.Unfrozen.{known_well}
use Rattle.fk_store.proofs.store.store.Store.aim.Goals as goal

pub aim-requires-clause-reference : goal.aim-requires-clause-reference
aim-requires-clause-reference c = aim-reference _ c.self.invariant c.args.who c.args.to (rw (← c.self.view_is) at c.requires.kind)

pub aim-requires-clause-leads : goal.aim-requires-clause-leads
aim-requires-clause-leads c = leads-named _ c.self.invariant (Reference c.args.to) (rw (← c.self.view_is) at c.requires.to)

pub aim-requires-clause-known : goal.aim-requires-clause-known
aim-requires-clause-known c = known_well _ c.self.invariant

pub invariant_of-self : goal.invariant_of-self
invariant_of-self c = rw c.aim.ensures (set-kept _ c.self.invariant c.args.who (Reference c.args.to)
    (rw (← c.self.view_is) at c.requires.kind) tt (rw (← c.self.view_is) at c.requires.to) tt)

pub returns : goal.returns
returns c =
    let kind = rw (← c.self.view_is) at c.requires.kind in
    rw (c.aim.ensures, ← c.self.view_is) (record {
      edits = set-edits _ c.self.invariant c.args.who (Reference c.args.to) kind tt;
      kinds = set-kinds _ c.self.invariant c.args.who (Reference c.args.to) kind tt;
      paths = set-paths _ c.self.invariant c.args.who (Reference c.args.to) kind tt;
    })
