use Rattle.fk_store.proofs.InStore.changing.Faulting.{fault_edits, fault_kept, fault_kinds, fault_leads, fault_paths, thread_there}
use Rattle.fk_store.proofs.store.store.Store.put_fault.Goals as goal

pub set_fault-requires-clause-thread : goal.set_fault-requires-clause-thread
set_fault-requires-clause-thread c =
    thread_there _ c.self.invariant c.args.who c.args.fault (rw (← c.self.view_is) at c.requires.kind) (rw (← c.self.view_is) at c.requires.named)

pub set_fault-requires-clause-leads : goal.set_fault-requires-clause-leads
set_fault-requires-clause-leads c =
    fault_leads _ c.self.invariant c.args.who c.args.fault (rw (← c.self.view_is) at c.requires.kind) (rw (← c.self.view_is) at c.requires.named)

pub invariant_of-self : goal.invariant_of-self
invariant_of-self c =
    let kind = rw (← c.self.view_is) at c.requires.kind in
    let named = rw (← c.self.view_is) at c.requires.named in
    let t = thread_there _ c.self.invariant c.args.who c.args.fault kind named in
    fault_kept _ c.self.invariant c.args.who c.args.fault kind named t.0 t.1 _ (c.set_fault.ensures t.0 t.1)

pub returns : goal.returns
returns c =
    let kind = rw (← c.self.view_is) at c.requires.kind in
    let named = rw (← c.self.view_is) at c.requires.named in
    let t = thread_there _ c.self.invariant c.args.who c.args.fault kind named in
    rw (← c.self.view_is) (record {
      edits = fault_edits _ c.self.invariant c.args.who c.args.fault kind named t.0 t.1 _ (c.set_fault.ensures t.0 t.1);
      kinds = fault_kinds _ c.self.invariant c.args.who c.args.fault kind named t.0 t.1 _ (c.set_fault.ensures t.0 t.1);
      paths = fault_paths _ c.self.invariant c.args.who c.args.fault kind named t.0 t.1 _ (c.set_fault.ensures t.0 t.1);
    })
