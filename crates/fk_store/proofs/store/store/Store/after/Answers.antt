use Rattle.fk_store.specs.Store.Names.{who_cmp}
use Rattle.fk_store.proofs.InStore.finding.LookUps.{there-IsLive, IsLive-there}
use Rattle.fk_store.proofs.InStore.finding.Enumerated.{first_after-map, named-object}
use Rattle.fk_store.proofs.InStore.finding.Scans.{rank-rises, rank-ends}
use Rattle.fk_store.proofs.store.store.Store.after.Goals as goal

pub returns : goal.returns
returns c = rw (← c.self.view_is) (record {
  first = first_after-map who_cmp _ _ (there-IsLive _ c.self.invariant) (IsLive-there _ c.self.invariant) c.args.who c.after.result c.after.ensures;
  rises = rank-rises _ c.self.invariant c.args.who c.after.result c.after.ensures;
  ends = rank-ends _ c.self.invariant c.args.who c.after.result c.after.ensures;
  named = named-object _ c.self.invariant;
})
