use Rattle.fk_store.proofs.InStore.finding.Founded.{found-body, found-kind, found-space, found-home, found-named, found-apart, found-sized}
use Rattle.fk_store.proofs.store.store.Store.at.Goals as goal

pub returns : goal.returns
returns c = rw (← c.self.view_is) (record {
  body = found-body _ c.self.invariant c.args.who c.at.result c.at.ensures;
  kind = found-kind _ c.self.invariant c.args.who c.at.result c.at.ensures;
  space = found-space _ c.self.invariant c.args.who c.at.result c.at.ensures;
  home = found-home _ c.self.invariant c.args.who c.at.result c.at.ensures;
  named = found-named _ c.self.invariant c.args.who c.at.result c.at.ensures;
  sized = found-sized _ c.self.invariant c.args.who c.at.result c.at.ensures;
  apart = found-apart _ c.self.invariant c.args.who c.at.result c.at.ensures;
})
