use Rattle.std.proofs.Common.{false, true, arith}
use Rattle.fk_store.specs.Store.Names.{at}
use Rattle.fk_store.specs.Store.Paths.{path}
use Rattle.fk_cut.proofs.InClosing.Openings.{finds, goes_past, parts_past, kept_some, none_left}
use Rattle.fk_cut.proofs.closing.closing.first_open.Goals as goal

pub returns-then-is_some : goal.returns-then-is_some
returns-then-is_some c = finds c.args.store.now (path c.args.store.now c.args.root.space) c.args.root.slot c.args.objects.now c.loop-who.who-index (at 0 0)
    c.loop-who-test.true _ c.in_ok-found.ensures (kept_some true c.in_ok-found.found c.if-is_some.ensures) c.loop-who.invariant.first

pub loop-who-preserved : goal.loop-who-preserved
loop-who-preserved c = record {
  parts = parts_past c.args.store.now (path c.args.store.now c.args.root.space) c.args.root.slot c.args.objects.now c.loop-who.who-index (at 0 0)
      c.loop-who-test.true c.args.root c.loop-who.invariant.parts;
  first = goes_past c.args.store.now (path c.args.store.now c.args.root.space) c.args.root.slot c.args.objects.now c.loop-who.who-index (at 0 0)
      c.loop-who-test.true _ c.in_ok-found.ensures (kept_some false c.in_ok-found.found c.if-is_some.ensures) c.loop-who.invariant.first;
}

pub returns : goal.returns
returns c = none_left c.args.store.now (path c.args.store.now c.args.root.space) c.args.root.slot c.args.objects.now c.loop-who.who-index (omega arith)
    c.loop-who.invariant.first
