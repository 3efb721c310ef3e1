use Rattle.std.proofs.Common.{sym}
use Rattle.fk_store.specs.Store.Names.{at}
use Rattle.fk_store.specs.Store.Paths.{path}
use Rattle.fk_cut.proofs.InClosing.Openings.{parts_past}
use Rattle.fk_cut.proofs.InCuts.Pages.{one_object, more_pages}
use Rattle.fk_cut.proofs.cuts.cutting.shown_all.Goals as goal

pub loop-who-preserved : goal.loop-who-preserved
loop-who-preserved c =
    let m = c.args.store.now in
    let i = c.loop-who.who-index in
    record {
      parts = parts_past m (path m c.args.root.space) c.args.root.slot c.args.whos.now i (at 0 0) c.loop-who-test.true c.args.root c.loop-who.invariant.parts;
      objects = one_object m c.args.root (at 0 0) c.args.whos.now i c.loop-who.objects c.push.new.self c.in_ok-object.object c.loop-who-test.true
          c.loop-who.invariant.objects c.in_ok-object.ensures c.in_ok-push.ensures.ok;
      pages = more_pages m c.args.root (at 0 0) c.args.whos.now i c.loop-who.pages c.add_pages.new.pages c.loop-who-test.true
          c.loop-who.invariant.pages c.in_ok-add_pages.ensures;
    }
