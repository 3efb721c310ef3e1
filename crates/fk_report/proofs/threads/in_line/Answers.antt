use Rattle.std.proofs.Common.{Some, subst}
use Rattle.std.proofs.lemmas.Bool.{OnTrue_at}
use Rattle.fk_store.specs.Store.World.{world}
use Rattle.fk_report.proofs.Lines.{no-line}
use Rattle.fk_report.proofs.ThreadScans.{AreFound, found-first, found-more, found-all}
use Rattle.fk_report.proofs.threads.in_line.Goals as goal

pub loop-at-init : goal.loop-at-init
loop-at-init c = record {
  line = rw (c.new.ensures, c.new-2.ensures.items) (no-line (world c.args.store.now));
  found = rw (c.new.ensures) (found-first c.args.store.now c.after-at.result c.after-at.ensures.first);
}

pub loop-at-preserved : goal.loop-at-preserved
loop-at-preserved c =
    let line = c.loop-at.invariant.line in
    let found : AreFound c.args.store.now (Some c.in-Some.who) c.loop-at.line.threads =
    subst (λ at. AreFound c.args.store.now at c.loop-at.line.threads) c.in-Some.is c.loop-at.invariant.found in
    let more = c.in_ok-line_up_at.ensures in
    let yes = c.if-not-branch.false in
    record {
      line = OnTrue_at yes (more.line line);
      found = found-more c.args.store.now c.in-Some.who c.after-at-in-Some.result _ _ found (λ t is there. OnTrue_at yes (more.others t there))
          (λ t is. OnTrue_at yes (more.itself t is)) c.after-at-in-Some.ensures.first;
    }

pub returns : goal.returns
returns c = record {
  each = c.loop-at.invariant.line.each;
  whole = found-all c.args.store.now c.loop-at.line.threads c.after-at.ensures.named
      (subst (λ at. AreFound c.args.store.now at c.loop-at.line.threads) c.in_default.is c.loop-at.invariant.found);
  ordered = c.loop-at.invariant.line.ordered;
}
