use Rattle.std.proofs.Common.{◌≡◌, [], Some, sym, subst}
use Rattle.std.specs.BTreeMap.{values}
use Rattle.std.proofs.lemmas.List.Elements.{All-nil}
use Rattle.fk_store.specs.Store.World.{world}
use Rattle.fk_report.specs.Threads.{IsKept, AreKept}
use Rattle.fk_report.proofs.ThreadScans.{AreFound, found-first, found-more, found-all}
use Rattle.fk_report.proofs.threads.kept_of.Goals as goal

pub loop-at-init : goal.loop-at-init
loop-at-init c =
    let empty : c.new-kept.result.entries ≡ [] = c.new-kept.ensures.empty in
    record {
      kept = subst (AreKept (world c.args.store.now)) (sym empty) (All-nil (IsKept (world c.args.store.now)));
      found = rw empty (found-first c.args.store.now c.after-at.result c.after-at.ensures.first);
    }

pub loop-at-preserved : goal.loop-at-preserved
loop-at-preserved c =
    let kept = c.loop-at.invariant.kept in
    let found : AreFound c.args.store.now (Some c.in-Some.who)
    (values c.loop-at.kept) = subst (λ at. AreFound c.args.store.now at (values c.loop-at.kept)) c.in-Some.is c.loop-at.invariant.found in
    let more = c.in_ok-keep_at.ensures in
    record {
      kept = more.kept kept;
      found = found-more c.args.store.now c.in-Some.who c.after-at-in-Some.result _ _ found (more.others kept) more.itself c.after-at-in-Some.ensures.first;
    }

pub returns-clause-whole : goal.returns-clause-whole
returns-clause-whole c = found-all c.args.store.now (values c.loop-at.kept)
    c.after-at.ensures.named (subst (λ at. AreFound c.args.store.now at (values c.loop-at.kept)) c.in_default.is c.loop-at.invariant.found)
