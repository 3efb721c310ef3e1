use Rattle.std.proofs.Common.{◌≤◌, None, Some, subst, ◌∙◌, arith}
use Rattle.fk_model.specs.Searches.{depth}
use Rattle.fk_store.specs.Store.Paths.{path, place}
use Rattle.fk_store.specs.Store.World.{world, IsLive}
use Rattle.fk_changes.proofs.InDeaths.Clients.{AreEnding, ending_first, ending_more, ending_all, first_same, named_same}
use Rattle.fk_changes.proofs.deaths.deaths.end_with_port.Goals as goal

pub returns-then-end_found-clause-ends : goal.returns-then-end_found-clause-ends
returns-then-end_found-clause-ends c = c.end_found.ensures.all c.if-end_found.true

pub loop-at-init : goal.loop-at-init
loop-at-init c =
    let m = c.args.store.now in
    let found = c.end_found.ensures in
    record {
      ending = ending_first (world m) (world c.end_found.new.store) (place (path m) c.args.port) (IsLive m) (path m) c.after-at.result found.ended
          (first_same m c.end_found.new.store found.kinds found.paths None c.after-at.result c.after-at.ensures.first);
      kinds = found.kinds;
      paths = found.paths;
    }

pub loop-at-preserved : goal.loop-at-preserved
loop-at-preserved c =
    let m = c.args.store.now in
    let so_far = subst (AreEnding (world m) (world c.loop-at.store) (place (path m) c.args.port) (IsLive m) (path m)) c.in-Some.is c.loop-at.invariant.ending in
    let kept = c.loop-at.invariant in
    let done = c.end_client.ensures in
    record {
      ending = ending_more (world m) (world c.loop-at.store) (world c.end_client.new.store) (place (path m) c.args.port) (IsLive m) (IsLive m) (path m)
          c.in-Some.who c.after-at-in-Some.result so_far (λ other live. live) (rw kept.paths at done.ends)
          (first_same m c.end_client.new.store (done.kinds ∙ kept.kinds) (done.paths ∙ kept.paths) (Some c.in-Some.who) c.after-at-in-Some.result
          c.after-at-in-Some.ensures.first);
      kinds = done.kinds ∙ kept.kinds;
      paths = done.paths ∙ kept.paths;
    }

pub returns-clause-ends : goal.returns-clause-ends
returns-clause-ends c =
    let m = c.args.store.now in
    let few : (world m).next ≤ depth = omega (arith, c.next_birth-below_2_32.ensures) in
    ending_all m (world c.loop-at.store) (place (path m) c.args.port) c.requires.valid few
    (named_same m c.end_found.new.store c.end_found.ensures.kinds c.end_found.ensures.paths c.after-at.ensures.named)
    (subst (AreEnding (world m) (world c.loop-at.store) (place (path m) c.args.port) (IsLive m) (path m)) c.in_default.is c.loop-at.invariant.ending)
