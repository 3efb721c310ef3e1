use Rattle.fk_store.specs.Store.Paths.{path, place}
use Rattle.fk_store.specs.Store.World.{world}
use Rattle.fk_plans.specs.Plans.Plans.{caller_by}
use Rattle.fk_links.proofs.Served.{server_ends, server_idle}
use Rattle.fk_links.proofs.leaving.server_leaves.Goals as goal

pub returns-in-None-clause-row : goal.returns-in-None-clause-row
returns-in-None-clause-row c =
    let p = path c.args.store.now in
    record {
      outcome = λ words. server_idle (world c.args.store.now) (caller_by p c.args.caller words) (c.in-None.ensures.client c.requires.valid.consistent);
      fits = tt;
    }

pub returns-in-Some-clause-row : goal.returns-in-Some-clause-row
returns-in-Some-clause-row c =
    let p = path c.args.store.now in
    record {
      outcome = λ words. rw (c.removal-plan.ensures.changes words) (server_ends (world c.args.store.now) (caller_by p c.args.caller words)
          (place p c.in-Some.client) c.requires.user (c.in-Some.ensures.client c.requires.valid.consistent));
      fits = (c.removal-plan.ensures.fits c.args.caller, λ given. tt);
    }
