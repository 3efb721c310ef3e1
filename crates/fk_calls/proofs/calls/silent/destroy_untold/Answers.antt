use Rattle.std.proofs.Common.{◌≡◌, [], subst}
use Rattle.fk_model.specs.Moves.{closed, stepped}
use Rattle.fk_model.specs.Outcomes as outcomes
use Rattle.fk_store.specs.Store.Paths.{path, place}
use Rattle.fk_store.specs.Store.World.{world}
use Rattle.fk_plans.specs.Plans.Destroys.{destroyed}
use Rattle.fk_plans.specs.Plans.Plans.{caller_by}
use Rattle.fk_plans.proofs.InPlans.Destroyed.{last_step, stays_step}
use Rattle.fk_calls.proofs.calls.silent.destroy_untold.Goals as goal

pub returns-then-last : goal.returns-then-last
returns-then-last c =
    let m = c.args.store.now in
    let by = caller_by (path m) c.args.caller [] in
    record {
      step = subst (λ (s : outcomes.Said). stepped (world m) (closed by (destroyed (world m) by (place (path m) c.args.object) c.args.last))
          ≡ record { world = world c.finish.new.store; said = s }) c.requires.untold
          (rw (c.if-last.true, c.finish.ensures.world, c.destroy.ensures.places c.args.caller.who c.requires.live, c.destroy.ensures.world)
          (last_step (world m) (path m) c.args.caller.who [] (place (path m) c.args.object) c.args.caller.is_porter c.requires.user));
    }

pub returns-else-last : goal.returns-else-last
returns-else-last c =
    let m = c.args.store.now in
    let by = caller_by (path m) c.args.caller [] in
    record {
      step = subst (λ (s : outcomes.Said). stepped (world m) (closed by (destroyed (world m) by (place (path m) c.args.object) c.args.last))
          ≡ record { world = world c.destroy.new.store; said = s }) c.requires.untold
          (rw (c.if-last.false, c.destroy.ensures.world)
          (stays_step (world m) (path m) c.args.caller.who [] (place (path m) c.args.object) c.args.caller.is_porter c.requires.user));
    }
