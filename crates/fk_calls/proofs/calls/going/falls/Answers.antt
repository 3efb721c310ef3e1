use Rattle.std.proofs.Common.{false, refl, ◌∙◌}
use Rattle.fk_model.specs.declared.stage.Stage.TheVariants.{CondWait}
use Rattle.fk_changes.proofs.InThreads.Falling.{first_unlocked}
use Rattle.fk_store.specs.Store.Paths.{path, place}
use Rattle.fk_store.specs.Store.World.{world}
use Rattle.fk_calls.proofs.calls.going.falls.Goals as goal

pub fall_asleep-requires : goal.fall_asleep-requires
fall_asleep-requires c =
    let m = c.args.store.now in
    record {
      waits = rw (c.set_locked.ensures.paths, c.set_locked.ensures.world)
          (first_unlocked (world m) (place (path m) c.args.mutex) (place (path m) c.args.who) false (CondWait c.args.c c.args.m) c.requires.waits);
    }

pub returns : goal.returns
returns c = record {
  world = rw (c.fall_asleep.ensures.world, c.set_locked.ensures.paths, c.set_locked.ensures.world) refl;
  paths = c.fall_asleep.ensures.paths ∙ c.set_locked.ensures.paths;
}
