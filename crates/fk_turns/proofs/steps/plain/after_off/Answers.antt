use Rattle.std.proofs.Common.{None}
use Rattle.fk_plans.specs.declared.wakes.touching.Touched.TheVariants.{Few}
use Rattle.fk_turns.proofs.InSteps.Went.{not_quiet}
use Rattle.fk_turns.proofs.steps.plain.after_off.Goals as goal

pub after_plain-requires : goal.after_plain-requires
after_plain-requires c =
    let was = c.args.turns.now in
    record {
      valid = c.requires.valid;
      quiet = not_quiet c.args.store.now c.args.mover (Few None None None) was.waits was.marks;
      comes = c.requires.comes;
    }
