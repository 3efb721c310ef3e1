use Rattle.std.proofs.Common.{None, Some}
use Rattle.fk_plans.specs.declared.wakes.touching.Touched.TheVariants.{Few}
use Rattle.fk_turns.proofs.InSteps.Went.{not_quiet}
use Rattle.fk_turns.proofs.steps.serving.after_act.Goals as goal

pub after_plain-requires : goal.after_plain-requires
after_plain-requires c =
    let was = c.args.turns.now in
    record {
      valid = c.requires.valid;
      quiet = not_quiet c.args.store.now c.args.port (Few (Some c.args.client) None None) was.waits was.marks;
      comes = c.requires.comes;
    }
