use Rattle.std.proofs.Common.{refl, ap}
use Rattle.fk_model.specs.declared.thread.Mode.{Mode}
use Rattle.fk_store.specs.Store.Bodies.{mode_by}
use Rattle.fk_stretch.proofs.stretch.running_of.Goals as goal

pub returns-in-Running : goal.returns-in-Running
returns-in-Running c = record { mode = ap (λ (k : Mode). mode_by k c.args.thread.now.regs) c.in-Running.is; counter = refl }
