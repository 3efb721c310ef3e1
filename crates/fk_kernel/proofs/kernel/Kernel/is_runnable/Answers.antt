use Rattle.fk_store.specs.Store.World.{world}
use Rattle.fk_kernel.proofs.Promises.{sized-runnable}
use Rattle.fk_kernel.proofs.kernel.Kernel.is_runnable.Goals as goal

pub returns : goal.returns
returns c = rw (← c.self.view_is) (record {
  runnable = sized-runnable (world c.self.inside.store) c.self.invariant.valid c.names.ensures.few c.sizes.ensures.pages c.sizes.ensures.registers;
  shaped = c.sizes.ensures.shaped;
})
