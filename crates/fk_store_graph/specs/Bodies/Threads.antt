-- Threads: what becomes of a thread where it stands.
use Rattle.std.specs.Prelude.{ℕ, List}
use Rattle.fk_model.specs.declared.body.Body.{Body}
use Rattle.fk_model.specs.declared.body.Body.TheVariants.{Mutex, Cond, Mapping, Region, Port, Portset, Space, Thread, Reference}
use Rattle.fk_model.specs.declared.thread.Mode.{Mode}

-- a thread with these registers, at this counter and in this mode; what is no thread stays as it is
abbrev pub proceeded : List ℕ → ℕ → Mode → Body → Body
proceeded registers counter mode (Mutex locked) = Mutex locked
proceeded registers counter mode Cond = Cond
proceeded registers counter mode (Mapping first count offset write region) = Mapping first count offset write region
proceeded registers counter mode (Region first count write keeper) = Region first count write keeper
proceeded registers counter mode (Port set served) = Port set served
proceeded registers counter mode Portset = Portset
proceeded registers counter mode (Space birth holder) = Space birth holder
proceeded registers counter mode (Thread thread) = Thread (record thread { regs = registers; pc = counter; mode = mode })
proceeded registers counter mode (Reference to) = Reference to
