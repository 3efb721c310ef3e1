-- Nudges: small changes of a thread, or of a mutex, by which it leads where it led.
use Rattle.std.specs.Prelude.{Bool, option_map}
use Rattle.fk_model.specs.declared.body.Body.{Body}
use Rattle.fk_model.specs.declared.body.Body.TheVariants.{Mutex, Cond, Mapping, Region, Port, Portset, Space, Thread, Reference}
use Rattle.fk_model.specs.declared.thread.Thread.{Thread as State}
use Rattle.fk_store_graph.specs.declared.leads.nudges.Nudge.{Nudge}
use Rattle.fk_store_graph.specs.declared.leads.nudges.Nudge.TheVariants.{Counts, Locks, Passes, Stops}
pub use Rattle.fk_store_cells.specs.Objects.Threads.{counted, passed}

abbrev pub nudged_thread : Nudge → State → State
nudged_thread (Counts count) t = record t { talk = option_map (counted count) t.talk }
nudged_thread (Passes turn) t = record t { talk = option_map (passed turn) t.talk }
nudged_thread (Stops stops) t = record t { stops = stops }
nudged_thread (Locks locked) t = t

abbrev pub nudged_mutex : Nudge → Bool → Bool
nudged_mutex (Counts count) old = old
nudged_mutex (Passes turn) old = old
nudged_mutex (Stops stops) old = old
nudged_mutex (Locks locked) old = locked

-- what is neither a thread nor a mutex stays as it is
abbrev pub nudged : Nudge → Body → Body
nudged change (Mutex locked) = Mutex (nudged_mutex change locked)
nudged change Cond = Cond
nudged change (Mapping first count offset write region) = Mapping first count offset write region
nudged change (Region first count write keeper) = Region first count write keeper
nudged change (Port set served) = Port set served
nudged change Portset = Portset
nudged change (Space birth holder) = Space birth holder
nudged change (Thread thread) = Thread (nudged_thread change thread)
nudged change (Reference to) = Reference to
