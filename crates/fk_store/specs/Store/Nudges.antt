-- Nudges: the edit that a small change of a thread, or of a mutex, is.
use Rattle.fk_model.specs.World.{Edit}
use Rattle.fk_model.specs.World.Edit.{CountMoved, PassTurn, SetLocked, SetStops}
use Rattle.fk_store_graph.specs.declared.leads.nudges.Nudge.{Nudge}
use Rattle.fk_store_graph.specs.declared.leads.nudges.Nudge.TheVariants.{Counts, Locks, Passes, Stops}

-- a small change of a thread as the machine's
abbrev pub edit_of : Nudge → Edit
edit_of (Counts count) = CountMoved count
edit_of (Passes turn) = PassTurn turn
edit_of (Stops stops) = SetStops stops
edit_of (Locks locked) = SetLocked locked
