use Rattle.fk_store_graph.proofs.InBodies.NudgeLaws.{edits-along, counts_is, locks_is, passes_is, stops_is}
use Rattle.fk_store_graph.proofs.bodies.bodies.nudge_under.Goals as goal

pub returns-in-Counts : goal.returns-in-Counts
returns-in-Counts c = rw c.in-Counts.is (edits-along _ _ c.args.key _ _ (counts_is c.in-Counts.words) c.count.ensures)

pub returns-in-Passes : goal.returns-in-Passes
returns-in-Passes c = rw c.in-Passes.is (edits-along _ _ c.args.key _ _ (passes_is c.in-Passes.turn) c.pass.ensures)

pub returns-in-Stops : goal.returns-in-Stops
returns-in-Stops c = rw c.in-Stops.is (edits-along _ _ c.args.key _ _ (stops_is c.in-Stops.stops) c.stop.ensures)

pub returns-in-Locks : goal.returns-in-Locks
returns-in-Locks c = rw c.in-Locks.is (edits-along _ _ c.args.key _ _ (locks_is c.in-Locks.locked) c.lock.ensures)
