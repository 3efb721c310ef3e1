use Rattle.std.proofs.Common.{◌≤◌, length, drop}
use Rattle.fk_waits.specs.Causes.Names.{AreNear, AreRight}
use Rattle.fk_waits.proofs.causes.names.places_for.Given as goal

abbrev pub invariant-loop-at : goal.invariant-loop-at
invariant-loop-at l = (l.at ≤ length l.items) × AreNear l.near.items (drop l.at l.items) × AreRight l.near.items l.items

abbrev pub decreases-loop-at : goal.decreases-loop-at
decreases-loop-at l = l.at
