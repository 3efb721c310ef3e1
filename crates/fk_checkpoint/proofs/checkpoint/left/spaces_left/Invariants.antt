use Rattle.std.proofs.Common.{◌≡◌}
use Rattle.fk_checkpoint.specs.Gathering.Gathering.{paths_left}
use Rattle.fk_checkpoint.proofs.InCheckpoint.Lefts.{spaces_from}
use Rattle.fk_checkpoint.proofs.checkpoint.left.spaces_left.Given as goal

-- those behind the place are listed
abbrev pub invariant-loop-at : goal.invariant-loop-at
invariant-loop-at l = paths_left l.left.items ≡ spaces_from l.at l.mets

abbrev pub decreases-loop-at : goal.decreases-loop-at
decreases-loop-at l = l.at
