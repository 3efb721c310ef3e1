use Rattle.fk_store.specs.Store.World.{place_of}
use Rattle.fk_turns.proofs.InPicks.Scans.{IsAhead, left_from}
use Rattle.fk_turns.specs.Picks.Stands.{IsPicked}
use Rattle.fk_turns.proofs.picks.moves.picked_of_all.Given as goal

-- each that may be picked is yet to come
abbrev pub invariant-loop-at : goal.invariant-loop-at
invariant-loop-at l = IsAhead l.store (λ other. IsPicked l.store l.picker (place_of l.store other)) l.at

abbrev pub decreases-loop-at : goal.decreases-loop-at
decreases-loop-at l = left_from l.store l.at
