use Rattle.std.proofs.Common.{◌≡◌, true}
use Rattle.fk_store.specs.Store.Paths.{path}
use Rattle.fk_store.specs.Store.World.{world, place_of}
use Rattle.fk_pager.specs.Seen.{is_hindrance}
use Rattle.fk_pager.proofs.Searching.{IsAhead, left_from}
use Rattle.fk_pager.proofs.desks.is_hindered.Given as goal

-- each that bars the pager is yet to come
abbrev pub invariant-loop-at : goal.invariant-loop-at
invariant-loop-at l = IsAhead l.store (λ other. is_hindrance (path l.store l.space) l.desk.port l.desk.set (path l.store other.space) other.slot
    ((world l.store).body (place_of l.store other)) ≡ true) l.at

abbrev pub decreases-loop-at : goal.decreases-loop-at
decreases-loop-at l = left_from l.store l.at
