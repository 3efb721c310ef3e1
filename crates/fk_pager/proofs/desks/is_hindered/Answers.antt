use Rattle.std.proofs.Common.{◌≡◌, true}
use Rattle.fk_store.specs.Store.Paths.{path}
use Rattle.fk_store.specs.Store.World.{world, place_of}
use Rattle.fk_pager.specs.Seen.{is_hindrance}
use Rattle.fk_pager.proofs.Searching.{IsAhead}
use Rattle.fk_pager.proofs.Rooted.{none-bars}
use Rattle.fk_pager.proofs.desks.is_hindered.Goals as goal

pub returns-clause-none : goal.returns-clause-none
returns-clause-none c _ =
    let m = c.args.store.now in
    let ahead : IsAhead m (λ other. is_hindrance (path m c.args.space) c.args.desk.port c.args.desk.set (path m other.space) other.slot
    ((world m).body (place_of m other)) ≡ true) c.loop-at.at = c.loop-at.invariant in
    none-bars m (path m c.args.space) c.args.desk.port c.args.desk.set c.after-at.ensures.named (rw c.in_default.is at ahead)
