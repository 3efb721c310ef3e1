use Rattle.std.proofs.Common.{◌≡◌, ℕ, [], ◌%◌, ◌^◌}
use Rattle.fk_rlock.specs.Rule.{queued}
use Rattle.fk_rlock.proofs.ruled.Ruled.await_turn.Given as goal

abbrev pub invariant-loop : goal.invariant-loop
invariant-loop g l =
    (goal.iterator-loop g).can_next l.iterator' × (goal.iterator-loop g).is_finite l.iterator'
    × (l.seat.table_id ≡ l.initial.seat.table_id) × ((t : ℕ) × (t % 2 ^ 64 ≡ l.ticket)
    × (l.seat.me ≡ (queued t l.initial.seat.me.0.seen l.initial.seat.me.0.parts l.initial.seat.me.0.boot, [])))
