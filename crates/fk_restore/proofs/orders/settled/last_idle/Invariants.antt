use Rattle.std.proofs.Common.{◌≡◌, ℕ, ◌<◌, ◌≤◌, ◌-◌, true, length}
use Rattle.std.specs.Prelude.{slice_get}
use Rattle.fk_restore.specs.Orders.Left.{idle_in}
use Rattle.fk_restore.proofs.orders.settled.last_idle.Given as goal

abbrev pub invariant-loop-pass : goal.invariant-loop-pass
invariant-loop-pass l = (l.item ≤ l.last) × ((i : ℕ) → l.item < i → i ≤ l.last → idle_in l.pass (slice_get l.objects i) ≡ true)

abbrev pub decreases-loop-pass : goal.decreases-loop-pass
decreases-loop-pass l = length l.objects - l.last
