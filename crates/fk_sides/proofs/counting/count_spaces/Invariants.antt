use Rattle.std.proofs.Common.{◌≡◌, ◌+◌, ◌*◌, ◌-◌, ◌^◌, ◌≤◌, drop, length}
use Rattle.laws_restore.specs.Restore.Restore.{objects}
use Rattle.laws_restore.specs.Rooms.Rooms.{rooms_from}
use Rattle.fk_sides.proofs.counting.count_spaces.Given as goal

-- what was counted and what is to come are all
abbrev pub invariant-loop-space : goal.invariant-loop-space
invariant-loop-space l =
    (l.count + objects (rooms_from l.spaces l.number (drop l.number l.spaces)) ≡ objects (rooms_from l.spaces 0 l.spaces))
    × (l.count ≤ l.number * 2 ^ 64)
    × (l.number ≤ length l.spaces)

abbrev pub decreases-loop-space : goal.decreases-loop-space
decreases-loop-space l = length l.spaces - l.number
