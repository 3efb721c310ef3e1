use Rattle.std.proofs.Common.{◌≡◌, true, nat_lt, take}
use Rattle.std.specs.List.{list_all}
use Rattle.fk_runs.proofs.recordings.ports.read_slots.Given as goal

abbrev pub invariant-loop-slot : goal.invariant-loop-slot
invariant-loop-slot l = list_all (λ slot. nat_lt slot 256) (take l.slot-index l.slots) ≡ true
