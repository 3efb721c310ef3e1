use Rattle.std.proofs.Common.{◌≡◌, ◌++◌, drop}
use Rattle.fk_history.specs.Repeats.{moves_in}
use Rattle.fk_history.proofs.repeats.write_all.Given as goal

-- with those that are left, all are written
abbrev pub invariant-loop-one : goal.invariant-loop-one
invariant-loop-one l = l.all.items ++ moves_in (drop l.one-index l.repeats) ≡ l.fn.all.items ++ moves_in l.repeats
