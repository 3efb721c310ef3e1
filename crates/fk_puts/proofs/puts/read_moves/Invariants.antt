use Rattle.std.proofs.Common.{All, take}
use Rattle.fk_puts.proofs.puts.read_moves.Given as goal
use Rattle.fk_trace_text.specs.Trace.{IsMove}

abbrev pub invariant-loop-one : goal.invariant-loop-one
invariant-loop-one l = All IsMove (take l.one-index l.moves)
