use Rattle.std.proofs.Common.{inl, inr}
use Rattle.fk_calls.proofs.InCalls.Doings.{does_run, does_call, idle_halted, idle_native, idle_unnamed}
use Rattle.fk_calls.proofs.calls.doing.next_of.Goals as goal

pub returns-in-Running : goal.returns-in-Running
returns-in-Running c w x p there = does_run w x p _ there c.in-Running.is

pub returns-in-Some : goal.returns-in-Some
returns-in-Some c w x p there = does_call w x p _ _ there c.in-Calling.is c.in-Some.ensures

pub returns-in-None : goal.returns-in-None
returns-in-None c w x p there pick = idle_unnamed w x p pick _ there c.in-Calling.is c.in-None.ensures

pub returns-in-Halted : goal.returns-in-Halted
returns-in-Halted c w x p there pick = elim c.in-Halted.is [
  | inl halted ↦ idle_halted w x p pick _ halted.0 there halted.1
  | inr native ↦ idle_native w x p pick _ there native
]
