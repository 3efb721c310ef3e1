use Rattle.std.proofs.Common.{refl}
use Rattle.fk_calls.proofs.calls.judging.is_held.Goals as goal

pub returns-then-not-is_any_held : goal.returns-then-not-is_any_held
returns-then-not-is_any_held c = rw (c.is_any_held.ensures (cc) _) refl
