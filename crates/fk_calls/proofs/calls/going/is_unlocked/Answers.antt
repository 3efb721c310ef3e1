use Rattle.std.proofs.Common.{refl}
use Rattle.fk_calls.proofs.calls.going.is_unlocked.Goals as goal

pub is_open-requires-clause-alone : goal.is_open-requires-clause-alone
is_open-requires-clause-alone c = (rw c.in-MutexLock.is at c.requires.alone) refl
