use Rattle.std.proofs.Common.{◌≡◌}
use Rattle.fk_store.specs.Store.World.{world}
use Rattle.fk_lone.specs.LoneThread.{filled}
use Rattle.fk_lone.proofs.machine.filled.Given as goal

-- so many pages are there
abbrev pub invariant-loop-page : goal.invariant-loop-page
invariant-loop-page l = world l.store ≡ filled l.page l.words
