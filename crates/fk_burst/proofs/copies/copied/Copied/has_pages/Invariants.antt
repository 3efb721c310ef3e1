use Rattle.std.proofs.Common.{ℕ, ◌<◌}
use Rattle.fk_store.specs.Store.Paths.{path}
use Rattle.fk_store.specs.Store.World.{world}
use Rattle.fk_burst.specs.Copies.Copies.{IsSameAt}
use Rattle.fk_burst.proofs.copies.copied.Copied.has_pages.Given as goal

-- the pages at the places so far are the same
abbrev pub invariant-loop-k : goal.invariant-loop-k
invariant-loop-k l = record {
  same : (j : ℕ) → j < l.k → IsSameAt (world l.store) (path l.store l.thread.space) l.self l.taken j;
}
