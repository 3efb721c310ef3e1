use Rattle.std.proofs.Common.{subst}
use Rattle.fk_burst.specs.Burst.Commits.{CommitsSo}
use Rattle.fk_workers.proofs.InBooks.Bursting.{makes_moves}
use Rattle.fk_workers.proofs.books.cores.CorePlayable.burst.Goals as goal

pub burst-requires-clause-makes : goal.burst-requires-clause-makes
burst-requires-clause-makes g c = λ k n done returns.
    makes_moves c.args.lease.now _ _ _ k n done c.thread.ensures c.count-made.ensures
    (subst (λ x. CommitsSo c.args.lease.now _ x done n) returns.shows
    (subst (λ y. CommitsSo c.args.lease.now _ returns.shown.now done y) returns.leaves returns.met))
