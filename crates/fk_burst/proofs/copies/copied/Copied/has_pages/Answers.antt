use Rattle.std.proofs.Common.{arith, rules}
use Rattle.fk_store.specs.Store.Paths.{path, place}
use Rattle.fk_store.specs.Store.World.{world}
use Rattle.fk_burst.specs.Copies.Copies.{IsSameAt}
use Rattle.fk_burst.proofs.InCopies.Places.{all_pages, one-more, other_pages}
use Rattle.fk_burst.proofs.copies.copied.Copied.has_pages.Goals as goal

pub loop-k-init : goal.loop-k-init
loop-k-init c = record { same = λ j less. absurd (omega (arith, less)) }

pub loop-k-preserved : goal.loop-k-preserved
loop-k-preserved c = record {
  same = one-more (IsSameAt (world c.args.store.now) (path c.args.store.now c.args.thread.space) c.args.self.now c.args.taken.now) c.loop-k.k
      c.loop-k.invariant.same (c.is_same_at.ensures.0 (search rules));
}

pub returns-clause-same : goal.returns-clause-same
returns-clause-same c = all_pages (world c.args.store.now) c.args.self.now c.args.taken.now (place (path c.args.store.now) c.args.thread) c.loop-k.k
    c.places.ensures (omega arith) c.loop-k.invariant.same

pub returns-then-not-is_same_at-clause-other : goal.returns-then-not-is_same_at-clause-other
returns-then-not-is_same_at-clause-other c = other_pages (world c.args.store.now) c.args.self.now c.args.taken.now
    (place (path c.args.store.now) c.args.thread) c.loop-k.k c.is_same_at.result (search rules) c.is_same_at.ensures
