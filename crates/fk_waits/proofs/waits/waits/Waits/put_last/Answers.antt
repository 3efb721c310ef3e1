use Rattle.std.proofs.Common.{ap, subst, sym, ◌∙◌}
use Rattle.fk_waits.specs.Waits.Lists.{settled, IsLastFor}
use Rattle.fk_waits.specs.Waits.Threads.{lists_of, pairs_of}
use Rattle.fk_waits.proofs.InWaits.Last.{last_settled}
use Rattle.fk_waits.proofs.InWaits.Listed.{count_settled, fits, kept_settled, queued_least, queued_most, settled_lists}
use Rattle.fk_waits.proofs.waits.waits.Waits.put_last.Goals as goal

pub settle-waited-requires : goal.settle-waited-requires
settle-waited-requires c = fits c.self.inside.threads c.args.thread c.args.self.now c.self.invariant.kept.there c.self.view_is c.requires

pub counted-self-inside-requires : goal.counted-self-inside-requires
counted-self-inside-requires c =
    let t = c.self.inside.threads in
    let k = c.self.invariant.kept in
    record {
      some = queued_least t c.args.thread c.settle-waited.result k.there (c.settle-waited.ensures.waited (pairs_of t) k.there) k.count;
      few = queued_most t k.there k.count;
    }

pub invariant_of-self : goal.invariant_of-self
invariant_of-self c =
    let t = c.self.inside.threads in
    let k = c.self.invariant.kept in
    let lists = settled_lists t c.settle-waited.new.self (pairs_of t) k.there c.settle-waited.ensures.seats c.args.thread c.args.cause
    (c.settle-waited.ensures.there (pairs_of t) k.there) in
    record {
      kept = kept_settled t c.settle-waited.new.self c.args.thread c.args.cause k.there (c.settle-waited.ensures.there (pairs_of t) k.there)
          (count_settled t c.args.thread c.args.cause k.there k.count (c.settle-waited.ensures.waited (pairs_of t) k.there)
          c.is_some.ensures c.counted-self-inside.ensures);
      last_is = subst (IsLastFor c.args.thread c.args.cause) (sym lists) (last_settled c.args.thread c.args.cause (lists_of t));
    }

pub returns : goal.returns
returns c =
    let t = c.self.inside.threads in
    let k = c.self.invariant.kept in
    settled_lists t c.settle-waited.new.self (pairs_of t) k.there c.settle-waited.ensures.seats c.args.thread c.args.cause
    (c.settle-waited.ensures.there (pairs_of t) k.there) ∙ ap (settled c.args.thread c.args.cause) c.self.view_is
