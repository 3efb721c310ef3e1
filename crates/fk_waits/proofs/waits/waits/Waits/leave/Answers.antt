use Rattle.std.proofs.Common.{ap, ◌∙◌}
use Rattle.fk_waits.specs.Waits.Lists.{last_without, left, Lists}
use Rattle.fk_waits.specs.Waits.Threads.{besides, lists_of, pairs_of}
use Rattle.fk_waits.proofs.InWaits.Last.{last_left, last_there}
use Rattle.fk_waits.proofs.InWaits.Listed.{count_left, kept_by, left_lists, queued_least, queued_most}
use Rattle.fk_waits.proofs.waits.waits.Waits.leave.Goals as goal

pub leave-waited-requires : goal.leave-waited-requires
leave-waited-requires c = record { list = pairs_of c.self.inside.threads; there = c.self.invariant.kept.there }

pub counted-self-inside-requires : goal.counted-self-inside-requires
counted-self-inside-requires c =
    let t = c.self.inside.threads in
    let k = c.self.invariant.kept in
    record {
      some = queued_least t c.args.thread c.leave-waited.result k.there (c.leave-waited.ensures.waited (pairs_of t) k.there) k.count;
      few = queued_most t k.there k.count;
    }

pub invariant_of-self : goal.invariant_of-self
invariant_of-self c =
    let t = c.self.inside.threads in
    let k = c.self.invariant.kept in
    let lists = left_lists t c.leave-waited.new.self (pairs_of t) k.there c.leave-waited.ensures.seats c.args.thread
    (c.leave-waited.ensures.there (pairs_of t) k.there) in
    record {
      kept = kept_by c.leave-waited.new.self (besides c.args.thread (pairs_of t)) c.counted-self-inside.result
          (c.leave-waited.ensures.there (pairs_of t) k.there)
          (count_left t c.args.thread k.there k.count (c.leave-waited.ensures.waited (pairs_of t) k.there) c.counted-self-inside.ensures);
      last_is = rw c.last_without-self-inside.ensures
          (last_there (last_without c.args.thread c.self.inside.last) c.self.inside.cause (left c.args.thread (lists_of t)) (lists_of c.leave-waited.new.self)
          (ap (λ (l : Lists). l.ready) lists) (ap (λ (l : Lists). l.queued) lists)
          (last_left c.args.thread c.self.inside.last c.self.inside.cause (lists_of t) c.self.invariant.last_is));
    }

pub returns : goal.returns
returns c =
    let t = c.self.inside.threads in
    let k = c.self.invariant.kept in
    left_lists t c.leave-waited.new.self (pairs_of t) k.there c.leave-waited.ensures.seats c.args.thread (c.leave-waited.ensures.there (pairs_of t) k.there)
    ∙ ap (left c.args.thread) c.self.view_is
