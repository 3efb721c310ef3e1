use Rattle.std.proofs.Common.{map, ap, ◌∙◌}
use Rattle.fk_waits.specs.Waits.Lists.{renamed}
use Rattle.fk_waits.specs.Waits.Threads.{pairs_of, with_cause}
use Rattle.fk_waits.proofs.InWaits.Listed.{is_nobody, is_unused, kept_renamed, renamed_lists}
use Rattle.fk_waits.proofs.waits.waits.Waits.rename.Goals as goal

pub rename_cause-requires : goal.rename_cause-requires
rename_cause-requires c = is_unused c.self.inside.threads c.args.to c.args.self.now c.self.invariant.kept.there c.self.view_is c.requires.cause

pub rename_thread-requires : goal.rename_thread-requires
rename_thread-requires c =
    let t = c.self.inside.threads in
    let k = c.self.invariant.kept in
    is_nobody t c.rename_cause.new.self c.args.from c.args.to c.args.self.now k.there c.self.view_is (c.rename_cause.ensures.there (pairs_of t) k.there)
    c.requires.thread

pub invariant_of-self : goal.invariant_of-self
invariant_of-self c =
    let t = c.self.inside.threads in
    let k = c.self.invariant.kept in
    record {
      kept = kept_renamed t c.rename_thread.new.self c.args.from c.args.to c.self.inside.queued k.count
          (c.rename_thread.ensures.there (map (with_cause c.args.from c.args.to) (pairs_of t)) (c.rename_cause.ensures.there (pairs_of t) k.there));
      last_is = tt;
    }

pub returns : goal.returns
returns c =
    let t = c.self.inside.threads in
    let k = c.self.invariant.kept in
    renamed_lists t c.rename_thread.new.self (pairs_of t) k.there (c.rename_thread.ensures.seats ∙ c.rename_cause.ensures.seats) c.args.from c.args.to
    (c.rename_thread.ensures.there (map (with_cause c.args.from c.args.to) (pairs_of t)) (c.rename_cause.ensures.there (pairs_of t) k.there))
    ∙ ap (renamed c.args.from c.args.to) c.self.view_is
