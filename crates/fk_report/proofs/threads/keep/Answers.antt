use Rattle.std.proofs.Common.{reverse, ap, sym, ◌∙◌, subst, Contains}
use Rattle.std.specs.Map.{values_of}
use Rattle.fk_report.specs.Threads.{IsKept, AreKept}
use Rattle.fk_report.proofs.KeptThreads.{keeps-itself, keeps-kept, keeps-others}
use Rattle.fk_report.proofs.threads.keep.Goals as goal

pub returns-clause-itself : goal.returns-clause-itself
returns-clause-itself c =
    let entries = c.in_ok-insert.ensures.entries in
    subst (λ es. Contains (values_of es) c.args.thread) (sym entries) (keeps-itself c.args.kept.now.entries c.in_ok-slots.slots c.args.thread)

pub returns-clause-kept : goal.returns-clause-kept
returns-clause-kept c = λ w is kept.
    let fits : IsKept w (c.in_ok-slots.slots, c.args.thread) = (c.in_ok-slots.ensures ∙ ap reverse c.as_slice.ensures, is) in
    subst (AreKept w) (sym c.in_ok-insert.ensures.entries) (keeps-kept w c.in_ok-slots.slots c.args.thread fits c.args.kept.now.entries kept)

pub returns-clause-others : goal.returns-clause-others
returns-clause-others c = λ w is kept other itself there.
    let fits : IsKept w (c.in_ok-slots.slots, c.args.thread) = (c.in_ok-slots.ensures ∙ ap reverse c.as_slice.ensures, is) in
    subst (λ es. Contains (values_of es) other)
    (sym c.in_ok-insert.ensures.entries) (keeps-others w c.in_ok-slots.slots c.args.thread fits c.args.kept.now.entries kept other there)
