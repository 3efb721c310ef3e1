use Rattle.std.proofs.Common.{◌≡◌, Some, sym, ◌∙◌}
use Rattle.fk_store.specs.Store.World.{world, place_of}
use Rattle.fk_report.specs.Threads.{state_at}
use Rattle.fk_report.proofs.ThreadScans.{state-itself}
use Rattle.fk_report.proofs.threads.keep_at.Goals as goal

pub returns-in-Some-clause-kept : goal.returns-in-Some-clause-kept
returns-in-Some-clause-kept c =
    let is : state_at (world c.args.store.now) (place_of c.args.store.now c.args.who) ≡ Some c.in-Some.thread = sym c.in_ok-state_of.ensures ∙ c.in-Some.is in
    c.keep.ensures.kept (world c.args.store.now) (state-itself (world c.args.store.now) (place_of c.args.store.now c.args.who) c.in-Some.thread is)
