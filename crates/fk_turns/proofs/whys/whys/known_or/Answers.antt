use Rattle.std.proofs.Common.{sym, ◌∙◌}
use Rattle.fk_store.specs.Store.Bodies.{thread_by}
use Rattle.fk_store.specs.Store.Paths.{path}
use Rattle.fk_turns.proofs.InWhys.Reasons.{loud}
use Rattle.fk_turns.proofs.whys.whys.known_or.Goals as goal

pub returns-else-is_any_held : goal.returns-else-is_any_held
returns-else-is_any_held c unready =
    let m = c.args.store.now in
    loud m c.args.who.slot (path m c.args.who.space) (thread_by (path m) c.args.thread.now) c.args.stage c.requires.valid c.names.ensures.few
    (c.is_any_held.ensures c.if-is_any_held.false) c.requires.there c.requires.stage (sym c.locks.ensures ∙ c.if-locks.false) unready
