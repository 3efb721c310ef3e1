use Rattle.std.proofs.Common.{sym}
use Rattle.fk_store.specs.Store.Paths.{path}
use Rattle.fk_store.specs.Store.World.{world}
use Rattle.fk_turns.proofs.InWhys.Waited.{none_held}
use Rattle.fk_turns.proofs.whys.causes.outermost_held.Goals as goal

pub returns-else-is_any_held : goal.returns-else-is_any_held
returns-else-is_any_held c =
    let m = c.args.store.now in sym (none_held (world m) (c.is_any_held.ensures c.if-is_any_held.false) (path m c.args.who.space))
