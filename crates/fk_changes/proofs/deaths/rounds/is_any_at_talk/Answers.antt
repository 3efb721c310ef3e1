use Rattle.std.proofs.Common.{sym, ◌∙◌}
use Rattle.fk_store.specs.Store.Paths.{path, place}
use Rattle.fk_store.specs.Store.World.{world}
use Rattle.fk_changes.proofs.InDeaths.Lefts.{quiet}
use Rattle.fk_changes.proofs.deaths.rounds.is_any_at_talk.Goals as goal

pub returns-in-Some : goal.returns-in-Some
returns-in-Some c = λ off.
    let m = c.args.store.now in
    rw c.in-Some.is (quiet (world m) c.args.side (place (path m) c.in-Some.who) (sym c.is_at_talk.ensures ∙ off))
