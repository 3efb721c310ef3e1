use Rattle.std.proofs.Common.{sym, ◌∙◌}
use Rattle.fk_store.specs.Store.Paths.{path, place}
use Rattle.fk_store.specs.Store.World.{world}
use Rattle.fk_changes.proofs.InDeaths.Endings.{ends_one, ends_none}
use Rattle.fk_changes.proofs.deaths.ends.end_talking.Goals as goal

pub returns-then-is_at_talk-clause-ends : goal.returns-then-is_at_talk-clause-ends
returns-then-is_at_talk-clause-ends c test w is = c.end_call.ensures.world ∙ ends_one w test c.args.side
    (place (path c.args.store.now) c.args.who) (world c.args.store.now) is (sym c.is_at_talk.ensures ∙ c.if-is_at_talk.true)

pub returns-else-is_at_talk-clause-ends : goal.returns-else-is_at_talk-clause-ends
returns-else-is_at_talk-clause-ends c test w is = ends_none w test c.args.side
    (place (path c.args.store.now) c.args.who) (world c.args.store.now) is (sym c.is_at_talk.ensures ∙ c.if-is_at_talk.false)
