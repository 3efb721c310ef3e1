use Rattle.std.proofs.Common.{sym, refl, ◌∙◌}
use Rattle.fk_changes.proofs.InDeaths.Endings.{talking_list}
use Rattle.fk_store.specs.Store.Paths.{path, place}
use Rattle.fk_store.specs.Store.World.{world}
use Rattle.fk_links.proofs.leaving.removal.Goals as goal

pub returns-then-is_at_talk-clause-changes : goal.returns-then-is_at_talk-clause-changes
returns-then-is_at_talk-clause-changes c given = rw (
  talking_list (world c.args.store.now) c.args.side (place (path c.args.store.now) c.args.other),
  sym c.is_at_talk.ensures ∙ c.if-is_at_talk.true,
) refl

pub returns-clause-changes : goal.returns-clause-changes
returns-clause-changes c given = rw (
  talking_list (world c.args.store.now) c.args.side (place (path c.args.store.now) c.args.other),
  sym c.is_at_talk.ensures ∙ c.if-is_at_talk.false,
) refl
