use Rattle.std.proofs.Common.{sym, ◌∙◌}
use Rattle.fk_migrate.proofs.pair.Pair.of.Goals as goal

pub returns-clause-new : goal.returns-clause-new
returns-clause-new g c = record {
  slots = c.new-receiver.ensures.slot ∙ sym c.new-sender.ensures.slot;
  near = c.new-sender.ensures.state;
  far = c.new-receiver.ensures.state;
  events = c.new-events.ensures.items;
  places = c.new-places.ensures;
}
