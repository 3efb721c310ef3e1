use Rattle.fk_store.specs.Store.Paths.{path, place}
use Rattle.fk_store.specs.Store.World.{world}
use Rattle.fk_calls.proofs.InActs.Made.{low_later}
use Rattle.fk_calls.proofs.acts.making.gives.Goals as goal

pub advance-requires : goal.advance-requires
advance-requires c = record {
  low = rw (c.from.ensures, c.count_moved.ensures.paths, c.count_moved.ensures.world, c.put_words.ensures.paths, c.put_words.ensures.world)
      (low_later (world c.args.store.now) (place (path c.args.store.now) c.args.client) _ _ _ c.args.count c.requires.gift.low);
}
