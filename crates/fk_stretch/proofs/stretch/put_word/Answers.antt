use Rattle.fk_store.specs.Store.Paths.{path}
use Rattle.fk_store.specs.Store.World.{world}
use Rattle.fk_stretch.proofs.Steps.{found_some, written}
use Rattle.fk_stretch.proofs.stretch.put_word.Goals as goal

pub put_word-requires-clause-there : goal.put_word-requires-clause-there
put_word-requires-clause-there c = found_some c.page.result _ c.is_none.result c.page.ensures c.is_none.ensures c.if-is_none.false

pub returns-clause-written : goal.returns-clause-written
returns-clause-written c =
    let m = c.args.store.now in
    written (world m) (path m c.args.space) (world c.put_word.new.self) c.args.storing.address c.args.storing.value c.in-Some.page c.in-Some.ensures
    (found_some c.page.result _ c.is_none.result c.page.ensures c.is_none.ensures c.if-is_none.false) c.put_word.ensures.world
