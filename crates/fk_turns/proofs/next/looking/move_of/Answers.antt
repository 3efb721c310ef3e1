use Rattle.fk_store.specs.Store.Paths.{path}
use Rattle.fk_store.specs.Store.World.{world, place_of}
use Rattle.fk_turns.specs.declared.whys.whys.Why.TheVariants as whys
use Rattle.fk_turns.proofs.InWhys.Apart.{why_unready}
use Rattle.fk_turns.proofs.next.looking.move_of.Goals as goal

pub returns-in-Some-clause-none : goal.returns-in-Some-clause-none
returns-in-Some-clause-none c up =
    let m = c.args.store.now in
    why_unready (world m) (path m) (place_of m c.args.who) (whys.At c.in-Some.mutex) c.requires.valid c.names.ensures.few c.in-Some.ensures.why up.0 up.1
