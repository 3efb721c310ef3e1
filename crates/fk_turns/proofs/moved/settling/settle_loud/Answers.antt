use Rattle.fk_store.specs.Store.Paths.{path}
use Rattle.fk_store.specs.Store.World.{world, place_of}
use Rattle.fk_turns.specs.declared.whys.whys.Why.TheVariants as whys
use Rattle.fk_turns.proofs.InWhys.Apart.{why_unready}
use Rattle.fk_turns.proofs.moved.settling.settle_loud.Goals as goal

pub settle_for-requires : goal.settle_for-requires
settle_for-requires c =
    let m = c.args.store.now in
    record {
      kept = c.requires.kept;
      user = c.requires.user;
      unready = why_unready (world m) (path m) (place_of m c.args.who) whys.Loud c.requires.valid c.names.ensures.few c.requires.why;
      why = c.requires.why;
      cause = c.requires.cause;
    }

pub returns-clause-unready : goal.returns-clause-unready
returns-clause-unready c =
    let m = c.args.store.now in
    why_unready (world m) (path m) (place_of m c.args.who) whys.Loud c.requires.valid c.names.ensures.few c.requires.why
