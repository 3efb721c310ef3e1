use Rattle.fk_store.specs.Store.Paths.{path}
use Rattle.fk_store.specs.Store.World.{world, place_of}
use Rattle.fk_turns.specs.declared.whys.whys.Why.TheVariants as whys
use Rattle.fk_turns.proofs.InWhys.Apart.{why_unready}
use Rattle.fk_turns.proofs.steps.signalling.rest_locked.Goals as goal

pub settle_at-requires : goal.settle_at-requires
settle_at-requires c =
    let m = c.args.store.now in
    record {
      valid = c.requires.valid;
      kept = c.requires.kept;
      user = c.requires.user;
      unready = λ pick ready.
          why_unready (world m) (path m) (place_of m c.args.who) (whys.At c.in-Some.mutex) c.requires.valid c.names.ensures.few c.in-Some.ensures.why
          pick ready;
      why = c.in-Some.ensures.why;
      cause = c.in-Some.ensures.cause;
    }
