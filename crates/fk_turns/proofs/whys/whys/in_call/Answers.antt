use Rattle.std.proofs.Common.{sym}
use Rattle.fk_store.specs.Store.Bodies.{thread_by}
use Rattle.fk_store.specs.Store.Paths.{path, place}
use Rattle.fk_store.specs.Store.World.{world}
use Rattle.fk_turns.proofs.InWhys.Reasons.{at_stage}
use Rattle.fk_turns.proofs.whys.whys.in_call.Goals as goal

pub known_or-requires : goal.known_or-requires
known_or-requires c =
    let m = c.args.store.now in
    record {
      valid = c.requires.valid;
      there = c.requires.there;
      stage = sym (c.in-Some.ensures (path m));
      known = c.at_stage.ensures;
    }

pub at_stage-requires : goal.at_stage-requires
at_stage-requires c =
    let m = c.args.store.now in
    record {
      there = c.requires.there;
      stage = at_stage (world m) (place (path m) c.args.who) (thread_by (path m) c.args.thread.now) c.in-Some.stage c.requires.there
          (sym (c.in-Some.ensures (path m)));
    }
