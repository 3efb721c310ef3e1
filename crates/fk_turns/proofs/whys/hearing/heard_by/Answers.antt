use Rattle.std.proofs.Common.{sym, ◌∙◌}
use Rattle.fk_store.specs.Store.Bodies.{thread_by}
use Rattle.fk_store.specs.Store.Paths.{path, place}
use Rattle.fk_store.specs.Store.World.{world}
use Rattle.fk_turns.proofs.InWhys.Hearing.{awake_user}
use Rattle.fk_turns.proofs.whys.hearing.heard_by.Goals as goal

pub heard_in-requires : goal.heard_in-requires
heard_in-requires c =
    let m = c.args.store.now in
    record {
      valid = c.requires.valid;
      unheld = c.requires.unheld;
      there = c.requires.there;
      awake = sym (c.is_resting.ensures (path m)) ∙ c.if-is_resting.false;
      stage = c.in-Some.ensures (path m);
    }

pub returns-in-Some-clause-user : goal.returns-in-Some-clause-user
returns-in-Some-clause-user c some =
    let m = c.args.store.now in
    awake_user (world m) (place (path m) c.args.who) (thread_by (path m) c.args.thread.now) c.requires.there
    (sym (c.is_resting.ensures (path m)) ∙ c.if-is_resting.false)
