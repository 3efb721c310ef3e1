use Rattle.std.proofs.Common.{sym, ◌∙◌}
use Rattle.fk_store.specs.Store.Bodies.{thread_by}
use Rattle.fk_store.specs.Store.Paths.{path, place}
use Rattle.fk_store.specs.Store.World.{world}
use Rattle.fk_turns.proofs.InWhys.Reasons.{lies_beneath, rests, thread_live}
use Rattle.fk_turns.proofs.whys.whys.why_not.Goals as goal

pub outermost_held-requires : goal.outermost_held-requires
outermost_held-requires c =
    let m = c.args.store.now in
    record { live = thread_live (world m) (place (path m) c.args.who) (thread_by (path m) c.args.thread.now) c.requires.there }

pub returns-then-is_resting : goal.returns-then-is_resting
returns-then-is_resting c =
    let m = c.args.store.now in
    rests (world m) (place (path m) c.args.who) (thread_by (path m) c.args.thread.now) c.requires.there
    (sym (c.is_resting.ensures (path m)) ∙ c.if-is_resting.true)

pub returns-in-Some : goal.returns-in-Some
returns-in-Some c =
    let m = c.args.store.now in lies_beneath (world m) (place (path m) c.args.who) (place (path m) c.in-Some.space) c.in-Some.ensures
