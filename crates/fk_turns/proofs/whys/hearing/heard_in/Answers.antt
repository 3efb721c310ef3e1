use Rattle.std.proofs.Common.{sym, ◌∙◌}
use Rattle.std.proofs.lemmas.Bool.{OnTrue_at}
use Rattle.fk_store.specs.Store.Bodies.{thread_by}
use Rattle.fk_store.specs.Store.Paths.{path, place}
use Rattle.fk_store.specs.Store.World.{world}
use Rattle.fk_turns.proofs.InWhys.Hearing.{hear_cause, hears}
use Rattle.fk_turns.proofs.whys.hearing.heard_in.Goals as goal

pub returns-else-not-is_roomy-clause-why : goal.returns-else-not-is_roomy-clause-why
returns-else-not-is_roomy-clause-why c =
    let m = c.args.store.now in
    hears (world m) (path m) (place (path m) c.args.who) (thread_by (path m) c.args.thread.now) c.args.hearing.side c.args.hearing.into c.args.hearing.room
    c.in-Some.talk c.requires.unheld c.requires.there c.requires.awake c.requires.stage c.in-Some.ensures
    (sym c.is_others_turn.ensures ∙ c.if-not-is_others_turn.false) (OnTrue_at c.if-not-is_roomy.false c.is_roomy.ensures)

pub returns-else-not-is_roomy-clause-cause : goal.returns-else-not-is_roomy-clause-cause
returns-else-not-is_roomy-clause-cause c =
    let m = c.args.store.now in
    hear_cause (world m) (path m) (place (path m) c.args.who) (thread_by (path m) c.args.thread.now) c.args.hearing.side c.args.hearing.into c.args.hearing.room
    c.in-Some.talk c.requires.unheld c.requires.there c.requires.awake c.requires.stage c.in-Some.ensures
