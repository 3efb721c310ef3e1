use Rattle.std.proofs.Common.{sym, ◌∙◌}
use Rattle.fk_store.specs.Store.Bodies.{talk_by}
use Rattle.fk_store.specs.Store.Paths.{path, place}
use Rattle.fk_store.specs.Store.World.{world}
use Rattle.fk_changes.proofs.InDeaths.Lefts.{both_quiet, no_talk_there, talk_elsewhere}
use Rattle.fk_changes.proofs.deaths.rounds.is_left.Goals as goal

pub returns-else-is_any_at_talk : goal.returns-else-is_any_at_talk
returns-else-is_any_at_talk c = λ off.
    let m = c.args.store.now in
    both_quiet (world m) (place (path m) c.args.port) (place (path m) c.args.who) (talk_by (path m) c.in-Some.talk) c.in-Some.ensures.talk
    (c.is_any_at_talk.ensures c.if-is_any_at_talk.false) (sym (c.server_of.ensures (path m) (world m)) ∙ c.is_any_at_talk-else-is_any_at_talk.ensures off)

pub returns-else-eq : goal.returns-else-eq
returns-else-eq c = λ off.
    let m = c.args.store.now in
    talk_elsewhere (world m) (place (path m) c.args.port) (place (path m) c.args.who) (talk_by (path m) c.in-Some.talk) c.in-Some.ensures.talk
    ((c.requires.apart c.in-Some.talk.port).0 ∙ sym c.eq.ensures ∙ c.if-eq.false)

pub returns-in_default : goal.returns-in_default
returns-in_default c = λ off.
    let m = c.args.store.now in
    no_talk_there (world m) (place (path m) c.args.port) (place (path m) c.args.who) (rw c.in_default.is at c.talk_of.ensures.talk)
