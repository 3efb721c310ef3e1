use Rattle.std.proofs.Common.{◌≡◌, ◌↔◌, IsTrue, subst}
use Rattle.fk_model.specs.Moves.{GoesAllowed}
use Rattle.fk_store.specs.Store.Paths.{path, place}
use Rattle.fk_store.specs.Store.World.{world}
use Rattle.fk_calls.specs.Acts.Acts.{words_of}
use Rattle.fk_calls.proofs.InActs.Allowed.{allowed_iff}
use Rattle.fk_calls.proofs.acts.moves.ready.Goals as goal

pub returns-in-Some : goal.returns-in-Some
returns-in-Some c =
    let m = c.args.store.now in
    let words = words_of c.args.ask.now in
    subst (λ o. IsTrue c.is_allowed.result ↔ GoesAllowed (world m) (place (path m) c.args.m.now.who) o) c.in-Some.ensures.outcome
    (rw c.is_allowed.ensures (allowed_iff m c.args.m.now.who words c.in-Some.act c.in-Some.ensures.fits))
