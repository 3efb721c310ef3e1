use Rattle.std.proofs.lemmas.Bool.{OnTrue_at}
use Rattle.fk_store.specs.Store.World.{place_of}
use Rattle.fk_turns.proofs.InSteps.Locked.{if_true}
use Rattle.fk_turns.proofs.steps.talking.is_alone.Goals as goal

pub returns-else-not-has_no_talk : goal.returns-else-not-has_no_talk
returns-else-not-has_no_talk c =
    if_true c.serves_nobody.result (λ none. record {
      server = place_of c.args.store.now c.in-Some.server;
      peer = c.in-Some.ensures;
      idle = OnTrue_at c.if-not-has_no_talk.false c.has_no_talk.ensures;
      unserved = none;
    }) c.serves_nobody.ensures
