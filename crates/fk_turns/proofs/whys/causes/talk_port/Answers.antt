use Rattle.std.proofs.Common.{Option, ap, ◌∙◌}
use Rattle.fk_model.specs.Objects.{Thread, and_then}
use Rattle.fk_store.specs.Store.Paths.{path}
use Rattle.fk_turns.specs.Whys.Causes.{port_of}
use Rattle.fk_turns.proofs.whys.causes.talk_port.Goals as goal

pub returns-in-Some : goal.returns-in-Some
returns-in-Some c =
    c.port_of.ensures (path c.args.store.now) ∙ ap (λ (o : Option Thread). port_of (and_then (λ (t : Thread). t.talk) o)) c.in-Some.ensures.thread

pub returns-in-None : goal.returns-in-None
returns-in-None c = ap (λ (o : Option Thread). port_of (and_then (λ (t : Thread). t.talk) o)) c.in-None.ensures.thread
