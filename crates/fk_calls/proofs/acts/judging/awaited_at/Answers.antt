use Rattle.std.proofs.Common.{◌≡◌, Option, ap, ◌∙◌}
use Rattle.fk_model.specs.Objects.{Thread, and_then}
use Rattle.fk_model.specs.Talks.{awaited}
use Rattle.fk_store.specs.Store.Paths.{path}
use Rattle.fk_calls.proofs.acts.judging.awaited_at.Goals as goal

pub returns-in-Some : goal.returns-in-Some
returns-in-Some c =
    c.awaited_by.ensures (path c.args.store.now) ∙ ap (λ (o : Option Thread). and_then (λ (t : Thread). awaited t.mode) o) c.in-Some.ensures.thread
