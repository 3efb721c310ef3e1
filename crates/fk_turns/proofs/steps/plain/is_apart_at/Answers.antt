use Rattle.std.proofs.Common.{not, ap, sym, ◌∙◌}
use Rattle.fk_model.specs.Holds.{is_porter}
use Rattle.fk_model.specs.Objects.{Thread, holds}
use Rattle.fk_turns.proofs.steps.plain.is_apart_at.Goals as goal

pub returns-in-None : goal.returns-in-None
returns-in-None c =
    (sym c.knows.ensures ∙ c.if-knows.false, sym (ap (holds (λ (t : Thread). not (is_porter t.mode))) c.in-None.ensures.thread))
