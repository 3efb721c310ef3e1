use Rattle.std.proofs.Common.{not, ap, ◌∙◌}
use Rattle.fk_model.specs.Holds.{is_porter}
use Rattle.fk_model.specs.Objects.{Thread, holds}
use Rattle.fk_turns.proofs.moved.users.is_user.Goals as goal

pub returns-in-Some : goal.returns-in-Some
returns-in-Some c =
    ap not (c.is_porter.ensures c.in-Some.thread.now.regs) ∙ ap (holds (λ (t : Thread). not (is_porter t.mode))) c.in-Some.ensures.thread

pub returns-in-None : goal.returns-in-None
returns-in-None c = ap (holds (λ (t : Thread). not (is_porter t.mode))) c.in-None.ensures.thread
