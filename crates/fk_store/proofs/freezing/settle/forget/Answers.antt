use Rattle.std.proofs.Common.{Some, sym, ap, ◌∙◌}
use Rattle.fk_store.proofs.freezing.settle.forget.Goals as goal

pub returns-in-Some : goal.returns-in-Some
returns-in-Some c = λ n apart told. c.forget.ensures n (λ is. apart (c.in-Some.is ∙ ap Some (sym is))) told
