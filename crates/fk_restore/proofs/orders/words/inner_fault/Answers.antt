use Rattle.std.proofs.Common.{sym, ap, ◌∙◌}
use Rattle.fk_restore.specs.Positions.Passes.{taken_part, fault_part}
use Rattle.fk_restore.specs.Positions.Positions.{asked}
use Rattle.fk_restore.specs.Orders.Given.{words_in}
use Rattle.fk_restore.proofs.orders.words.inner_fault.Goals as goal

pub returns-in-None-taker : goal.returns-in-None-taker
returns-in-None-taker c ss slot bind n s x =
    c.raised_fault.ensures ss slot bind n s x
    ∙ ap (λ t. words_in (asked ss slot bind (taken_part ss slot bind n s x c.args.part c.in-Some.fault t))) (sym c.in-None-taker.is)
    ∙ ap (λ f. words_in (asked ss slot bind (fault_part ss slot bind n s x c.args.part f))) (sym c.in-Some.is)

pub returns-in-Some-taker : goal.returns-in-Some-taker
returns-in-Some-taker c ss slot bind n s x =
    c.taken_fault.ensures ss slot bind n s x
    ∙ ap (λ t. words_in (asked ss slot bind (taken_part ss slot bind n s x c.args.part c.in-Some.fault t))) (sym c.in-Some-taker.is)
    ∙ ap (λ f. words_in (asked ss slot bind (fault_part ss slot bind n s x c.args.part f))) (sym c.in-Some.is)
