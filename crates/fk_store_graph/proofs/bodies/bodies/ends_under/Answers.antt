use Rattle.std.proofs.Common.{sym, ap, ◌∙◌}
use Rattle.fk_store_graph.specs.Linked.Leads.{led}
use Rattle.fk_store_graph.proofs.InLinked.AlikeLaws.{this_body}
use Rattle.fk_store_graph.proofs.InLinked.BodyLaws.{no-body}
use Rattle.fk_store_graph.proofs.bodies.bodies.ends_under.Goals as goal

pub returns-in-None-clause-past : goal.returns-in-None-clause-past
returns-in-None-clause-past c = λ b is i past few. absurd (let gone = no-body _ c.args.key (sym c.in-None.ensures.entry) in let both = sym gone ∙ is in cc)

pub returns-in-Some-clause-past : goal.returns-in-Some-clause-past
returns-in-Some-clause-past c = λ b is i past few.
    ap (λ x. led x i) (sym (this_body _ c.args.key c.in-Some.entry.now b (sym c.in-Some.ensures.entry) is)) ∙ c.ends.ensures.past i past few
