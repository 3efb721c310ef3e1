use Rattle.std.proofs.Common.{◌+◌, sym, ap, ◌∙◌, arith, refl}
use Rattle.fk_store_graph.specs.Leads.Held.{is_held, one_if}
use Rattle.fk_store_graph.proofs.InLinked.BodyLaws.{body-of}
use Rattle.fk_store_graph.proofs.InLinked.LinkedLaws.{have_heads}
use Rattle.fk_store_graph.proofs.InLinked.AlikeLaws.{own_nodes, nothing_there, small_key, this_body}
use Rattle.fk_store_graph.proofs.linked.replacing.relink.Goals as goal

pub link_anew-requires-clause-small : goal.link_anew-requires-clause-small
link_anew-requires-clause-small c = small_key _ c.args.key c.in-Some.entry.now c.filed.ensures (sym c.in-Some.ensures.entry)

pub link_anew-requires-clause-long : goal.link_anew-requires-clause-long
link_anew-requires-clause-long c = c.requires.long c.args.key c.in-Some.entry.now.body (body-of _ c.args.key c.in-Some.entry.now (sym c.in-Some.ensures.entry))

pub link_anew-requires-clause-heads : goal.link_anew-requires-clause-heads
link_anew-requires-clause-heads c = have_heads _ _ c.filed.ensures c.requires.long

pub returns-in-Some-clause-rings : goal.returns-in-Some-clause-rings
returns-in-Some-clause-rings c = λ are. c.link_anew.ensures.rings _
    (own_nodes _ c.args.key c.in-Some.entry.now.body (body-of _ c.args.key c.in-Some.entry.now (sym c.in-Some.ensures.entry))) are

pub returns-in-Some-clause-held : goal.returns-in-Some-clause-held
returns-in-Some-clause-held c = λ old there n m enough sums. c.counted.ensures n m enough
    (ap (λ t. m + one_if t) c.is_held.ensures
    ∙ ap (λ x. m + one_if (is_held x)) (this_body _ c.args.key c.in-Some.entry.now old (sym c.in-Some.ensures.entry) there)
    ∙ sums ∙ sym (ap (λ t. n + one_if t) c.is_held-in-Some.ensures))

pub returns-in_default-clause-rings : goal.returns-in_default-clause-rings
returns-in_default-clause-rings c = absurd (nothing_there _ c.args.key c.in_default.ensures.entry c.requires.there)

pub returns-in_default-clause-held : goal.returns-in_default-clause-held
returns-in_default-clause-held c = absurd (nothing_there _ c.args.key c.in_default.ensures.entry c.requires.there)
