use Rattle.std.proofs.Common.{refl, ◌∙◌}
use Rattle.fk_store_graph.proofs.InLinked.TellLaws.{noted, still, retold, nobody_told, retold_none, still_none}
use Rattle.fk_store_graph.proofs.linked.hinting.note_under.Goals as goal

-- a pointer is told of nobody
pub told_anew-told-requires : goal.told_anew-told-requires
told_anew-told-requires c sort = c.told_of.ensures ∙ rw sort refl

pub returns-in-Some-clause-told : goal.returns-in-Some-clause-told
returns-in-Some-clause-told c = noted _ _ c.args.to c.in-Some.entry.now c.told_with.result c.in-Some.ensures.entry c.tell.ensures c.args.lead
    c.told_anew-told.result c.requires c.told_with.ensures c.args.key c.told_anew-told.ensures.told

pub returns-in-Some-clause-kept : goal.returns-in-Some-clause-kept
returns-in-Some-clause-kept c = still _ _ c.args.to c.in-Some.entry.now c.told_with.result c.in-Some.ensures.entry c.tell.ensures c.args.lead
    c.told_anew-told.result c.requires c.told_with.ensures c.filed.ensures
    (λ j b i there leads old. c.told_anew-told.ensures.kept j b i there leads (rw c.told_of.ensures old))

pub returns-in-Some-clause-same : goal.returns-in-Some-clause-same
returns-in-Some-clause-same c = retold _ _ c.args.to c.in-Some.entry.now c.told_with.result c.in-Some.ensures.entry c.tell.ensures

pub returns-in_default-clause-told : goal.returns-in_default-clause-told
returns-in_default-clause-told c = nobody_told _ c.args.lead c.args.key c.args.to c.requires c.in_default.ensures.entry

pub returns-in_default-clause-kept : goal.returns-in_default-clause-kept
returns-in_default-clause-kept c = still_none _

pub returns-in_default-clause-same : goal.returns-in_default-clause-same
returns-in_default-clause-same c = retold_none _
