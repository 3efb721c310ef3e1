use Rattle.std.proofs.Common.{◌∙◌, sym}
use Rattle.fk_store_graph.proofs.InLeads.PointerLaws.{pointers_alone}
use Rattle.fk_store_graph.proofs.InLinked.TellLaws.{none_told, all_told, retold_both, retold_none}
use Rattle.fk_store_graph.proofs.linked.hinting.tell.Goals as goal

pub returns-then-not-may_tell-clause-told : goal.returns-then-not-may_tell-clause-told
returns-then-not-may_tell-clause-told c = none_told _ c.args.key c.args.body.now c.requires.here
    (pointers_alone c.args.body.now (sym c.may_tell.ensures ∙ c.if-not-may_tell.true)) c.requires.others

pub returns-then-not-may_tell-clause-same : goal.returns-then-not-may_tell-clause-same
returns-then-not-may_tell-clause-same c = retold_none _

pub returns-clause-told : goal.returns-clause-told
returns-clause-told c = all_told c.args.objects.now c.tell_field.new.objects c.tell_field-2.new.objects c.args.key c.args.body.now
    c.tell_field.ensures.same c.tell_field-2.ensures.same c.requires.here c.requires.others
    (λ l is. c.tell_field.ensures.told l (c.led.ensures ∙ is)) c.tell_field.ensures.kept
    (λ l is. c.tell_field-2.ensures.told l (c.led-2.ensures ∙ is)) c.tell_field-2.ensures.kept

pub returns-clause-same : goal.returns-clause-same
returns-clause-same c = retold_both _ _ _ c.tell_field.ensures.same c.tell_field-2.ensures.same
