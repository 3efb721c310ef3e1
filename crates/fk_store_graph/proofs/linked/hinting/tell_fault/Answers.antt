use Rattle.std.proofs.Common.{sym, ◌∙◌}
use Rattle.fk_store_graph.specs.Leads.Leading.{with_fault}
use Rattle.fk_store_graph.proofs.InLinked.FaultLaws.{taken_led}
use Rattle.fk_store_graph.proofs.InLinked.TellLaws.{all_told, retold_none, still_none}
use Rattle.fk_store_graph.proofs.linked.hinting.tell_fault.Goals as goal

pub returns-clause-told : goal.returns-clause-told
returns-clause-told c =
    let h = c.requires.here in
    let o = c.args.objects.now in
    all_told o o c.tell_field.new.objects c.args.key (with_fault h.thread c.args.fault) (retold_none o) c.tell_field.ensures.same h.there c.requires.others
    (λ l is. c.requires.served (with_fault h.thread c.args.fault) l h.there is) (still_none o)
    (λ l is. c.tell_field.ensures.told l (c.led_by_fault.ensures ∙ sym (taken_led h.thread c.args.fault) ∙ is)) c.tell_field.ensures.kept
