use Rattle.std.proofs.Common.{sym, subst}
use Rattle.fk_image.specs.declared.image.image.Rec.{Rec}
use Rattle.fk_image.specs.declared.image.image.ThreadRec.{ThreadRec}
use Rattle.fk_image.specs.Image.Outs.{Marks, body_links, talk_links, fault_links}
use Rattle.fk_image.proofs.InImage.Marking.{marks_then}
use Rattle.fk_image.proofs.image.outs.mark_body.Goals as goal

pub returns-in-Thread : goal.returns-in-Thread
returns-in-Thread c =
    let t = c.in-Thread.thread in
    let talk = subst (λ (r : ThreadRec). Marks c.args.used.now c.mark_talk.new.used (talk_links r.talk)) c.get.ensures c.mark_talk.ensures in
    let fault = subst (λ (r : ThreadRec). Marks c.mark_talk.new.used c.mark_fault.new.used (fault_links r.fault))
    c.get-in-Thread.ensures c.mark_fault.ensures in
    let whole = marks_then c.args.used.now c.mark_talk.new.used c.mark_fault.new.used (talk_links t.talk) (fault_links t.fault) talk fault in
    subst (λ (b : Rec). Marks c.args.used.now c.mark_fault.new.used (body_links b)) (sym c.in-Thread.is) whole
