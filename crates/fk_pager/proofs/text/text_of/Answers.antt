use Rattle.std.proofs.Common.{map, ap, subst, ◌∙◌}
use Rattle.fk_host.specs.Kernels.{world_of as world}
use Rattle.fk_model.specs.declared.names.Who.{Who}
use Rattle.fk_natives.specs.Natives.{State}
use Rattle.fk_report.specs.Report.{outs_text}
use Rattle.fk_report.specs.Threads.{AreThreads}
use Rattle.fk_pager.specs.Pages.{page_text}
use Rattle.fk_pager.proofs.Booted.{states-shown}
use Rattle.fk_pager.proofs.text.text_of.Goals as goal

pub returns : goal.returns
returns c =
    let host = c.args.host.now in
    let p = c.args.paged.now in
    let threads = c.in_ok-threads.threads in
    record {
      threads = threads;
      all = subst (λ m. AreThreads m threads) (ap world c.kernel.ensures) (rw c.store.ensures at c.in_ok-threads.ensures);
      lines = c.in_ok-text.ensures ∙ ap (page_text c.args.slot c.args.room p.faults p.end)
          (c.as_str.ensures.value ∙ (c.in_ok-outs.ensures ∙ (ap (λ ss. outs_text ss c.as_slice.result.now) (states-shown _ c.services.result.now host.services.list c.services.ensures)
          ∙ ap (outs_text (map (λ (e : Who × State). e.1) host.services.list)) c.as_slice.ensures)));
    }
