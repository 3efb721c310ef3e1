use Rattle.std.proofs.Common.{◌≡◌, ◌∙◌, map, ap}
use Rattle.fk_model.specs.declared.names.Who.{Who}
use Rattle.fk_natives.specs.Natives.{State}
use Rattle.fk_runs.proofs.InRunReports.Ending.{states-shown}
use Rattle.fk_runs.proofs.run_reports.made.outs_of.Goals as goal

pub returns-clause-threads : goal.returns-clause-threads
returns-clause-threads g c = rw (c.store.ensures, c.kernel.ensures) at c.in_ok-threads.ensures

pub returns-clause-outs : goal.returns-clause-outs
returns-clause-outs g c =
    let states = states-shown g.S.Service.meaning c.services.result.now ∙ ap (map (λ (e : Who × State). e.1)) c.services.ensures in
    rw (c.as_slice.ensures, states) at c.in_ok-outs.ensures
