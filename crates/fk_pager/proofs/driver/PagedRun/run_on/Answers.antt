use Rattle.std.proofs.Common.{None, refl}
use Rattle.fk_model.specs.declared.moves.Move.{Move}
use Rattle.fk_host.specs.Kernels.{world_of as world}
use Rattle.fk_paging.specs.Pagers.{state_of}
use Rattle.fk_pager.specs.Driven.{desk}
use Rattle.fk_pager.proofs.Driving.{quiet-drives, grown-by}
use Rattle.fk_pager.proofs.driver.PagedRun.run_on.Goals as goal

pub returns-clause-drives : goal.returns-clause-drives
returns-clause-drives g c =
    let self = c.args.self.now in
    let ran = c.run_on-made in
    let move : Move = record { who = c.args.who; pick = None } in
    record {
      same = refl;
      run = quiet-drives (desk self) self.host.services.list (state_of self.pager) self.opened move c.requires.opened ran.result (world self.host.kernel)
          (world ran.new.self.kernel) ran.ensures.turns ran.new.self.services.list ran.ensures.services self.history.items c.push_all.new.moves.items
          c.in_ok-push_all.ensures;
    }

pub returns-clause-grown : goal.returns-clause-grown
returns-clause-grown g c =
    let self = c.args.self.now in
    let ran = c.run_on-made in
    let move : Move = record { who = c.args.who; pick = None } in
    grown-by ran.result c.args.most self.history.items c.push_all.new.moves.items move c.in_ok-push_all.ensures ran.ensures.few
