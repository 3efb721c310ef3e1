use Rattle.std.proofs.Common.{map, subst, sym}
use Rattle.fk_served.specs.Served.{AllFit}
use Rattle.fk_migrate.specs.Pairs.{Shown, IsSomeRun}
use Rattle.fk_migrate.proofs.Driving.{ready_there, drives_equal, drives_by}
use Rattle.fk_migrate.proofs.driver.try_event.Goals as goal

pub step-requires-clause-run : goal.step-requires-clause-run
step-requires-clause-run g c = subst (λ (s : Shown). IsSomeRun s) (sym c.ready.ensures.same) c.requires.driven.run

pub step-requires-clause-ready : goal.step-requires-clause-ready
step-requires-clause-ready g c =
    ready_there _ _ c.args.e.now c.in_ok-is_ready.is_ready c.ready.ensures.same c.if-not-is_ready.false c.in_ok-is_ready.ensures.ready

pub step-requires-clause-near_fits : goal.step-requires-clause-near_fits
step-requires-clause-near_fits g c =
    subst (λ (s : Shown). AllFit (map (λ r. r.rule) c.args.table.now.list.items) s.near.servers) (sym c.ready.ensures.same) c.requires.driven.near

pub step-requires-clause-far_fits : goal.step-requires-clause-far_fits
step-requires-clause-far_fits g c =
    subst (λ (s : Shown). AllFit (map (λ r. r.rule) c.args.table.now.list.items) s.far.servers) (sym c.ready.ensures.same) c.requires.driven.far

pub returns-then-not-is_ready : goal.returns-then-not-is_ready
returns-then-not-is_ready g c = record { drives = drives_equal _ _ _ c.ready.ensures.same c.requires.driven }

pub returns : goal.returns
returns g c = record {
  drives = drives_by _ _ _ _ c.ready.ensures.same c.requires.driven c.step.ensures.run c.step.ensures.near_fits c.step.ensures.far_fits;
}
