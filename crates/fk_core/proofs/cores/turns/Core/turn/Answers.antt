use Rattle.std.proofs.Common.{◌≡◌, true}
use Rattle.fk_core.specs.Cores.Memory.{may_lack}
use Rattle.fk_core.specs.Rounds.Kernels.{world_of as world}
use Rattle.fk_core.specs.Cores.Cores.{run_core}
use Rattle.fk_core.proofs.InCores.Cutting.{keeps_cuts, leaves_strangers, of-ready}
use Rattle.fk_core.proofs.InCores.Leaving.{leaves_the_rest}
use Rattle.std.proofs.lemmas.Result.{err_from_is_err_and}
use Rattle.fk_core.proofs.cores.turns.Core.turn.Goals as goal

pub returns-clause-cut : goal.returns-clause-cut
returns-clause-cut g c =
    let old = c.args.self.now in
    keeps_cuts old.jobs (world old.kernel) old.services.list old.events old.budget c.args.m.now (run_core c.go.new.self) c.requires.come c.requires.few
    c.requires.ready (of-ready c.in_ok-go.field-0 _ (may_lack c.args.self.now.jobs.jobs (run_core c.args.self.now) c.args.m.now ≡ true) _ (run_core c.args.self.now) c.args.m.now
    (run_core c.go.new.self) c.requires.ready c.in_ok-go.ensures.tried)

pub returns-clause-strangers : goal.returns-clause-strangers
returns-clause-strangers g c =
    let old = c.args.self.now in
    leaves_strangers old.jobs (world old.kernel) old.services.list old.events old.budget c.args.m.now (run_core c.go.new.self) c.requires.come
    c.requires.few c.requires.ready (of-ready c.in_ok-go.field-0 _ (may_lack c.args.self.now.jobs.jobs (run_core c.args.self.now) c.args.m.now ≡ true) _ (run_core c.args.self.now) c.args.m.now
    (run_core c.go.new.self) c.requires.ready c.in_ok-go.ensures.tried)

pub returns-clause-rest : goal.returns-clause-rest
returns-clause-rest g c =
    let old = c.args.self.now in
    leaves_the_rest old.jobs.jobs old.budget (run_core old) c.args.m.now (run_core c.go.new.self) c.requires.come c.requires.few c.requires.ready
    (of-ready c.in_ok-go.field-0 _ (may_lack c.args.self.now.jobs.jobs (run_core c.args.self.now) c.args.m.now ≡ true) _ (run_core c.args.self.now) c.args.m.now (run_core c.go.new.self) c.requires.ready c.in_ok-go.ensures.tried)

pub returns-clause-turned : goal.returns-clause-turned
returns-clause-turned g c = of-ready c.in_ok-go.field-0 _ (may_lack c.args.self.now.jobs.jobs (run_core c.args.self.now) c.args.m.now ≡ true) _ (run_core c.args.self.now) c.args.m.now
    (run_core c.go.new.self) c.requires.ready c.in_ok-go.ensures.tried

pub returns-in_err-go-clause-lacking : goal.returns-in_err-go-clause-lacking
returns-in_err-go-clause-lacking g c = let p = err_from_is_err_and c.from_residual.result c.from_residual.ensures.1 in rw p.1 c.in_err-go.ensures.tried.2

pub returns-in_err-go-clause-lacks : goal.returns-in_err-go-clause-lacks
returns-in_err-go-clause-lacks g c = let p = err_from_is_err_and c.from_residual.result c.from_residual.ensures.1 in rw p.1 c.in_err-go.ensures.tried.1
