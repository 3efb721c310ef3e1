use Rattle.std.proofs.lemmas.Bool.{OnTrue_at, OnFalse_at}
use Rattle.fk_core.specs.Cores.Cores.{run_core}
use Rattle.fk_core.proofs.InCores.Going.{come_plain, goes_same, tried_goes}
use Rattle.fk_core.proofs.cores.turns.Core.go.Goals as goal

pub returns-then-go_plain-clause-tried : goal.returns-then-go_plain-clause-tried
returns-then-go_plain-clause-tried g c =
    let made = OnTrue_at c.if-go_plain.true c.go_plain.ensures.made in (made.1, made.2, made.3)

pub returns-then-go_plain-clause-come : goal.returns-then-go_plain-clause-come
returns-then-go_plain-clause-come g c =
    let self = c.args.self.now in
    let made = OnTrue_at c.if-go_plain.true c.go_plain.ensures.made in
    goes_same self.jobs.jobs _ self.budget _ (run_core self) (run_core c.go_plain.new.self) c.args.m.now c.go_plain.ensures.jobs c.go_plain.ensures.budget
    c.requires.come made.1 made.2

pub returns-clause-come : goal.returns-clause-come
returns-clause-come g c =
    let self = c.args.self.now in
    let then = c.go_plain.new.self in
    let nay = c.if-go_plain.false in
    let come = come_plain self.kernel then.kernel self.services.list then.services.list self.jobs then.jobs self.events then.events self.budget then.budget
    (OnFalse_at nay c.go_plain.ensures.kernel) c.go_plain.ensures.services (OnFalse_at nay c.go_plain.ensures.queue) (OnFalse_at nay c.go_plain.ensures.events)
    c.go_plain.ensures.budget c.requires.come in
    tried_goes c.go_told.result _ then.jobs.jobs _ then.budget _ (run_core then) c.args.m.now (run_core c.go_told.new.self) c.go_told.ensures.jobs
    c.go_told.ensures.budget come c.go_told.ensures.tried
