use Rattle.std.proofs.Common.{arith}
use Rattle.std.proofs.lemmas.Bool.{OnTrue_at, OnFalse_at}
use Rattle.fk_core.specs.Cores.Cores.{run_core, IsAdvanced}
use Rattle.fk_core.proofs.InCores.Lacking.{same_core}
use Rattle.fk_core.proofs.InCores.Trying.{there_by}
use Rattle.fk_core.proofs.cores.turns.Core.go_front.Goals as goal

pub returns-then-go_plain-clause-advanced : goal.returns-then-go_plain-clause-advanced
returns-then-go_plain-clause-advanced g c = OnTrue_at c.if-go_plain.true c.go_plain.ensures.made

pub returns-then-is_porter-clause-advanced : goal.returns-then-is_porter-clause-advanced
returns-then-is_porter-clause-advanced g c =
    let self = c.args.self.now in
    let nay = c.if-go_plain.false in
    same_core self.kernel _ self.services.list _ self.jobs _ self.events _ (OnFalse_at nay c.go_plain.ensures.kernel) c.go_plain.ensures.services
    (OnFalse_at nay c.go_plain.ensures.queue) (OnFalse_at nay c.go_plain.ensures.events)

pub pick_front-requires-clause-few : goal.pick_front-requires-clause-few
pick_front-requires-clause-few g c =
    let events = OnFalse_at c.if-go_plain.false c.go_plain.ensures.events in
    let budget = c.go_plain.ensures.budget in
    omega (arith, events, budget)

pub returns-clause-advanced : goal.returns-clause-advanced
returns-clause-advanced g c =
    let self = c.args.self.now in
    let then = c.go_plain.new.self in
    let last = c.pick_front.new.self in
    let nay = c.if-go_plain.false in
    let same = same_core self.kernel then.kernel self.services.list then.services.list self.jobs then.jobs self.events then.events
    (OnFalse_at nay c.go_plain.ensures.kernel) c.go_plain.ensures.services (OnFalse_at nay c.go_plain.ensures.queue)
    (OnFalse_at nay c.go_plain.ensures.events) in
    there_by (λ q budget core. IsAdvanced q.jobs budget core c.pick_front.result (run_core last)) self.jobs then.jobs self.budget then.budget
    (run_core self) (run_core then) (OnFalse_at nay c.go_plain.ensures.queue) c.go_plain.ensures.budget same c.pick_front.ensures.advanced
