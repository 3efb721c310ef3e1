use Rattle.std.proofs.Common.{◌≡◌, Some, IfOk, IfNone, OnErr, refl}
use Rattle.fk_core.specs.Cores.Bursts.{mover_of, IsAdvancedSo}
use Rattle.fk_core.specs.Cores.Cores.{core_at, run_core, IsFirstDue, IsLacking, IsOver}
use Rattle.fk_core.proofs.InCores.Bursting.{comes_along}
use Rattle.fk_core.proofs.InCores.Going.{come_plain, come_same}
use Rattle.fk_core.proofs.InCores.Several.{none_first}
use Rattle.fk_core.proofs.InCores.Trying.{there_by}
use Rattle.fk_core.proofs.cores.turns.Core.advance_by.Goals as goal

pub returns-in-Some-clause-advanced : goal.returns-in-Some-clause-advanced
returns-in-Some-clause-advanced g c = c.in-Some.ensures.made

pub returns-in-Some-clause-first : goal.returns-in-Some-clause-first
returns-in-Some-clause-first g c =
    let self = c.args.self.now in none_first self.jobs self.budget (run_core self) (mover_of (Some c.in-Some.made)) (c.in-Some.ensures.none refl)

pub returns-in-Some-clause-come : goal.returns-in-Some-clause-come
returns-in-Some-clause-come g c =
    let self = c.args.self.now in
    let after = c.proceed_by.new.self in
    come_same self.jobs.jobs after.jobs.jobs self.budget after.budget (run_core after) (run_core after) c.proceed_by.ensures.jobs c.proceed_by.ensures.budget
    refl (comes_along self.jobs.jobs self.budget (run_core self) (run_core after) _ c.requires.come c.in-Some.ensures.made.run)

pub advance_one-requires-clause-come : goal.advance_one-requires-clause-come
advance_one-requires-clause-come g c =
    let self = c.args.self.now in
    let then = c.proceed_by.new.self in
    come_plain self.kernel then.kernel self.services.list then.services.list self.jobs then.jobs self.events then.events self.budget then.budget
    c.in_default.ensures.kernel c.proceed_by.ensures.services c.in_default.ensures.queue c.in_default.ensures.events c.proceed_by.ensures.budget c.requires.come

pub returns-clause-advanced : goal.returns-clause-advanced
returns-clause-advanced g c =
    let self = c.args.self.now in
    let then = c.proceed_by.new.self in
    let last = c.advance_one.new.self in
    let same : run_core then ≡ run_core self = λ i. core_at (c.in_default.ensures.kernel i) (c.proceed_by.ensures.services i) (c.in_default.ensures.queue i)
    (c.in_default.ensures.events i) in
    there_by (λ q budget core. IfOk c.advance_one.result (λ made. IsAdvancedSo q.jobs budget c.args.most core made (run_core last)))
    self.jobs then.jobs self.budget then.budget (run_core self) (run_core then) c.in_default.ensures.queue c.proceed_by.ensures.budget same
    c.advance_one.ensures.advanced

pub returns-clause-none : goal.returns-clause-none
returns-clause-none g c =
    let self = c.args.self.now in
    let then = c.proceed_by.new.self in
    let same : run_core then ≡ run_core self = λ i. core_at (c.in_default.ensures.kernel i) (c.proceed_by.ensures.services i) (c.in_default.ensures.queue i)
    (c.in_default.ensures.events i) in
    there_by (λ q budget core. IfOk c.advance_one.result (λ made. IfNone made (IsOver q.jobs budget core)))
    self.jobs then.jobs self.budget then.budget (run_core self) (run_core then) c.in_default.ensures.queue c.proceed_by.ensures.budget same
    c.advance_one.ensures.none

pub returns-clause-first : goal.returns-clause-first
returns-clause-first g c =
    let self = c.args.self.now in
    let then = c.proceed_by.new.self in
    let same : run_core then ≡ run_core self = λ i. core_at (c.in_default.ensures.kernel i) (c.proceed_by.ensures.services i) (c.in_default.ensures.queue i)
    (c.in_default.ensures.events i) in
    there_by (λ q budget core. IfOk c.advance_one.result (λ made. IsFirstDue q budget core (mover_of made)))
    self.jobs then.jobs self.budget then.budget (run_core self) (run_core then) c.in_default.ensures.queue c.proceed_by.ensures.budget same
    c.advance_one.ensures.first

pub returns-clause-lacking : goal.returns-clause-lacking
returns-clause-lacking g c =
    let self = c.args.self.now in
    let then = c.proceed_by.new.self in
    let last = c.advance_one.new.self in
    let same : run_core then ≡ run_core self = λ i. core_at (c.in_default.ensures.kernel i) (c.proceed_by.ensures.services i) (c.in_default.ensures.queue i)
    (c.in_default.ensures.events i) in
    there_by (λ q budget core. OnErr c.advance_one.result (run_core last ≡ core))
    self.jobs then.jobs self.budget then.budget (run_core self) (run_core then) c.in_default.ensures.queue c.proceed_by.ensures.budget same
    c.advance_one.ensures.lacking

pub returns-clause-lacks : goal.returns-clause-lacks
returns-clause-lacks g c =
    let self = c.args.self.now in
    let then = c.proceed_by.new.self in
    let same : run_core then ≡ run_core self = λ i. core_at (c.in_default.ensures.kernel i) (c.proceed_by.ensures.services i) (c.in_default.ensures.queue i)
    (c.in_default.ensures.events i) in
    there_by (λ q budget core. OnErr c.advance_one.result (IsLacking q.jobs budget core))
    self.jobs then.jobs self.budget then.budget (run_core self) (run_core then) c.in_default.ensures.queue c.proceed_by.ensures.budget same
    c.advance_one.ensures.lacks
