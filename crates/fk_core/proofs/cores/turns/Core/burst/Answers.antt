use Rattle.std.proofs.Common.{◌≡◌, Bool, true, None, replicate, sym, subst, refl, ◌∙◌}
use Rattle.std.specs.Bool.{OnTrue}
use Rattle.std.specs.Fn.{FnOnceReturnsAtMut}
use Rattle.laws_runs.specs.Cores.{IsRun}
use Rattle.fk_core.specs.Cores.Bursts.{MakesMoves}
use Rattle.fk_core.specs.Cores.Cores.{house, run_core}
use Rattle.fk_core.proofs.InCores.Bursting.{comes_along}
use Rattle.fk_core.proofs.InCores.Going.{come_plain, come_same}
use Rattle.fk_core.proofs.cores.turns.Core.burst.Goals as goal

pub returns-then-let_make-clause-answer : goal.returns-then-let_make-clause-answer
returns-then-let_make-clause-answer g c =
    let made : c.let_make.result ≡ c.goes_so.result = c.if-let_make.true ∙ sym c.goes_so.ensures.so in (
      c.let_make.new.kernel,
      subst (λ (b : Bool). FnOnceReturnsAtMut g.F.FnOnce c.args.f c.args.self.now.kernel b c.let_make.new.kernel) made c.let_make.ensures.answer,
    )

pub returns-then-let_make-clause-turns : goal.returns-then-let_make-clause-turns
returns-then-let_make-clause-turns g c =
    let self = c.args.self.now in
    let made : MakesMoves c.args.thread c.args.count self.kernel true c.let_make.new.kernel =
    subst (λ (b : Bool). MakesMoves c.args.thread c.args.count self.kernel b c.let_make.new.kernel) c.if-let_make.true c.let_make.ensures.makes in
    subst (λ (b : Bool). OnTrue b (IsRun (house self.jobs.jobs) (run_core self) (replicate c.args.count (record { who = c.args.thread; pick = None }))
    (run_core c.goes_so.new.self))) (sym c.goes_so.ensures.so) (c.goes_so.ensures.turns self.kernel c.requires.come made)

pub returns-then-let_make-clause-come : goal.returns-then-let_make-clause-come
returns-then-let_make-clause-come g c =
    let self = c.args.self.now in
    let after = c.goes_so.new.self in
    let made : MakesMoves c.args.thread c.args.count self.kernel true c.let_make.new.kernel =
    subst (λ (b : Bool). MakesMoves c.args.thread c.args.count self.kernel b c.let_make.new.kernel) c.if-let_make.true c.let_make.ensures.makes in
    come_same self.jobs.jobs after.jobs.jobs self.budget after.budget (run_core after) (run_core after) c.goes_so.ensures.jobs c.goes_so.ensures.budget refl
    (comes_along self.jobs.jobs self.budget (run_core self) (run_core after) _ c.requires.come (c.goes_so.ensures.turns self.kernel c.requires.come made))

pub returns-else-let_make-clause-come : goal.returns-else-let_make-clause-come
returns-else-let_make-clause-come g c =
    let self = c.args.self.now in
    let same : c.let_make.new.kernel ≡ self.kernel =
    subst (λ (b : Bool). MakesMoves c.args.thread c.args.count self.kernel b c.let_make.new.kernel) c.if-let_make.false c.let_make.ensures.makes in
    come_plain self.kernel c.let_make.new.kernel self.services.list self.services.list self.jobs self.jobs self.events self.events self.budget self.budget
    same refl refl refl refl c.requires.come
