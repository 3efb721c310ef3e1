use Rattle.std.proofs.Common.{None, refl, sym, subst}
use Rattle.fk_model.specs.declared.moves.Move.{Move}
use Rattle.fk_model.specs.World.{World}
use Rattle.fk_core.specs.Rounds.Kernels.{Kept}
use Rattle.fk_core.specs.Rounds.Kernels.{world_of as world}
use Rattle.laws_turns.specs.Quiet.{LeadRunning}
use Rattle.laws_turns.proofs.Running.{bursts_run_lem}
use Rattle.fk_core.proofs.InCores.Entering.{moves_lead, one_more}
use Rattle.fk_core.proofs.cores.several.run_into.Goals as goal

pub returns-then-not-may_follow-clause-ran : goal.returns-then-not-may_follow-clause-ran
returns-then-not-may_follow-clause-ran c =
    let who = c.args.thread in
    let move : Move = record { who = who; pick = None } in
    let k = c.args.kernel.now in
    let ran = c.run_on-made in
    moves_lead who ran.result k ran.new.self ran.ensures.none (λ some. let b = ran.ensures.ran some in
    subst (λ (v : World). LeadRunning move ran.result (world k) v) (sym b.becomes)
    (bursts_run_lem move (world k) ran.result b.from b.to refl b.paged b.began b.makes b.pages))

-- ---- a call behind them

pub returns-then-enter-clause-ran : goal.returns-then-enter-clause-ran
returns-then-enter-clause-ran c =
    let who = c.args.thread in
    let move : Move = record { who = who; pick = None } in
    let k = c.args.kernel.now in
    let ran = c.run_on-made in
    let led = moves_lead who ran.result k ran.new.self ran.ensures.none (λ some. let b = ran.ensures.ran some in
    subst (λ (v : World). LeadRunning move ran.result (world k) v) (sym b.becomes)
    (bursts_run_lem move (world k) ran.result b.from b.to refl b.paged b.began b.makes b.pages)) in
    one_more who ran.result k ran.new.self c.enter.new.self led (rw c.if-enter.true at c.enter.ensures.ran) (rw c.if-enter.true at c.enter.ensures.made)

pub returns-clause-ran : goal.returns-clause-ran
returns-clause-ran c =
    let who = c.args.thread in
    let move : Move = record { who = who; pick = None } in
    let k = c.args.kernel.now in
    let ran = c.run_on-made in
    let led = moves_lead who ran.result k ran.new.self ran.ensures.none (λ some. let b = ran.ensures.ran some in
    subst (λ (v : World). LeadRunning move ran.result (world k) v) (sym b.becomes)
    (bursts_run_lem move (world k) ran.result b.from b.to refl b.paged b.began b.makes b.pages)) in
    let same = rw c.if-enter.false at c.enter.ensures.same in
    subst (λ (o : Kept). LeadRunning move ran.result (world k) (world o)) (sym same) led
