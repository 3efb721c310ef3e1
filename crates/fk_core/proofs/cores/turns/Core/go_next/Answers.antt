use Rattle.std.proofs.Common.{◌≡◌, ◌∙◌, subst, true}
use Rattle.fk_core.specs.Cores.Cores.{run_core}
use Rattle.fk_core.specs.Cores.Memory.{may_lack}
use Rattle.std.proofs.lemmas.Result.{err_from_is_err_and}
use Rattle.fk_core.proofs.cores.turns.Core.go_next.Goals as goal

pub returns-in_err-turn-clause-made : goal.returns-in_err-turn-clause-made
returns-in_err-turn-clause-made g c =
    let ready = c.in-Some.ensures.ready in
    let lacks = subst (λ v. may_lack c.args.self.now.jobs.jobs v c.in-Some.m ≡ true) c.choose_next.ensures.same
    (subst (λ jobs. may_lack jobs (run_core c.choose_next.new.self) c.in-Some.m ≡ true) c.choose_next.ensures.jobs c.in_err-turn.ensures.lacks) in
    let p = err_from_is_err_and c.from_residual.result c.from_residual.ensures.1 in rw p.1 ((c.in-Some.m, ready.0, ready.1, lacks), c.in_err-turn.ensures.lacking ∙ c.choose_next.ensures.same)
