use Rattle.std.proofs.Common.{◌≡◌, ◌∙◌, false, is_some, Some, sym, subst}
use Rattle.std.proofs.lemmas.Bool.{OnTrue_at}
use Rattle.fk_model.specs.declared.moves.Move.{Move}
use Rattle.fk_core.specs.Rounds.Kernels.{world_of as world}
use Rattle.fk_core.specs.Cores.Cores.{run_core, IsAdvanced}
use Rattle.fk_core.proofs.InRounds.Asking.{ready_asked}
use Rattle.fk_core.proofs.InCores.Proceeding.{unpicked}
use Rattle.fk_core.proofs.cores.turns.Core.go_user.Goals as goal

pub returns-then-speak_at-clause-tried : goal.returns-then-speak_at-clause-tried
returns-then-speak_at-clause-tried g c =
    let self = c.args.self.now in
    let m = c.args.m.now in
    let none : is_some m.pick ≡ false = sym c.is_some.ensures ∙ c.if-is_some.false in
    let made = subst (λ (mv : Move). IsAdvanced self.jobs.jobs self.budget (run_core self) (Some mv) (run_core c.speak_at.new.self))
    (unpicked m.who m.pick none) (OnTrue_at c.if-speak_at.true c.speak_at.ensures.made) in
    (ready_asked self.jobs (world self.kernel) self.services.list self.events m c.requires.other made.1, made.2, made.3)
