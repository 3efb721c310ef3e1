use Rattle.std.proofs.Common.{◌≡◌, ◌∙◌, false, is_some, Some, sym, subst}
use Rattle.fk_model.specs.declared.moves.Move.{Move}
use Rattle.fk_core.specs.Cores.Cores.{run_core, IsAdvanced}
use Rattle.fk_core.proofs.InCores.Proceeding.{proceeded, unpicked}
use Rattle.fk_core.proofs.cores.turns.Core.go_plain.Goals as goal

pub returns-clause-made : goal.returns-clause-made
returns-clause-made g c =
    let self = c.args.self.now in
    let m = c.args.m.now in
    let after = c.settle.new.self in
    let none : is_some m.pick ≡ false = sym c.is_some.ensures ∙ c.if-is_some.false in
    subst (λ (mv : Move). IsAdvanced self.jobs.jobs self.budget (run_core self) (Some mv)
    (run_core after))
    (unpicked m.who m.pick none)
    (proceeded self.kernel c.proceed.new.self self.services.list self.jobs self.budget self.events m.who _ c.requires.few
    (sym c.is_porter.ensures ∙ c.if-is_porter.false)
    (rw c.in-Made.is at c.proceed.ensures.made) (rw c.in-Made.is at c.proceed.ensures.ended)
    c.settle.ensures.settles c.settle.ensures.events)
