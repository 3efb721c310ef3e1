use Rattle.std.proofs.Common.{None, refl}
use Rattle.fk_model.specs.declared.moves.Ask.TheVariants as asks
use Rattle.fk_model.specs.declared.moves.Said.TheVariants as says
use Rattle.fk_core.proofs.InRounds.Hearing.{fits-told}
use Rattle.fk_core.proofs.InCores.Serving.{served}
use Rattle.fk_core.proofs.cores.turns.Core.pass_at.Goals as goal

pub returns-clause-made : goal.returns-clause-made
returns-clause-made g c =
    let self = c.args.self.now in
    let port = c.args.port in
    served self.kernel c.pass.new.self self.services.list c.hear_over.new.self.list self.jobs self.budget self.events port asks.Over (says.Over port) _
    c.requires.few c.requires.other c.requires.asked refl (rw c.if-not-pass.false at c.pass.ensures.passed) c.hear_over.ensures
    c.settle.ensures.settles c.settle.ensures.events

pub returns-clause-fits : goal.returns-clause-fits
returns-clause-fits g c =
    rw (c.settle.ensures.services, c.hear_over.ensures) (fits-told _ (says.Over c.args.port) None c.args.self.now.services.list c.requires.fits)
