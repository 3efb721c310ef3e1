use Rattle.std.proofs.Common.{ap, ◌∙◌}
use Rattle.fk_waits.specs.Causes.Causes.{front_of}
use Rattle.fk_waits.proofs.InCauses.Steps.{front_shown}
use Rattle.fk_waits.proofs.causes.causes.Causes.front.Goals as goal

pub returns : goal.returns
returns c l standing =
    c.front.ensures standing.places standing.placed.filed ∙ front_shown c.args.self.now standing.places ∙ ap front_of standing.shown
