use Rattle.std.proofs.Common.{◌∙◌, sym}
use Rattle.fk_model.specs.Who.{event_of}
use Rattle.fk_core.specs.Rounds.Kernels.{path_of as path}
use Rattle.fk_core.specs.Rounds.Kernels.{world_of as world}
use Rattle.fk_served.proofs.Growing.{foretold-grow, foretold-same}
use Rattle.fk_core.proofs.cores.turns.Core.would_grow.Goals as goal

pub returns-in-Some-clause-grows : goal.returns-in-Some-clause-grows
returns-in-Some-clause-grows g c grow =
    let k = c.args.self.now.kernel in
    foretold-grow (world k) (path k) (event_of (world k) c.args.ask.now c.args.m.now) c.in-Some.told c.in-Some.ensures.told c.args.self.now.services.list
    (sym c.some_told.ensures ∙ grow)

pub returns-in-Some-clause-still : goal.returns-in-Some-clause-still
returns-in-Some-clause-still g c still ready valid few =
    let k = c.args.self.now.kernel in
    foretold-same (world k) (path k) (event_of (world k) c.args.ask.now c.args.m.now) c.in-Some.told c.in-Some.ensures.told valid few
    c.args.self.now.services.list ∙ (sym c.some_told.ensures ∙ still)

pub returns-in-None-clause-still : goal.returns-in-None-clause-still
returns-in-None-clause-still g c still ready valid few = absurd (c.in-None.ensures.unready ready)
