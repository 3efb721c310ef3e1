use Rattle.std.proofs.Common.{None, ap, map, refl, ◌∙◌}
use Rattle.fk_core.specs.Rounds.Kernels.{store_of}
use Rattle.fk_core.specs.Rounds.Served.{told}
use Rattle.fk_core.specs.Rounds.Speaking.{said_of}
use Rattle.fk_core.proofs.InRounds.Hearing.{fits-told}
use Rattle.fk_core.proofs.InCores.Proceeding.{spoken}
use Rattle.fk_core.proofs.cores.turns.Core.speak_at.Goals as goal

pub returns-clause-made : goal.returns-clause-made
returns-clause-made g c =
    let self = c.args.self.now in
    let said = said_of (store_of c.speak.new.self) c.in-Some.spoken in
    let made = rw c.in-Some.is at c.speak.ensures.made in
    let ended = rw c.in-Some.is at c.speak.ensures.ended in
    let tells = rw c.in-Some.is at c.speak.ensures.told in
    spoken self.kernel c.speak.new.self self.services.list c.hear_spoken-port.new.services.list self.jobs self.budget self.events c.args.who said _ c.requires.few
    c.requires.other made (ended refl) tells (c.hear_spoken-port.ensures ∙ ap (map (told said None)) c.reserve.ensures.same) c.settle.ensures.settles
    c.settle.ensures.events

pub returns-clause-fits : goal.returns-clause-fits
returns-clause-fits g c =
    rw (c.settle.ensures.services, c.hear_spoken-port.ensures, c.reserve.ensures.same)
    (fits-told _ (said_of (store_of c.speak.new.self) c.in-Some.spoken) None c.args.self.now.services.list c.requires.fits)

pub hear_spoken-port-requires-clause-there : goal.hear_spoken-port-requires-clause-there
hear_spoken-port-requires-clause-there g c = rw c.in-Some.is at c.speak.ensures.there
