use Rattle.std.proofs.Common.{◌≡◌, ◌∙◌, Some, None, sym, ap, map}
use Rattle.fk_model.specs.declared.moves.Said.TheVariants as says
use Rattle.fk_natives.specs.Natives.{gives_left}
use Rattle.fk_core.specs.Rounds.Kernels.{world_of as world}
use Rattle.fk_core.specs.Rounds.Served.{asked, told}
use Rattle.fk_core.proofs.InRounds.Hearing.{fits-told}
use Rattle.fk_core.proofs.InCores.Serving.{given_left, none_left, served, words_left}
use Rattle.fk_core.proofs.cores.turns.Core.act_at.Goals as goal

pub pass_at-requires-clause-asked : goal.pass_at-requires-clause-asked
pass_at-requires-clause-asked g c =
    c.in-Some.ensures.asked ∙ ap Some (none_left c.in-Some.left.now (sym c.is_empty.ensures ∙ c.if-is_empty.true))

pub returns-clause-made : goal.returns-clause-made
returns-clause-made g c =
    let self = c.args.self.now in
    let port = c.args.port in
    let left = c.in-Some.left.now in
    let count = c.in-Some-give.count in
    let asked_for : asked self.services.list (world self.kernel) port ≡ Some (gives_left left) = rw (sym c.reserve.ensures.same) c.in-Some.ensures.asked in
    let acted = given_left self.kernel c.give.new.self port left count (sym c.is_empty.ensures ∙ c.if-is_empty.false) c.in-Some-give.ensures.gave in
    served self.kernel c.give.new.self self.services.list c.hear_given.new.self.list self.jobs self.budget self.events port (gives_left left)
    (says.Given port count) _ c.requires.few c.requires.other asked_for (words_left left c.in-Some.ensures.words) acted
    (c.hear_given.ensures ∙ ap (map (told (says.Given port count) None)) c.reserve.ensures.same) c.settle.ensures.settles c.settle.ensures.events

pub returns-clause-fits : goal.returns-clause-fits
returns-clause-fits g c =
    rw (c.settle.ensures.services, c.hear_given.ensures, c.reserve.ensures.same)
    (fits-told _ (says.Given c.args.port c.in-Some-give.count) None c.args.self.now.services.list c.requires.fits)
