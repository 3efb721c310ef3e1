use Rattle.std.proofs.Common.{[], ◌∷◌, refl, ap}
use Rattle.fk_model.specs.Outcomes.{done}
use Rattle.fk_model.specs.World.Change.{Alter}
use Rattle.fk_model.specs.World.Edit.{SetTalk}
use Rattle.fk_store.specs.Store.Paths.{path, place}
use Rattle.fk_plans.specs.Plans.Plans.{caller_by}
use Rattle.fk_links.proofs.restoring.links.Goals as goal

pub returns-clause-outcome : goal.returns-clause-outcome
returns-clause-outcome c =
    let p = path c.args.store.now in
    let caller = caller_by p c.args.caller c.args.given.now in
    ap (λ talk. done caller (Alter (place p c.args.client) (SetTalk talk) ∷ []) []) (c.given_talk-talk.ensures.talk p caller refl)
