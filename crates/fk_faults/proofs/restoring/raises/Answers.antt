use Rattle.std.proofs.Common.{[], ◌∷◌, refl, ap}
use Rattle.fk_model.specs.Outcomes.{done}
use Rattle.fk_model.specs.World.Change.{Alter}
use Rattle.fk_model.specs.World.Edit.{SetFault}
use Rattle.fk_store.specs.Store.Paths.{path, place}
use Rattle.fk_plans.specs.Plans.Plans.{caller_by}
use Rattle.fk_faults.proofs.restoring.raises.Goals as goal

pub returns-clause-outcome : goal.returns-clause-outcome
returns-clause-outcome c =
    let p = path c.args.store.now in
    let caller = caller_by p c.args.caller c.args.given.now in
    ap (λ fault. done caller (Alter (place p c.args.thread) (SetFault fault) ∷ []) []) (c.given_fault-fault.ensures.fault p caller refl)
