use Rattle.std.proofs.Common.{subst, IfSome}
use Rattle.fk_store.specs.Store.World.{IsLive}
use Rattle.fk_state.specs.Fields.{OnField}
use Rattle.fk_state.proofs.pointers.field_in.Goals as goal

pub returns-in-Some-clause-named : goal.returns-in-Some-clause-named
returns-in-Some-clause-named c =
    subst (λ o. IfSome o (OnField (IsLive c.args.store.now))) c.in-Some.is (c.field_of.ensures.named c.args.store.now c.requires.named)
