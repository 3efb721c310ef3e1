use Rattle.std.proofs.Common.{subst}
use Rattle.fk_store.specs.Store.Paths.{IsAtHome}
use Rattle.fk_pager.proofs.desks.birth_in.Goals as goal

pub returns-in-Space-clause-home : goal.returns-in-Space-clause-home
returns-in-Space-clause-home c path who home = subst (IsAtHome path who) c.in-Space.is home
