use Rattle.std.proofs.Common.{[], ◌∷◌, false, replicate, Some, refl}
use Rattle.fk_model.specs.declared.thread.Turn.TheVariants as turns
use Rattle.fk_model.specs.Places.Ptr.{At}
use Rattle.fk_model.specs.Objects.Mode.{Native}
use Rattle.fk_model.specs.Objects.Peer.{Parked}
use Rattle.fk_model.specs.Objects.Body.{Mutex, Space}
use Rattle.examples_moves.specs.Worked.{thread_in_mode}
use Rattle.examples_premises.specs.Premises.{premises, nesters_porter, within}
use Rattle.examples_owed.proofs.what_a_porter_may_not_leave.Goals as goal

pub returns-clause-mutex_owes : goal.returns-clause-mutex_owes
unfolding premises
returns-clause-mutex_owes c = λ owes. let h = owes [] refl in cc

pub returns-clause-mutex : goal.returns-clause-mutex
unfolding premises
returns-clause-mutex c = λ savable. let h = savable.slots_kept 241 [] (Mutex false) refl in cc

pub returns-clause-space_owes : goal.returns-clause-space_owes
unfolding premises
returns-clause-space_owes c = λ owes. cc

pub returns-clause-space : goal.returns-clause-space
unfolding premises
returns-clause-space c = λ savable. let h = savable.slots_kept 241 [] (Space 100 (Some (At nesters_porter))) refl in cc

pub returns-clause-porter_owes : goal.returns-clause-porter_owes
unfolding premises
returns-clause-porter_owes c = λ owes. cc

pub returns-clause-porter : goal.returns-clause-porter
unfolding premises
returns-clause-porter c = λ savable.
    let h = savable.talks_placed (within 3) (record { port = At (8 ∷ []); peer = Parked; turn = turns.Server; moved = 0 }) refl in cc

pub returns-clause-renamed_owes : goal.returns-clause-renamed_owes
unfolding premises
returns-clause-renamed_owes c = λ owes. cc

pub returns-clause-renamed : goal.returns-clause-renamed
unfolding premises
returns-clause-renamed c = λ savable. let h = savable.slots_kept 12 [] (thread_in_mode (Native (replicate 16 0)) 0) refl in cc
