use Rattle.std.proofs.Common.{true, List, [], ◌∷◌, None, refl}
use Rattle.fk_model.specs.Places.{Path}
use Rattle.fk_model.specs.Objects.{Body}
use Rattle.fk_model.specs.Objects.Body.{Port, Space}
use Rattle.examples_moves.specs.Worked.{accepts, calling}
use Rattle.examples_moves.proofs.Tested.{legal-tested}
use Rattle.examples_premises.specs.Premises.{premises, objects_of, with_stranger, strangers_port, strangers_client}
use Rattle.examples_premises.proofs.Apart.{no_window}
use Rattle.examples_premises.proofs.Listed.{plain}
use Rattle.examples_premises.proofs.premises.a_strangers_port.Goals as goal

abbrev listed : List (Path × Body)
listed =
    ([], Space 0 None) ∷ (2 ∷ [], Space 3 None) ∷ (strangers_port, Port None true) ∷ (strangers_client, calling 0 (32 ∷ 9 ∷ [])) ∷ objects_of None

pub returns-clause-ready : goal.returns-clause-ready
unfolding premises
returns-clause-ready c = (legal-tested with_stranger (accepts strangers_port strangers_client ∷ []) refl).0

pub returns-clause-stranger : goal.returns-clause-stranger
unfolding premises
returns-clause-stranger c = record { outside = refl; aside = refl }

pub returns-clause-nesters : goal.returns-clause-nesters
unfolding premises
returns-clause-nesters c = λ its. let h = its.aside in cc

pub returns-clause-inner : goal.returns-clause-inner
unfolding premises
returns-clause-inner c = λ its. let h = its.outside in cc

pub returns-clause-plain : goal.returns-clause-plain
unfolding premises
returns-clause-plain c = plain with_stranger listed (λ x. refl) [] 1 refl 1 None refl

pub returns-clause-no_window : goal.returns-clause-no_window
unfolding premises
returns-clause-no_window c = no_window with_stranger listed (λ x. refl) [] 1 refl
