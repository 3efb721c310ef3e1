use Rattle.std.proofs.Common.{refl}
use Rattle.examples_premises.specs.Premises.{premises}
use Rattle.examples_premises.proofs.premises.a_proper_move.Goals as goal

pub returns-clause-user : goal.returns-clause-user
unfolding premises
returns-clause-user c = record { fit = refl; words = refl }

pub returns-clause-server : goal.returns-clause-server
unfolding premises
returns-clause-server c = record { fit = refl; words = refl }

pub returns-clause-porter : goal.returns-clause-porter
unfolding premises
returns-clause-porter c = record { fit = refl; words = refl }

pub returns-clause-parks : goal.returns-clause-parks
unfolding premises
returns-clause-parks c = record { fit = refl; words = refl }

pub returns-clause-parks_fault : goal.returns-clause-parks_fault
unfolding premises
returns-clause-parks_fault c = record { fit = refl; words = refl }

pub returns-clause-few : goal.returns-clause-few
unfolding premises
returns-clause-few c = λ proper. let h = proper.words in cc

pub returns-clause-many : goal.returns-clause-many
unfolding premises
returns-clause-many c = λ proper. let h = proper.words in cc

pub returns-clause-no_turn : goal.returns-clause-no_turn
unfolding premises
returns-clause-no_turn c = λ proper. let h = proper.fit in cc

pub returns-clause-long : goal.returns-clause-long
unfolding premises
returns-clause-long c = λ proper. let h = proper.fit in cc

pub returns-clause-no_taker : goal.returns-clause-no_taker
unfolding premises
returns-clause-no_taker c = λ proper. let h = proper.fit in cc
