use Rattle.std.proofs.Common.{ℕ, List, [], ◌∷◌, if◌then◌else◌, eqb, Some, None, refl, arith}
use Rattle.fk_model.specs.Places.{Path, same_path}
use Rattle.fk_model.specs.Places.Ptr.{At}
use Rattle.fk_model.specs.Objects.{Body}
use Rattle.fk_model.specs.Objects.Body.{Space, Reference}
use Rattle.fk_model.specs.Holds.{decider}
use Rattle.fk_model.specs.Valid.{kind_there}
use Rattle.fk_model.specs.Whole.{IsWhole}
use Rattle.examples_moves.specs.Worked.{running}
use Rattle.examples_moves.proofs.Tested.{legal-tested}
use Rattle.examples_premises.specs.Premises.{premises, nesters_porter, within, objects_of, pages_of, with_user, users_goes}
use Rattle.examples_premises.proofs.HeldBy.{holding}
use Rattle.examples_premises.proofs.Listed.{whole}
use Rattle.examples_premises.proofs.premises.a_users_move_beside_a_hold.Goals as goal

abbrev listed : List (Path × Body)
listed = ([], Space 0 None) ∷ (0 ∷ [], running 0 []) ∷ (240 ∷ [], Reference (At (within 5))) ∷ objects_of (Some (At nesters_porter))

home : ℕ → Path
unfolding same_path
home n = if eqb n 0 then [] else (if eqb n 1 then 1 ∷ [] else within 6)

whole_user : IsWhole with_user
unfolding premises home kind_there
whole_user = whole with_user listed pages_of (λ x. refl) (λ s g. refl) home (λ s. within 2) (within 0) refl refl refl (omega arith)

pub returns-clause-holding : goal.returns-clause-holding
unfolding premises decider
returns-clause-holding c = holding with_user [] 1 [] listed (λ x. refl) refl (omega arith) refl refl refl

pub returns-clause-user : goal.returns-clause-user
unfolding premises
returns-clause-user c = record {
  valid = whole_user.valid;
  few = whole_user.few;
  fit = refl;
  ready = (legal-tested with_user (users_goes ∷ []) refl).0;
  users = refl;
  other = refl;
}

pub returns-clause-porter : goal.returns-clause-porter
unfolding premises
returns-clause-porter c = λ move. let h = move.users in cc

pub returns-clause-held : goal.returns-clause-held
unfolding premises
returns-clause-held c = λ move. absurd (move.ready)

pub returns-clause-nobody : goal.returns-clause-nobody
unfolding premises
returns-clause-nobody c = λ move. absurd (move.ready)
