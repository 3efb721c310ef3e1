use Rattle.std.proofs.Common.{ℕ, ◌∷◌, [], if◌then◌else◌, eqb, Some, None, refl, arith}
use Rattle.fk_model.specs.Places.{Path, same_path}
use Rattle.fk_model.specs.Places.Ptr.{At}
use Rattle.fk_model.specs.Valid.{kind_there}
use Rattle.fk_model.specs.Objects.Body.{Space}
use Rattle.examples_premises.specs.Premises.{premises, nesters_porter, within, objects_of, pages_of, full_of_all}
use Rattle.examples_premises.proofs.Listed.{whole}
use Rattle.examples_premises.proofs.premises.a_whole_world.Goals as goal

home : ℕ → Path
unfolding same_path
home n = if eqb n 0 then [] else (if eqb n 1 then 1 ∷ [] else within 6)

pub returns-clause-free : goal.returns-clause-free
unfolding premises home kind_there
returns-clause-free c = whole (full_of_all None)
    (([], Space 0 None) ∷ objects_of None) pages_of (λ x. refl) (λ s g. refl) home (λ s. within 2) (within 0) refl refl refl (omega arith)

pub returns-clause-held : goal.returns-clause-held
unfolding premises home kind_there
returns-clause-held c = whole (full_of_all (Some (At nesters_porter)))
    (([], Space 0 None) ∷ objects_of (Some (At nesters_porter))) pages_of (λ x. refl) (λ s g. refl) home (λ s. within 2) (within 0) refl refl refl (omega arith)
