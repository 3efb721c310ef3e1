use Rattle.std.proofs.Common.{◌≡◌, [], ◌∷◌, refl}
use Rattle.examples_moves.proofs.Tested.{legal-tested}
use Rattle.laws_moves.proofs.InSavable.Laws.{keeps_savable}
use Rattle.examples_premises.specs.Premises.{premises}
use Rattle.examples_owed.specs.Owed.{leads_outside, gives_hold, makes_within}
use Rattle.examples_owed.proofs.Worlds.{whole-outside, savable-outside, clear}
use Rattle.examples_owed.proofs.a_porter_gives_what_it_owes.Goals as goal

pub returns-clause-whole : goal.returns-clause-whole
returns-clause-whole c = whole-outside

pub returns-clause-savable : goal.returns-clause-savable
returns-clause-savable c = savable-outside

pub returns-clause-proper : goal.returns-clause-proper
unfolding premises
returns-clause-proper c = record { fit = refl; words = refl }

pub returns-clause-hold : goal.returns-clause-hold
unfolding premises
returns-clause-hold c = (
  λ space y place named. let own : [] ≡ space = cc in let porter : 255 ∷ [] ≡ y = cc in rw (← own, ← porter) refl,
  λ space place k scratch live. let own : [] ≡ space = cc in absurd (clear k scratch (rw (← own) at live)),
)

pub returns-clause-mutex : goal.returns-clause-mutex
unfolding premises
returns-clause-mutex c = λ space place. refl

pub returns-clause-reference : goal.returns-clause-reference
unfolding premises
returns-clause-reference c = λ space place. let own : [] ≡ space = cc in rw (← own) refl

pub returns-clause-space : goal.returns-clause-space
unfolding premises
returns-clause-space c = refl

pub returns-clause-within : goal.returns-clause-within
unfolding premises
returns-clause-within c = λ space place. let own : 1 ∷ [] ≡ space = cc in rw (← own) refl

pub returns-clause-releases : goal.returns-clause-releases
unfolding premises
returns-clause-releases c = λ space place k scratch live. let own : [] ≡ space = cc in absurd (clear k scratch (rw (← own) at live))

pub returns-clause-clears : goal.returns-clause-clears
unfolding premises
returns-clause-clears c = refl

pub returns-clause-destroys : goal.returns-clause-destroys
unfolding premises
returns-clause-destroys c = refl

pub returns-clause-renames : goal.returns-clause-renames
unfolding premises
returns-clause-renames c = refl

pub returns-clause-ready : goal.returns-clause-ready
unfolding premises
returns-clause-ready c = (legal-tested leads_outside (gives_hold ∷ []) refl).0

pub returns-clause-after : goal.returns-clause-after
returns-clause-after c = keeps_savable leads_outside gives_hold whole-outside savable-outside (returns-clause-proper c) (returns-clause-hold c)

pub returns-clause-made_within : goal.returns-clause-made_within
unfolding premises
returns-clause-made_within c =
    keeps_savable leads_outside (makes_within 240 9) whole-outside savable-outside (record { fit = refl; words = refl }) (returns-clause-within c)
