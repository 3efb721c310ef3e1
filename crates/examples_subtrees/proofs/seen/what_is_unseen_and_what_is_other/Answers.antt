-- A move that is other leaves something of the cut otherwise.
use Rattle.std.proofs.Common.{◌≡◌, ℕ, true, false, is_some, [], ◌∷◌, refl, ap, inr}
use Rattle.std.specs.Prelude.{slice_index, unwrap_or}
use Rattle.fk_model.specs.World.{World}
use Rattle.examples_subtrees.specs.Seen.{seen_worlds}
use Rattle.examples_subtrees.proofs.seen.what_is_unseen_and_what_is_other.Goals as goal

never : false ≡ true → ⊥
never h = cc

apart : ◌≡◌ {A = ℕ} 7 1192 → ⊥
apart h = cc

pub returns-clause-destroyed : goal.returns-clause-destroyed
unfolding seen_worlds
returns-clause-destroyed c = (inr refl, λ leaves. never (ap (λ (v : World). is_some (v.body (3 ∷ []))) leaves.0))

pub returns-clause-stored : goal.returns-clause-stored
unfolding seen_worlds
returns-clause-stored c = (inr refl, λ leaves. apart (ap (λ (v : World). slice_index (unwrap_or (v.page [] 3) []) 0) leaves.0))
