use Rattle.std.proofs.Common.{◌≡◌, ℕ, List, [], ◌∷◌, ◌++◌, length, None, refl, sym, ap}
use Rattle.fk_model.specs.World.{World}
use Rattle.fk_model.specs.Runs.{after}
use Rattle.fk_model.specs.Further.{Told, IsFurther}
use Rattle.fk_model.specs.Further.IsFurther.{Still, Then}
use Rattle.fk_model.specs.Further.Told.{ToldWords}
use Rattle.laws_isolation.proofs.Once.{noninterferes}
use Rattle.examples_premises.specs.Premises.{with_stranger}
use Rattle.examples_subtrees.specs.Further.{later, heard, own_move_taking, sending_out}
use Rattle.examples_isolation.specs.Isolation.{isolated_worlds, accepts_there, sends_block, block, TellsBlock}
use Rattle.examples_isolation.proofs.There.{untouched, before, behind}
use Rattle.examples_isolation.proofs.a_subtree_tells_the_same_beside_a_stranger.Goals as goal

tells_block : TellsBlock
unfolding isolated_worlds
tells_block _ _ (Then _ d _ _ _ told _ one (Still _)) = rw (one.1) refl

pub returns-clause-told : goal.returns-clause-told
returns-clause-told c = tells_block

pub returns-clause-same : goal.returns-clause-same
returns-clause-same c = noninterferes with_stranger (after with_stranger accepts_there) [] [] 1 1 (sends_block ∷ []) (sends_block ∷ []) (block ∷ [])
    before behind (sym untouched.same)

-- ---- how many words the outside takes

alone : World
alone = sending_out 128 70

sends : (taken : ℕ) → World
sends taken = later alone (own_move_taking taken)

all_taken : IsFurther alone (own_move_taking 64 ∷ []) (heard alone (own_move_taking 64) ++ []) (sends 64)
unfolding isolated_worlds alone sends
all_taken = Then alone (sends 64) (sends 64) (own_move_taking 64) [] (heard alone (own_move_taking 64)) []
    ((record { object = refl; changed = refl; made = refl }, (record { object = refl; changed = refl; made = refl }, tt)), refl, refl) (Still (sends 64))

one_taken : IsFurther alone (own_move_taking 1 ∷ []) (heard alone (own_move_taking 1) ++ []) (sends 1)
unfolding isolated_worlds alone sends
one_taken = Then alone (sends 1) (sends 1) (own_move_taking 1) [] (heard alone (own_move_taking 1)) []
    ((record { object = refl; changed = refl; made = refl }, (record { object = refl; changed = refl; made = refl }, tt)), refl, refl) (Still (sends 1))

abbrev words_told : List Told → ℕ
words_told (ToldWords x port words ∷ told) = length words
words_told other = 0

apart : ◌≡◌ {A = ℕ} 64 1 → ⊥
apart h = cc

pub returns-clause-takers : goal.returns-clause-takers
unfolding isolated_worlds alone
returns-clause-takers c = λ claim. apart (ap words_told (claim alone (sends 64) (sends 1) (0 ∷ []) None 64 1 (heard alone (own_move_taking 64) ++ [])
    (heard alone (own_move_taking 1) ++ []) all_taken one_taken))
