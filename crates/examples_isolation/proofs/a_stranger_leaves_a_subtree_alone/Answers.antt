use Rattle.std.proofs.Common.{◌≡◌, ℕ, true, false, is_some, [], ◌∷◌, refl, ap}
use Rattle.fk_model.specs.World.{World}
use Rattle.examples_moves.proofs.Tested.{legal-tested}
use Rattle.examples_premises.specs.Premises.{with_stranger}
use Rattle.examples_isolation.specs.Isolation.{isolated_worlds, takes_page, with_windows, storer}
use Rattle.examples_moves.specs.Worked.{goes}
use Rattle.laws_isolation.specs.Integrity.IsStrangersMove.{OfThread}
use Rattle.examples_isolation.proofs.Windows.{windows_whole, windows_plain, stores_as_stranger, first_word}
use Rattle.examples_isolation.proofs.There.{is_whole, is_plain, has_no_window, untouched}
use Rattle.examples_isolation.proofs.a_stranger_leaves_a_subtree_alone.Goals as goal

never : false ≡ true → ⊥
never h = cc

pub returns-clause-goes : goal.returns-clause-goes
unfolding isolated_worlds
returns-clause-goes c = refl

pub returns-clause-untouched : goal.returns-clause-untouched
returns-clause-untouched c = untouched

pub returns-clause-outsiders : goal.returns-clause-outsiders
unfolding isolated_worlds
returns-clause-outsiders c = λ claim. never (ap (λ (v : World). is_some (v.page [] 2))
    (claim with_stranger [] 1 takes_page is_whole is_plain has_no_window refl (legal-tested with_stranger (takes_page ∷ []) refl).0 refl))

apart : ◌≡◌ {A = ℕ} 7 1128 → ⊥
apart h = cc

pub returns-clause-windows : goal.returns-clause-windows
unfolding isolated_worlds
returns-clause-windows c = λ claim. apart (ap first_word (claim with_windows [] 1 (goes storer) windows_whole windows_plain refl
    (legal-tested with_windows (goes storer ∷ []) refl).0 (OfThread stores_as_stranger refl)))
