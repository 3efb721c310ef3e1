-- What is tested of each object that a world lists: that it has no pointer of a cut, and is no window into a subtree.
use Rattle.std.proofs.Common.{◌≡◌, ℕ, ◌∷◌, Bool, true, false, not, ◌||◌, List, Option, None, Some, refl, sym, ◌∙◌}
use Rattle.std.specs.List.{list_all, list_any}
use Rattle.fk_model.specs.Places.{Path, is_within}
use Rattle.fk_model.specs.Objects.{Body, Window, mapping_of, and_then, holds}
use Rattle.fk_model.specs.World.{World}
use Rattle.fk_model.specs.Freezing.{body_pointers}
use Rattle.fk_model.specs.Seen.{leads_inside}
use Rattle.fk_model.specs.Cut.{IsPlain}
use Rattle.fk_model.specs.Sound.{is_cut_pointer, IsUncut}
use Rattle.laws_subtrees.specs.Further.ClosedLaws.{IsUsersAlone}
use Rattle.laws_subtrees.specs.Further.Strangers.{HasNoWindow}
use Rattle.examples_moves.specs.Worked.{body_in}
use Rattle.examples_premises.proofs.Listed.{found}

is_not : (b : Bool) → not b ≡ true → b ≡ false
is_not true h = cc
is_not false h = refl

abbrev pub is_uncut_at : Path → Body → Bool
is_uncut_at x b = not (list_any is_cut_pointer (body_pointers (Some b)))

abbrev is_window : Path → Option Body → Bool
is_window root o = holds (λ (m : Window). leads_inside root m.region) (and_then mapping_of o)

abbrev pub is_no_window_at : Path → Path → Body → Bool
is_no_window_at root x b = is_within root x || not (is_window root (Some b))

module _ (w : World) (es : List (Path × Body)) (bodies : (x : Path) → w.body x ≡ body_in es x) where
  pub uncut : list_all (λ e. is_uncut_at e.0 e.1) es ≡ true → IsUncut w
  uncut all x = by (w.body x) refl
    where
      by : (o : Option Body) → w.body x ≡ o → list_any is_cut_pointer (body_pointers o) ≡ false
      by None e = refl
      by (Some b) e = is_not _ (found is_uncut_at es all x b (sym (bodies x) ∙ e))

  pub no_window : (nester : Path) (slot : ℕ) → list_all (λ e. is_no_window_at (slot ∷ nester) e.0 e.1) es ≡ true → HasNoWindow w nester slot
  no_window nester slot all x out = by (w.body x) refl
    where
      by : (o : Option Body) → w.body x ≡ o → is_window (slot ∷ nester) o ≡ false
      by None e = refl
      by (Some b) e = is_not _ (rw out at (found (is_no_window_at (slot ∷ nester)) es all x b (sym (bodies x) ∙ e)))

pub users_alone : (w : World) (nester : Path) (slot : ℕ) → IsPlain w nester slot → IsUsersAlone w nester slot
users_alone w nester slot plain = record {
  birth = plain.birth;
  holder = plain.holder;
  root = plain.root;
  no_porter = plain.no_porter;
  unserved = plain.unserved;
}
