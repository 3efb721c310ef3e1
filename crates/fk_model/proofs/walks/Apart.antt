-- Lists of which no two are alike, by what is put behind them.
use Rattle.std.proofs.Common.{◌≡◌, Bool, true, false, not, ◌&&◌, ◌||◌, List, [], ◌∷◌, ◌++◌, refl}
use Rattle.std.specs.List.{list_any}
use Rattle.std.proofs.lemmas.Bool.{and_parts}
use Rattle.fk_model.specs.Sound.{are_apart}

off : (b : Bool) → not b ≡ true → b ≡ false
off true h = cc
off false h = refl

either-first : (a b : Bool) → (a || b) ≡ false → a ≡ false
either-first true b h = h
either-first false b h = refl

either-later : (a b : Bool) → (a || b) ≡ false → b ≡ false
either-later true b h = absurd (cc)
either-later false b h = h

module _ {A : Type 0} where
  pub any_push : (test : A → Bool) (xs : List A) (x : A) → list_any test xs ≡ false → test x ≡ false → list_any test (xs ++ x ∷ []) ≡ false
  any_push test [] x none none-last = rw none-last refl
  any_push test (y ∷ ys) x none none-last =
      rw (either-first (test y) (list_any test ys) none, any_push test ys x (either-later (test y) (list_any test ys) none) none-last) refl

  pub apart_push : (alike : A → A → Bool) (xs : List A) (x : A) → are_apart alike xs ≡ true → list_any (λ y. alike y x) xs ≡ false
      → are_apart alike (xs ++ x ∷ []) ≡ true
  unfolding are_apart
  apart_push alike [] x apart none = refl
  apart_push alike (y ∷ ys) x apart none =
      let both = and_parts (not (list_any (alike y) ys)) (are_apart alike ys) apart in
      let first = either-first (alike y x) (list_any (λ z. alike z x) ys) none in
      let later = either-later (alike y x) (list_any (λ z. alike z x) ys) none in
      rw (any_push (alike y) ys x (off (list_any (alike y) ys) both.0) first, apart_push alike ys x both.1 later) refl
