-- What shows no call of the new version, part by part.
use Rattle.std.proofs.Common.{◌≡◌, ◌&&◌, ◌||◌, Bool, true, false, not, List, [], ◌∷◌, refl}
use Rattle.std.specs.List.{list_all, list_any}
use Rattle.fk_image.specs.Image.Valid.{all_from}
use Rattle.fk_image.specs.Format.Versions.{allows}
use Rattle.fk_image.proofs.InFormat.Basics.{both, and2}

-- each of them may stand there, and so may all
pub allows_all : {X : Type 0} (f : X → Bool) (new : Bool) (xs : List X) → list_all (λ x. allows new (f x)) xs ≡ true → allows new (list_any f xs) ≡ true
allows_all f true xs e = refl
allows_all f false [] e = refl
allows_all f false (x ∷ xs) e = by (f x) (list_any f xs) (list_all (λ x. allows false (f x)) xs) e (allows_all f false xs)
  where
    by : (b rest all : Bool) → (not b && all) ≡ true → (all ≡ true → not rest ≡ true) → not (b || rest) ≡ true
    by true rest all e later = absurd (cc)
    by false rest all e later = later e

pub allows_each : {X : Type 0} (f : X → Bool) (new : Bool) (xs : List X) → allows new (list_any f xs) ≡ true → list_all (λ x. allows new (f x)) xs ≡ true
allows_each f new [] e = refl
allows_each f true (x ∷ xs) e = allows_each f true xs refl
allows_each f false (x ∷ xs) e = by (f x) (list_any f xs) (list_all (λ x. allows false (f x)) xs) e (allows_each f false xs)
  where
    by : (b rest all : Bool) → not (b || rest) ≡ true → (not rest ≡ true → all ≡ true) → (not b && all) ≡ true
    by true rest all e later = absurd (cc)
    by false rest all e later = later e

pub allows_itself : (shows : Bool) → allows shows shows ≡ true
allows_itself true = refl
allows_itself false = refl

-- two tests of each
pub all_both : {S X : Type 0} (next : S → X → S) (p : S → X → Bool) (q : X → Bool) (s : S) (xs : List X) →
    all_from next p s xs ≡ true → list_all q xs ≡ true → all_from next (λ s x. p s x && q x) s xs ≡ true
all_both next p q s [] a b = refl
all_both next p q s (x ∷ xs) a b =
    let f = and2 (p s x) (all_from next p (next s x) xs) a in
    let g = and2 (q x) (list_all q xs) b in
    both _ _ (both _ _ f.0 g.0) (all_both next p q (next s x) xs f.1 g.1)

pub all_right : {S X : Type 0} (next : S → X → S) (p : S → X → Bool) (q : X → Bool) (s : S) (xs : List X) →
    all_from next (λ s x. p s x && q x) s xs ≡ true → list_all q xs ≡ true
all_right next p q s [] a = refl
all_right next p q s (x ∷ xs) a =
    let f = and2 (p s x && q x) (all_from next (λ s x. p s x && q x) (next s x) xs) a in
    let g = and2 (p s x) (q x) f.0 in
    both _ _ g.1 (all_right next p q (next s x) xs f.1)

pub all_left : {S X : Type 0} (next : S → X → S) (p : S → X → Bool) (q : X → Bool) (s : S) (xs : List X) →
    all_from next (λ s x. p s x && q x) s xs ≡ true → all_from next p s xs ≡ true
all_left next p q s [] a = refl
all_left next p q s (x ∷ xs) a =
    let f = and2 (p s x && q x) (all_from next (λ s x. p s x && q x) (next s x) xs) a in
    let g = and2 (p s x) (q x) f.0 in
    both _ _ g.0 (all_left next p q (next s x) xs f.1)
