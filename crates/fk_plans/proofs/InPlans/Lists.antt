-- Kept: lists of changes.
use Rattle.std.proofs.Common.{◌≡◌, ◌↔◌, ℕ, List, [], ◌∷◌, ◌++◌, length, take, drop, zero, suc, refl, ap, arith}
use Rattle.fk_model.specs.Freezing.{AreAllowed, IsAllowed}
use Rattle.fk_model.specs.Places.{Path}
use Rattle.fk_model.specs.World.{World, Change, apply, apply_all}

-- the caller's own part comes last
pub own_last : (cs : List Change) (c : Change) (w : World) → apply_all (cs ++ c ∷ []) w ≡ apply c (apply_all cs w)
unfolding apply_all
own_last [] c w = refl
own_last (d ∷ cs) c w = own_last cs c (apply d w)

none_taken : (n : ℕ) → take {A = ℕ} n [] ≡ []
none_taken zero = refl
none_taken (suc n) = refl

-- all of a list
pub all_taken : (n : ℕ) (ws : List ℕ) → length ws ≡ n → take n ws ≡ ws
all_taken n [] long = none_taken n
all_taken zero (w ∷ ws) long = absurd (omega arith)
all_taken (suc n) (w ∷ ws) long = ap (λ v. w ∷ v) (all_taken n ws (omega arith))

-- ---- the caller's own part is allowed besides

with_own : (w : World) (me : Path) (c : Change) → IsAllowed w me c → (cs : List Change) → AreAllowed w me cs → AreAllowed w me (cs ++ c ∷ [])
with_own w me c own [] h = (own, tt)
with_own w me c own (d ∷ cs) h = (h.0, with_own w me c own cs h.1)

without_own : (w : World) (me : Path) (c : Change) (cs : List Change) → AreAllowed w me (cs ++ c ∷ []) → AreAllowed w me cs
without_own w me c [] h = tt
without_own w me c (d ∷ cs) h = (h.0, without_own w me c cs h.1)

pub own_iff : {P : Type 0} (w : World) (me : Path) (c : Change) (cs : List Change) →
    IsAllowed w me c → (P ↔ AreAllowed w me cs) → P ↔ AreAllowed w me (cs ++ c ∷ [])
own_iff w me c cs own h = ((λ p. with_own w me c own cs (h.0 p)), (λ q. h.1 (without_own w me c cs q)))

-- the first of two lists
pub first_taken : (n : ℕ) (xs ys : List ℕ) → length xs ≡ n → take n (xs ++ ys) ≡ xs
first_taken zero [] ys long = refl
first_taken (suc n) [] ys long = absurd (omega arith)
first_taken zero (x ∷ xs) ys long = absurd (omega arith)
first_taken (suc n) (x ∷ xs) ys long = ap (λ v. x ∷ v) (first_taken n xs ys (omega arith))

-- and the second
pub rest_left : (n : ℕ) (xs ys : List ℕ) → length xs ≡ n → drop n (xs ++ ys) ≡ ys
rest_left zero [] ys long = refl
rest_left (suc n) [] ys long = absurd (omega arith)
rest_left zero (x ∷ xs) ys long = absurd (omega arith)
rest_left (suc n) (x ∷ xs) ys long = rest_left n xs ys (omega arith)

-- past all of a list there is nothing
pub none_left : (n : ℕ) (ws : List ℕ) → length ws ≡ n → drop n ws ≡ []
none_left zero [] long = refl
none_left (suc n) [] long = absurd (omega arith)
none_left zero (w ∷ ws) long = absurd (omega arith)
none_left (suc n) (w ∷ ws) long = none_left n ws (omega arith)
