-- A number is read digit by digit, and given up as soon as it is above the most that is wanted.
use Rattle.std.proofs.Common.{◌≡◌, ℕ, ◌+◌, ◌-◌, ◌*◌, ◌≤◌, Bool, true, false, ◌&&◌, ◌==◌, nat_le, List, [], ◌∷◌, length, fold, Option, Some, None, if◌then◌else◌}
use Rattle.std.proofs.Common.{le-leb, refl, arith}
use Rattle.std.proofs.lemmas.Bool.{leb-true}
use Rattle.std.specs.List.{list_all}
use Rattle.fk_model.specs.Numbers.{is_digit, number_up_to}

-- the number that digits write after those of n
abbrev pub value_after : ℕ → List ℕ → ℕ
value_after n digits = fold (λ number digit. number * 10 + (digit - 48)) n digits

-- what is read of digits after those of n
abbrev pub read_after : ℕ → ℕ → List ℕ → Option ℕ
read_after most n [] = Some n
read_after most n (b ∷ bs) = if is_digit b && nat_le (n * 10 + (b - 48)) most then read_after most (n * 10 + (b - 48)) bs else None

grows : (n : ℕ) (bs : List ℕ) → n ≤ value_after n bs
grows n [] = omega arith
grows n (b ∷ bs) = omega (arith, grows (n * 10 + (b - 48)) bs)

abbrev read_whole : ℕ → ℕ → List ℕ → Option ℕ
read_whole most n bs = if list_all is_digit bs && nat_le (value_after n bs) most then Some (value_after n bs) else None

too_large : (most n : ℕ) (bs : List ℕ) → nat_le n most ≡ false → nat_le (value_after n bs) most ≡ false
too_large most n bs h = grind (arith, grows n bs, leb-true)

read_after-whole : (most n : ℕ) (bs : List ℕ) → n ≤ most → read_after most n bs ≡ read_whole most n bs
read_after-whole most n [] h = rw (le-leb n most h) refl
read_after-whole most n (b ∷ bs) h = by (is_digit b) (nat_le (n * 10 + (b - 48)) most) refl refl (read_after-whole most (n * 10 + (b - 48)) bs)
  where
    by : (d t : Bool) → is_digit b ≡ d →
        nat_le (n * 10 + (b - 48)) most ≡ t → (n * 10 + (b - 48) ≤ most → read_after most (n * 10 + (b - 48)) bs ≡ read_whole most (n * 10 + (b - 48)) bs)
        → (if d && t then read_after most (n * 10 + (b - 48)) bs else None)
        ≡ (if (d && list_all is_digit bs) && nat_le (value_after (n * 10 + (b - 48)) bs) most then Some (value_after (n * 10 + (b - 48)) bs) else None)
    by true true e f more = more (leb-true (n * 10 + (b - 48)) most f)
    by true false e f more = by_all (list_all is_digit bs)
      where
        by_all : (a : Bool) → None ≡ (if a && nat_le (value_after (n * 10 + (b - 48)) bs) most then Some (value_after (n * 10 + (b - 48)) bs) else None)
        by_all false = refl
        by_all true = rw (too_large most (n * 10 + (b - 48)) bs f) refl
    by false t e f more = refl

-- a token that isn't empty is read from its first byte on
pub read_after-number_up_to : (most : ℕ) (token : List ℕ) → (length token == 0) ≡ false → read_after most 0 token ≡ number_up_to most token
unfolding number_up_to
read_after-number_up_to most token some = rw some (read_after-whole most 0 token (omega arith))
