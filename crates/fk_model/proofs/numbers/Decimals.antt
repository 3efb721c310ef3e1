-- A number is read back from its decimal, and a token is read without leading zeros only where it is a decimal.
use Rattle.std.proofs.Common.{◌≡◌, ℕ, ◌^◌, ◌<◌, ◌≤◌, zero, suc, Bool, true, false, not, ◌&&◌, ◌==◌, nat_le, List, [], ◌∷◌, length, get_or, Some, None}
use Rattle.std.proofs.Common.{if◌then◌else◌, decimal, le-leb, refl, sym, ap, ◌∙◌, rules, arith}
use Rattle.std.proofs.lemmas.Bool.{and_parts, leb-true, eqb-true}
use Rattle.std.proofs.lemmas.Str.Parse.{IsNumeralModel, numerals_by_fold}
use Rattle.std.proofs.lemmas.Fmt.{digits_decimal, digits_value-decimal, decimal-digits_value, decimal_nonempty, first_decimal, decimal_digit}
use Rattle.std.proofs.lemmas.Option.{same_Some}
use Rattle.std.specs.List.{list_all, AllByRecursion}
use Rattle.fk_model.specs.Numbers.{is_digit, value_of, number_up_to, has_leading_zero, plain_number_up_to}
use Rattle.fk_model.proofs.numbers.Digits.{value_after}

own : IsNumeralModel (λ ds. list_all is_digit ds ≡ true) value_of
own = numerals_by_fold _ (search rules) value_after (search rules)

-- a token that is read is one digit or more, and what is read is their value
record IsRead (most n : ℕ) (token : List ℕ) : Type 0 where
  some : (length token == 0) ≡ false
  digits : list_all is_digit token ≡ true
  value : n ≡ value_of token
  fits : n ≤ most

number_is : (most n : ℕ) (token : List ℕ) → number_up_to most token ≡ Some n → IsRead most n token
unfolding number_up_to
number_is most n token h = by (length token == 0) (list_all is_digit token) (nat_le (value_of token) most) refl refl refl h
  where
    by : (s d t : Bool) → (length token == 0) ≡ s →
        list_all is_digit token ≡ d → nat_le (value_of token) most ≡ t → (if not s && d && t then Some (value_of token) else None) ≡ Some n
        → IsRead most n token
    by false true true s d t e =
        let same : value_of token ≡ n = same_Some _ _ e in
        let fits : value_of token ≤ most = leb-true (value_of token) most t in
        record { some = s; digits = d; value = sym same; fits = omega arith }
    by false true false s d t e = absurd (cc)
    by false false t s d u e = absurd (cc)
    by true d t s e u f = absurd (cc)

-- digits of at most `most` are read
number_back : (most : ℕ) (token : List ℕ) →
    (length token == 0) ≡ false → list_all is_digit token ≡ true → value_of token ≤ most → number_up_to most token ≡ Some (value_of token)
unfolding number_up_to
number_back most token some digits fits = rw (some, digits, le-leb (value_of token) most fits) refl

-- where no zero could be left out, a first zero is the only digit
leads : (token : List ℕ) → has_leading_zero token ≡ false → (length token == 0) ≡ false → get_or token 0 0 ≡ 48 → length token ≡ 1
leads [] h some e = absurd (cc)
leads (b ∷ []) h some e = refl
leads (b ∷ c ∷ bs) h some e = absurd (cc)

no_lead_of : (token : List ℕ) → (get_or token 0 0 ≡ 48 → length token ≡ 1) → has_leading_zero token ≡ false
no_lead_of [] h = refl
no_lead_of (b ∷ []) h = refl
no_lead_of (b ∷ c ∷ bs) h = by (b == 48) refl
  where
    by : (t : Bool) → (b == 48) ≡ t → t ≡ false
    by true e = absurd (omega (arith, h (eqb-true b 48 e)))
    by false e = refl

decimal_lead : (n : ℕ) → n < 2 ^ 64 → get_or (decimal n) 0 0 ≡ 48 → length (decimal n) ≡ 1
decimal_lead zero h e = ap length (decimal_digit zero (omega arith))
decimal_lead (suc n) h e = absurd (omega (arith, first_decimal (suc n) (omega arith) h))

-- the decimal of a number of at most `most` is read as that number
pub plain_number_up_to-decimal : (most n : ℕ) → n ≤ most → most < 2 ^ 64 → plain_number_up_to most (decimal n) ≡ Some n
plain_number_up_to-decimal most n h m =
    let small : n < 2 ^ 64 = omega arith in
    let value : value_of (decimal n) ≡ n = digits_value-decimal own n small in
    let some : (length (decimal n) == 0) ≡ false = grind (arith, decimal_nonempty n small) in
    rw (no_lead_of (decimal n) (decimal_lead n small)) (number_back most (decimal n) some (digits_decimal own n small) (omega arith) ∙ ap (λ x. Some x) value)

-- a token that is read without leading zeros is the decimal of what is read
pub plain_number_up_to-only : (most n : ℕ) (token : List ℕ) → most < 2 ^ 64 → plain_number_up_to most token ≡ Some n → token ≡ decimal n
plain_number_up_to-only most n token m h = by (has_leading_zero token) refl h
  where
    by : (t : Bool) → has_leading_zero token ≡ t → (if t then None else number_up_to most token) ≡ Some n → token ≡ decimal n
    by true e h = absurd (cc)
    by false e h =
        let read = number_is most n token h in
        let long : 0 < length token = grind (arith, read.some) in
        rw read.value (sym (decimal-digits_value own token read.digits long (leads token e read.some) (omega (arith, read.value, read.fits))))

-- a number that is read is at most `most`
pub plain_number_up_to-le : (most n : ℕ) (token : List ℕ) → plain_number_up_to most token ≡ Some n → n ≤ most
plain_number_up_to-le most n token h = by (has_leading_zero token) h
  where
    by : (t : Bool) → (if t then None else number_up_to most token) ≡ Some n → n ≤ most
    by true h = absurd (cc)
    by false h = (number_is most n token h).fits

digits_avoid : (p : ℕ → Bool) → ((b : ℕ) → 48 ≤ b → b ≤ 57 → p b ≡ false) → (bs : List ℕ) → list_all is_digit bs ≡ true → AllByRecursion (λ b. p b ≡ false) bs
digits_avoid p avoids [] d = tt
digits_avoid p avoids (b ∷ bs) d =
    let (here, more) = and_parts (is_digit b) (list_all is_digit bs) d in
    let (low, high) = and_parts (nat_le 48 b) (nat_le b 57) here in
    (avoids b (leb-true 48 b low) (leb-true b 57 high), digits_avoid p avoids bs more)

-- a decimal has digits alone
pub decimal_avoids : (p : ℕ → Bool) → ((b : ℕ) → 48 ≤ b → b ≤ 57 → p b ≡ false) → (n : ℕ) → n < 2 ^ 64 → AllByRecursion (λ b. p b ≡ false) (decimal n)
decimal_avoids p avoids n small = digits_avoid p avoids (decimal n) (digits_decimal own n small)
