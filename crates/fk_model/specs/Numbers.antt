-- Numbers in decimal.
use Rattle.std.specs.Prelude.{ℕ, ◌+◌, ◌-◌, ◌*◌, Bool, false, not, ◌&&◌, ◌==◌, nat_le, List, ◌∷◌, length, fold, Option, Some, None, if◌then◌else◌}
use Rattle.std.specs.List.{list_all}

-- one of 0 to 9
abbrev pub is_digit : ℕ → Bool
is_digit byte = nat_le 48 byte && nat_le byte 57

-- the number that digits write
abbrev pub value_of : List ℕ → ℕ
value_of digits = fold (λ number digit. number * 10 + (digit - 48)) 0 digits

-- one digit or more and nothing else, leading zeros allowed, whose number is at most `most`
unfoldable pub number_up_to : ℕ → List ℕ → Option ℕ
number_up_to most token =
    if not (length token == 0) && list_all is_digit token && nat_le (value_of token) most
    then Some (value_of token)
    else None

-- the token has a first zero that could be left out
abbrev pub has_leading_zero : List ℕ → Bool
has_leading_zero (digit ∷ more ∷ digits) = digit == 48
has_leading_zero _ = false

-- as `number_up_to`, without leading zeros
abbrev pub plain_number_up_to : ℕ → List ℕ → Option ℕ
plain_number_up_to most token = if has_leading_zero token then None else number_up_to most token
