-- Operands: registers, numbers, and labels in a number's place.
use Rattle.std.specs.Prelude.{ℕ, ◌-◌, ◌%◌, ◌^◌, Bool, false, ◌==◌, ◌&&◌, nat_le, List, [], ◌∷◌, drop, Option, option_map, Result, Ok, Err, if◌then◌else◌}
use Rattle.std.specs.Str.Parse.{starts_with_minus}
use Rattle.fk_model.specs.Names.{is_name}
use Rattle.fk_model.specs.Numbers.{is_digit, number_up_to}
use Rattle.fk_asm.specs.declared.operands.Value as code
use Rattle.fk_asm.specs.declared.operands.Value.TheVariants as values
use Rattle.fk_asm.specs.declared.reason.Reason.{Reason}
use Rattle.fk_asm.specs.declared.reason.Reason.TheVariants as reasons
use Rattle.fk_asm.specs.Reasons.{◌>>=◌, or_reason}

-- r0 to r9, and r10 to r15
abbrev pub register_of : List ℕ → Result ℕ Reason
register_of (r ∷ d ∷ []) = if r == 114 && is_digit d then Ok (d - 48) else Err reasons.Register
register_of (r ∷ d ∷ e ∷ []) = if r == 114 && d == 49 && nat_le 48 e && nat_le e 53 then Ok (e - 38) else Err reasons.Register
register_of _ = Err reasons.Register

-- the number below 2^32 that is equal to minus this one, modulo 2^32
abbrev pub negated : ℕ → ℕ
negated number = (2 ^ 32 - number) % 2 ^ 32

-- digits, or a minus and digits: from -2147483648 to 4294967295, modulo 2^32
abbrev pub number_of : List ℕ → Option ℕ
number_of token =
    if starts_with_minus token then option_map negated (number_up_to 2147483648 (drop 1 token))
    else number_up_to 4294967295 token

-- one of a to z comes first
abbrev pub begins_with_letter : List ℕ → Bool
begins_with_letter [] = false
begins_with_letter (byte ∷ bytes) = nat_le 97 byte && nat_le byte 122

-- a label is a name that begins with a letter
abbrev pub is_label : List ℕ → Bool
is_label token = begins_with_letter token && is_name token

-- what stands in a number's place: a number, or a label
pub data Value : Type 0 where
  Number : ℕ → Value
  Label : List ℕ → Value

-- what a token stands for as an operand: a label, or a number
abbrev pub operand_of : List ℕ → Result Value Reason
operand_of token = if is_label token then Ok (Label token) else (or_reason reasons.Number (number_of token) >>= λ n. Ok (Number n))

-- what the code's value is
abbrev pub value_view : code.Value → Value
value_view (values.Number n) = Number n
value_view (values.Label name) = Label name.now
