-- Fields from left to right: a value and the bytes behind it, or the fault of the first bad field.
use Rattle.std.specs.Prelude.{ℕ, zero, suc, Bool, List, [], ◌∷◌, ◌++◌, length, take, drop, Result, Ok, Err, nat_lt, if◌then◌else◌}
use Rattle.std.specs.Int.{Width, byte_len, from_le_bytes}
use Rattle.fk_image.specs.declared.format.reasons.reason.TheConstants as reasons
use Rattle.fk_image.specs.declared.format.stop.Stop.{Stop}

infixl 10 ◌>>=◌
abbrev pub ◌>>=◌ : {A B E : Type 0} → Result A E → (A → Result B E) → Result B E
(Ok x) >>= f = f x
(Err e) >>= f = Err e

-- the fault of the field at the front of these bytes
abbrev pub refuse_field : {A : Type 0} → List ℕ → ℕ → Result A Stop
refuse_field bytes reason = Err (record { left = length bytes; reason = reason })

abbrev pub expect : Bool → List ℕ → ℕ → Result (Unit {0}) Stop
expect good bytes reason = if good then Ok tt else refuse_field bytes reason

-- a byte, and what is left
abbrev pub read_byte : List ℕ → Result (ℕ × List ℕ) Stop
read_byte [] = refuse_field [] reasons.CUT
read_byte (b ∷ rest) = Ok (b, rest)

-- a number of so many bytes, the lowest first, and what is left
abbrev pub read_number : Width → List ℕ → Result (ℕ × List ℕ) Stop
read_number w bytes = if nat_lt (length bytes) (byte_len w) then refuse_field bytes reasons.CUT else Ok
    (from_le_bytes w (take (byte_len w) bytes), drop (byte_len w) bytes)

-- a byte below a limit
unfoldable pub read_below : ℕ → List ℕ → Result (ℕ × List ℕ) Stop
read_below limit bytes = do
  b ← read_byte bytes
  if nat_lt b.0 limit then Ok b else refuse_field bytes reasons.RANGE

-- n items, each read in the light of what those before it left
unfoldable pub read_many : {S X : Type 0} → (S → List ℕ → Result (X × List ℕ) Stop) → (S → X → S) → ℕ → S → List X → List ℕ → Result (List X × List ℕ) Stop
read_many item next zero s done bytes = Ok (done, bytes)
read_many item next (suc n) s done bytes = item s bytes >>= λ x. read_many item next n (next s x.0) (done ++ x.0 ∷ []) x.1
