-- Lines that may be refused, and the numbers of the reasons.
use Rattle.std.specs.Prelude.{◌≡◌, ℕ, Bool, Option, Some, None, Result, Ok, Err, if◌then◌else◌}
use Rattle.fk_asm.specs.declared.reason.Reason.{Reason}
use Rattle.fk_asm.specs.declared.reason.Reason.TheVariants.{Form, Number, Register, Defined, Undefined, Length}
use Rattle.fk_asm.specs.declared.fail.AsmError.{AsmError}

-- a step that is refused ends the whole with its refusal
infixl 10 ◌>>=◌
abbrev pub ◌>>=◌ : {A B E : Type 0} → Result A E → (A → Result B E) → Result B E
(Ok x) >>= rest = rest x
(Err e) >>= rest = Err e

-- a value, or else the reason
abbrev pub or_reason : {A : Type 0} → Reason → Option A → Result A Reason
or_reason reason None = Err reason
or_reason reason (Some x) = Ok x

-- the reason unless a test holds
abbrev pub needs : Reason → Bool → Result (Unit {0}) Reason
needs reason holds = if holds then Ok tt else Err reason

-- a reason's number
abbrev pub reason_number : Reason → ℕ
reason_number Form = 1
reason_number Number = 2
reason_number Register = 3
reason_number Defined = 4
reason_number Undefined = 5
reason_number Length = 6

-- a refusal, with the number of its line
abbrev pub in_line : {A : Type 0} → ℕ → Result A Reason → Result A AsmError
in_line line (Ok x) = Ok x
in_line line (Err reason) = Err (record { line = line; reason = reason_number reason })

-- what a function gives is what is read, seen by `view`
abbrev pub GivesOrReason : {X Y : Type 0} → (X → Y) → Result X Reason → Result Y Reason → Type 0
GivesOrReason view (Ok x) read = read ≡ Ok (view x)
GivesOrReason view (Err reason) read = read ≡ Err reason
