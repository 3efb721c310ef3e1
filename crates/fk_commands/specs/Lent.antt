-- What becomes of a reader to whom something is lent.
use Rattle.std.specs.Prelude.{◌≡◌, ◌⊎◌, Result, Ok}
use Rattle.fk_commands.specs.declared.status.Status.{Status}

-- one call was made of it: it looked at what was read, or it heard why nothing was
abbrev pub IsLent : {T E : Type 0} → (Looked : T → Type 0) → (Heard : Status → Type 0) → (IsFail : Result T E → Status → Type 0) → Result T E → Type 0
IsLent {T} Looked Heard IsFail reading =
    ((value : T) × (reading ≡ Ok value) × Looked value) ⊎ ((status : Status) × IsFail reading status × Heard status)
