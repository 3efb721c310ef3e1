-- What a result tells.
use Rattle.std.proofs.Common.{Result, Ok, Err, IsOk, OnOk, OnErr}

-- a fact of what is well
pub of_ok : {T E : Type 0} (r : Result T E) (P : Type 0) → IsOk r → OnOk r P → P
of_ok (Ok x) P ok h = h
of_ok (Err e) P ok h = cc

-- a fact holds of each error
pub any_err : {T E : Type 0} (r : Result T E) (P : Type 0) → P → OnErr r P
any_err (Ok x) P h = tt
any_err (Err e) P h = h
