-- What a result tells.
use Rattle.std.proofs.Common.{Result, Ok, Err, OnOk, OnErr}

-- one fact follows from another on one side
pub on_ok : {T E : Type 0} (r : Result T E) (P Q : Type 0) → (P → Q) → OnOk r P → OnOk r Q
on_ok (Ok x) P Q f h = f h
on_ok (Err e) P Q f h = h

pub on_err : {T E : Type 0} (r : Result T E) (P Q : Type 0) → (P → Q) → OnErr r P → OnErr r Q
on_err (Ok x) P Q f h = h
on_err (Err e) P Q f h = f h

-- a fact follows from both sides
pub on_both : {T E : Type 0} (r : Result T E) (P Q R : Type 0) → (P → R) → (Q → R) → OnOk r P → OnErr r Q → R
on_both (Ok x) P Q R f g h k = f h
on_both (Err e) P Q R f g h k = g k
