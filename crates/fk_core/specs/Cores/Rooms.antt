-- Room for what calls tell: whether a call was made.
use Rattle.std.specs.Prelude.{Bool, false, Result, Ok, Err}

abbrev pub is_made : {E : Type 0} → Result Bool E → Bool
is_made (Ok made) = made
is_made (Err lacking) = false
