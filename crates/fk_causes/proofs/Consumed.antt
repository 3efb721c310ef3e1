-- What was consumed of a source.
use Rattle.std.proofs.Common.{◌<◌, ℕ, List, Option, Some, None, length, length-append, refl, ap, ◌∙◌, arith}
use Rattle.std.specs.Io.KnownBytes.{Consumes}
use Rattle.fk_causes.specs.Causes.{MayHold}

-- a source held what it has given and what it has left
pub held-more : (n : ℕ) (old new : Option (List ℕ)) (text : List ℕ) →
    Consumes old new text → n < length text → (bytes : List ℕ) × MayHold old bytes × (n < length bytes)
held-more n None new text consumed long = (text, tt, long)
held-more n (Some xs) None text consumed long = absurd consumed
held-more n (Some xs) (Some ys) text consumed long = (xs, refl, omega (arith, long, ap length consumed ∙ length-append text ys))
