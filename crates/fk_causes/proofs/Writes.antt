-- Writes, one after another.
use Rattle.std.proofs.Common.{take_all, ℕ, ◌+◌, ◌-◌, ◌≤◌, length, length-drop, arith, List, ◌++◌, take, drop, Option, Some, None, append_assoc}
use Rattle.std.proofs.Math.Seq.{take-add}
use Rattle.std.specs.Io.KnownBytes.{Appends}

-- what one write appends and what the next one does
pub Appends-append : (a b c : Option (List ℕ)) (xs ys : List ℕ) → Appends a b xs → Appends b c ys → Appends a c (xs ++ ys)
Appends-append None b c xs ys first then = first
Appends-append (Some l) None c xs ys first then = absurd first
Appends-append (Some l) (Some m) None xs ys first then = absurd then
Appends-append (Some l) (Some m) (Some n) xs ys first then = rw (then, first) (append_assoc l xs ys)

-- a text up to a place, and then some of the rest
pub Appends-take-add : (a b c : Option (List ℕ)) (text : List ℕ) (done count : ℕ) →
    Appends a b (take done text) → Appends b c (take count (take (length text - done) (drop done text))) → Appends a c (take (done + count) text)
Appends-take-add a b c text done count first then =
    let short : length (drop done text) ≤ length text - done = simp length-drop (omega arith) in
    rw (take-add done count text) (Appends-append a b c _ _ first (rw (take_all (length text - done) (drop done text) short) at then))
