-- A list that is filled, and one that is told both ways.
use Rattle.std.proofs.Common.{◌≡◌, ℕ, suc, ◌+◌, ◌-◌, ◌<◌, List, [], ◌∷◌, ◌++◌, length, length-append, replicate, reverse, sym, ap, ◌∙◌, arith}
use Rattle.std.proofs.lemmas.List.{append_assoc, reverse-reverse}

pub fill_more : {X : Type 0} (told : List X) (x : X) (count : ℕ) → length told < count →
    (told ++ x ∷ []) ++ replicate (count - length (told ++ x ∷ [])) x ≡ told ++ replicate (count - length told) x
fill_more told x count h =
    let a : length (told ++ x ∷ []) ≡ length told + 1 = length-append told (x ∷ []) in
    let e : count - length told ≡ suc (count - length (told ++ x ∷ [])) = omega (arith, h, a) in
    append_assoc told (x ∷ []) (replicate (count - length (told ++ x ∷ [])) x) ∙ ap (λ n. told ++ replicate n x) (sym e)

-- a place as the machine has it, told from the root down again
pub told_place : (path : List ℕ) → reverse (reverse path) ≡ path
told_place path = reverse-reverse path
