-- LeadingLaws: a walk through those whose pointers lead to an object.
use Rattle.std.proofs.Common.{◌≡◌, ◌<◌, List, ◌∷◌, length, ap, arith}
use Rattle.fk_model.specs.declared.names.Who.{Who}

pub fewer_left : (who : Who) (whos more : List Who) → whos ≡ who ∷ more → length more < length whos
fewer_left who whos more is = let long : length whos ≡ length (who ∷ more) = ap length is in omega (arith, long)
