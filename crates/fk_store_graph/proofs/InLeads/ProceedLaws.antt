-- ProceedLaws: what is there is one thing.
use Rattle.std.proofs.Common.{◌≡◌, Option, Some, None, refl}

pub some-alike : {A : Type 0} (o : Option A) (a b : A) → o ≡ Some a → o ≡ Some b → a ≡ b
some-alike o a b is other = cc

pub none-of : {A : Type 0} (o : Option A) → ((a : A) → o ≡ Some a → ⊥) → o ≡ None
none-of None off = refl
none-of (Some a) off = absurd (off a refl)

pub none-alike : {A : Type 0} (o : Option A) (a : A) → o ≡ Some a → o ≡ None → ⊥
none-alike o a is none = absurd (cc)
