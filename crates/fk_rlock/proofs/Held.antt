-- What a pass has is what its option has.
use Rattle.std.proofs.Common.{◌≡◌, ap, refl, Option, Some, None, is_some, IsTrue}
use Rattle.std.proofs.lemmas.Bool.{false≢true}
use Rattle.fk_rlock.specs.Known.{held}

pub inside : {A : Type 0} (a b : A) → Some a ≡ Some b → a ≡ b
inside a b e = ap (λ o. get_some a o) e
  where
    get_some : {A : Type 0} → A → Option A → A
    get_some d None = d
    get_some d (Some x) = x

pub held_is : {B : Type 0} (o : Option B) (there : IsTrue (is_some o)) (b : B) → o ≡ Some b → held o there ≡ b
held_is None there b e = absurd (false≢true there)
held_is (Some c) there b e = inside c b e

pub is_held : {B : Type 0} (o : Option B) (there : IsTrue (is_some o)) → o ≡ Some (held o there)
is_held None there = absurd (false≢true there)
is_held (Some c) there = refl
