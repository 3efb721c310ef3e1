-- The home of a space, and what its look-up tells.
use Rattle.std.proofs.Common.{◌≡◌, ℕ, true, Option, Some, None, refl, ap, ◌∙◌, eqb-true, eq-eqb}
use Rattle.std.specs.FinMap.{get}
use Rattle.fk_model.specs.declared.names.Who.{Who}
use Rattle.fk_model.specs.declared.body.Body.{Body}
use Rattle.fk_model.specs.Objects.{and_then}
use Rattle.fk_store.proofs.InFreezing.Found.{found-passes, none-passes}
use Rattle.fk_store.specs.Store.Contents.{Contents, stored_birth, birth_there, is_number, home_in, home}

pub number_is : (n : ℕ) (o : Option ℕ) → is_number n o ≡ true → o ≡ Some n
number_is n None h = absurd (cc)
number_is n (Some b) h = ap Some (eqb-true b n h)

pub is_the_number : (n : ℕ) (o : Option ℕ) → o ≡ Some n → is_number n o ≡ true
is_the_number n o h = rw h (eq-eqb n n refl)

-- a home holds the space
pub home-found : (m : Contents) (n : ℕ) (who : Who) → home m n ≡ Some who → birth_there m who ≡ Some n
unfolding home_in
home-found m n who h =
    let found = found-passes m.bodies (λ b. is_number n (stored_birth b)) who h in
    ap (and_then stored_birth) found.1 ∙ number_is n (stored_birth found.0) found.2

-- where there is no home, no space has the number
pub home-none : (m : Contents) (n : ℕ) (who : Who) → home m n ≡ None → birth_there m who ≡ Some n → ⊥
unfolding home_in
home-none m n who h there = by (get m.bodies who) refl there
  where
    by : (o : Option Body) → get m.bodies who ≡ o → and_then stored_birth o ≡ Some n → ⊥
    by None at number = absurd (cc)
    by (Some b) at number =
        let fails = none-passes m.bodies (λ b. is_number n (stored_birth b)) h who b at in
        let passes = is_the_number n (stored_birth b) number in
        absurd (cc)
