-- BirthLaws: which object is the space with a birth number.
use Rattle.std.proofs.Common.{◌≡◌, ℕ, true, false, Option, Some, None, ap, ◌∙◌, eq-eqb, eqb-true, refl}
use Rattle.std.specs.FinMap.{FinMap, get}
use Rattle.fk_model.specs.declared.names.Who.{Who}
use Rattle.fk_model.specs.declared.body.Body.{Body}
use Rattle.fk_model.specs.Objects.{and_then}
use Rattle.fk_store_graph.specs.Leads.Births.{stored_birth, is_number, home_in, birth_in}
use Rattle.fk_store_graph.specs.Leads.Names.{who_cmp}
use Rattle.fk_store_graph.proofs.InLeads.Found.{found-passes, none-passes}

pub number_of : (n : ℕ) (o : Option ℕ) → is_number n o ≡ true → o ≡ Some n
number_of n None h = absurd (cc)
number_of n (Some b) h = ap Some (eqb-true b n h)

pub numbered : (n : ℕ) (o : Option ℕ) → o ≡ Some n → is_number n o ≡ true
numbered n o h = rw h (eq-eqb n n refl)

module _ (bodies : FinMap who_cmp Body) where
  pub births-found : (n : ℕ) (who : Who) → home_in bodies n ≡ Some who → birth_in bodies who ≡ Some n
  unfolding home_in
  births-found n who h =
      let found = found-passes bodies (λ b. is_number n (stored_birth b)) who h in
      ap (and_then stored_birth) found.1 ∙ number_of n (stored_birth found.0) found.2

  pub births-none : (n : ℕ) (who : Who) → home_in bodies n ≡ None → birth_in bodies who ≡ Some n → ⊥
  unfolding home_in
  births-none n who h there = by (get bodies who) refl there
    where
      by : (o : Option Body) → get bodies who ≡ o → and_then stored_birth o ≡ Some n → ⊥
      by None at number = absurd (cc)
      by (Some b) at number =
          let fails = none-passes bodies (λ b. is_number n (stored_birth b)) h who b at in
          let passes = numbered n (stored_birth b) number in
          absurd (cc)

pub not_number : (n : ℕ) (o : Option ℕ) → is_number n o ≡ false → o ≡ Some n → ⊥
not_number n o off is = let yes = numbered n o is in absurd (cc)
