-- Contents: what a store holds, by names.
use Rattle.std.specs.Prelude.{ℕ, Bool, ◌||◌, ◌==◌, List, Option, is_some, refl}
use Rattle.std.specs.FinMap.{FinMap, code, get}
use Rattle.std.specs.Coded.{Coded, code_by, coded×, coded_ℕ, coded_list}
use Rattle.fk_model.specs.declared.names.Who.{Who}
use Rattle.fk_model.specs.declared.body.Body.{Body}
use Rattle.fk_model.specs.contracts.body.Body as body
use Rattle.fk_model.specs.Objects.{and_then}
use Rattle.fk_store.specs.Store.Names.{who_cmp, page_cmp, coded_who}
pub use Rattle.fk_store.specs.Freezing.Births.{stored_birth, is_number}
unfoldable pub use Rattle.fk_store.specs.Freezing.Births.{home_in}

-- the bodies of all objects, the words of all pages, and the next birth number
pub record Contents : Type 0 where
  pub bodies : FinMap who_cmp Body
  pub pages : FinMap page_cmp (List ℕ)
  pub next : ℕ

abbrev pub coded_contents : Coded Contents
coded_contents = code_by (FinMap who_cmp Body × (FinMap page_cmp (List ℕ) × ℕ))
    (coded× (code coded_who body.the_row.coded) (coded× (code (coded× coded_ℕ coded_ℕ) (coded_list coded_ℕ)) coded_ℕ))
    (λ m. (m.bodies, (m.pages, m.next))) (λ p. record { bodies = p.0; pages = p.1.0; next = p.1.1 }) (λ _. refl)

-- the birth number of the space that stands there
abbrev pub birth_there : Contents → Who → Option ℕ
birth_there m who = and_then stored_birth (get m.bodies who)

abbrev pub home : Contents → ℕ → Option Who
home m n = home_in m.bodies n

-- the root is live, and each space that stands somewhere
abbrev pub is_live : Contents → ℕ → Bool
is_live m n = n == 0 || is_some (home m n)
