-- Births: which object is the space with a birth number.
use Rattle.std.specs.Prelude.{ℕ, Bool, false, ◌==◌, find, Option, Some, None, option_map}
use Rattle.std.specs.FinMap.{FinMap, get, entries}
use Rattle.fk_model.specs.declared.names.Who.{Who}
use Rattle.fk_model.specs.declared.body.Body.{Body}
use Rattle.fk_model.specs.declared.body.Body.TheVariants.{Space}
use Rattle.fk_model.specs.Objects.{and_then}
use Rattle.fk_store_graph.specs.Leads.Names.{who_cmp}

-- the birth number of a space
abbrev pub stored_birth : Body → Option ℕ
stored_birth (Space birth holder) = Some birth
stored_birth other = None

-- a birth number is there, and it is this
abbrev pub is_number : ℕ → Option ℕ → Bool
is_number n None = false
is_number n (Some b) = b == n

-- where the space with a birth number stands; nowhere that of the root, and of a space that isn't live
unfoldable pub home_in : FinMap who_cmp Body → ℕ → Option Who
home_in bodies n = option_map (λ e. e.0) (find (λ e. is_number n (stored_birth e.1)) (entries bodies))

-- the birth number of the space that stands there
abbrev pub birth_in : FinMap who_cmp Body → Who → Option ℕ
birth_in bodies who = and_then stored_birth (get bodies who)
