-- Whether servers may serve.
use Rattle.std.specs.Prelude.{ℕ, Bool, true, false, not, ◌&&◌, List, [], ◌∷◌, ◌++◌, length, None, Result, Ok}
use Rattle.std.specs.List.{list_any}
use Rattle.std.specs.Str.{bytes_eq}
use Rattle.fk_scenario.specs.declared.fields.fail.ScenarioError.{ScenarioError}
use Rattle.fk_scenario.specs.Fields.Gives.{◌>>=◌, unless, placed}
use Rattle.fk_scenario.specs.declared.entries.types.ObjectEntry.{ObjectEntry}
use Rattle.fk_scenario.specs.declared.entries.types.ServerEntry.{ServerEntry}
use Rattle.fk_scenario.specs.declared.entries.types.ServiceSpec.{ServiceSpec}
use Rattle.fk_scenario.specs.declared.entries.types.ServiceSpec.TheVariants.{Console, Listed}
use Rattle.fk_scenario.specs.declared.entries.types.Spec.{Spec}
use Rattle.fk_scenario.specs.declared.entries.types.Spec.TheVariants.{Port}
use Rattle.fk_scenario.specs.Scenario.Aims.{object_with, is_one}

-- a port in no set
abbrev pub is_lone_port : Spec → Bool
is_lone_port (Port None) = true
is_lone_port _ = false

-- a text or a path is among some
abbrev pub has_key : List (List ℕ) → List ℕ → Bool
has_key keys key = list_any (λ k. bytes_eq k key) keys

-- the alias of a console, if it is one
abbrev pub alias_of : ServiceSpec → List (List ℕ)
alias_of (Console alias) = alias ∷ []
alias_of (Listed index rule config) = []

-- a server's alias, if it has one, is not among those of earlier servers
abbrev pub has_new_alias : List (List ℕ) → ServiceSpec → Bool
has_new_alias aliases (Console alias) = not (has_key aliases alias)
has_new_alias aliases (Listed index rule config) = true

-- a server's port is there, in no set, and served by no earlier server, and its alias is its own
abbrev pub may_serve : List ObjectEntry → List (List ℕ) → List (List ℕ) → ServerEntry → Bool
may_serve objects ports aliases server = is_one is_lone_port (object_with objects server.port) && not (has_key ports server.port) && has_new_alias
    aliases server.service

-- a server after some whose ports and aliases these are; one that may not serve is rule 9
abbrev pub serving_one : List ObjectEntry → List (List ℕ) → List (List ℕ) → ServerEntry → Result (Unit {0}) ScenarioError
serving_one objects ports aliases server = placed 5 (length ports) (unless 9 (may_serve objects ports aliases server))

-- servers after such
unfoldable pub serving_from : List ObjectEntry → List (List ℕ) → List (List ℕ) → List ServerEntry → Result (Unit {0}) ScenarioError
serving_from objects ports aliases [] = Ok tt
serving_from objects ports aliases (s ∷ ss) =
    serving_one objects ports aliases s >>= λ _. serving_from objects (ports ++ s.port ∷ []) (aliases ++ alias_of s.service) ss
