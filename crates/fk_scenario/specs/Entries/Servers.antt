-- Servers, each by itself.
use Rattle.std.specs.Prelude.{ℕ, ◌+◌, List, [], ◌∷◌, Option, Some, None, Result, Ok, if◌then◌else◌, codes}
use Rattle.std.specs.Str.{bytes_eq}
use Rattle.toml.specs.Data.{Data, Members, as_table}
use Rattle.fk_model.specs.Names.{is_name}
use Rattle.fk_model.specs.declared.moves.Rule.{Rule}
use Rattle.fk_scenario.specs.Fields.Gives.{◌>>=◌, or_rule, unless}
use Rattle.fk_scenario.specs.Fields.Fields.{known, needed_text, integers_in, words_from}
use Rattle.fk_scenario.specs.Fields.Paths.{parse_path}
use Rattle.fk_scenario.specs.declared.entries.types.ServerEntry.{ServerEntry}
use Rattle.fk_scenario.specs.declared.entries.types.ServiceSpec.{ServiceSpec}
use Rattle.fk_scenario.specs.declared.entries.types.ServiceSpec.TheVariants.{Console, Listed}
pub use Rattle.fk_model.specs.Rules.{rules_view}

-- the first rule with a name, and its index, where the first of these has index `n`
abbrev pub rule_from : ℕ → List (List ℕ × Rule) → List ℕ → Option (ℕ × Rule)
rule_from n [] name = None
rule_from n (r ∷ rs) name = if bytes_eq r.0 name then Some (n, r.1) else rule_from (n + 1) rs name

-- a console has an alias and no configuration
unfoldable pub console_of : Members → Result ServiceSpec ℕ
console_of ms = do
  _ ← known (codes "port" ∷ codes "rule" ∷ codes "alias" ∷ []) ms
  alias ← needed_text (codes "alias") ms
  _ ← unless 4 (is_name alias)
  Ok (Console alias)

-- any other server has a configuration and no alias; its rule is one of the table, else rule 4
unfoldable pub listed_of : List (List ℕ × Rule) → List ℕ → Members → Result ServiceSpec ℕ
listed_of rules name ms = do
  _ ← known (codes "port" ∷ codes "rule" ∷ codes "config" ∷ []) ms
  config ← integers_in (codes "config") ms
  config ← words_from [] config
  found ← or_rule 4 (rule_from 0 rules name)
  Ok (Listed found.0 found.1 config)

-- `console` is the console, whatever the table has
abbrev pub service_of : List (List ℕ × Rule) → List ℕ → Members → Result ServiceSpec ℕ
service_of rules name ms = if bytes_eq name (codes "console") then console_of ms else listed_of rules name ms

-- a server: the service first, since its keys, types and ranges come before the form of the port's path
unfoldable pub server_of : List (List ℕ × Rule) → Members → Result ServerEntry ℕ
server_of rules ms = do
  port ← needed_text (codes "port") ms
  rule ← needed_text (codes "rule") ms
  service ← service_of rules rule ms
  port ← parse_path port
  Ok (record { port = port; service = service })

-- the server of an entry; one that is no table is rule 2
unfoldable pub server_in : List (List ℕ × Rule) → Data → Result ServerEntry ℕ
server_in rules value = or_rule 2 (as_table value) >>= server_of rules
