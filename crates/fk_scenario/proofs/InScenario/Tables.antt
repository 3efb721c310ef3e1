-- Each server that is read has a rule of the table, at the place that it keeps.
use Rattle.std.proofs.Common.{◌≡◌, ℕ, zero, suc, ◌+◌, Bool, true, false, List, [], ◌∷◌, ◌++◌, map, Option, Some, None, Result, Ok, refl, sym, ap, subst, codes, cond, arith}
use Rattle.std.proofs.lemmas.List.Elements.{All-nil, All-push}
use Rattle.std.specs.List.{All, slice_get}
use Rattle.std.specs.Str.{bytes_eq}
use Rattle.toml.specs.Data.{Data, Items, no_items, item, Members, as_table}
use Rattle.fk_model.specs.declared.moves.Rule.{Rule}
use Rattle.fk_model.specs.Names.{is_name}
use Rattle.fk_scenario.specs.declared.fields.fail.ScenarioError.{ScenarioError}
use Rattle.fk_scenario.specs.Fields.Gives.{or_rule, unless, placed}
use Rattle.fk_scenario.specs.Fields.Fields.{known, needed_text, integers_in, words_from}
use Rattle.fk_scenario.specs.Fields.Paths.{parse_path}
use Rattle.fk_scenario.proofs.InFields.Steps.{after, or_rule-Ok, placed-Ok}
use Rattle.fk_scenario.specs.declared.entries.types.ServerEntry.{ServerEntry}
use Rattle.fk_scenario.specs.declared.entries.types.ServiceSpec.{ServiceSpec}
use Rattle.fk_scenario.specs.declared.entries.types.ServiceSpec.TheVariants.{Console, Listed}
use Rattle.fk_scenario.specs.Entries.Servers.{rule_from, console_of, listed_of, service_of, server_of, server_in}
use Rattle.fk_scenario.specs.Sections.Programs.{programs_from}
use Rattle.fk_scenario.specs.Sections.Servers.{servers_from}
use Rattle.fk_scenario.specs.Sections.Jobs.{entries_from}
use Rattle.fk_scenario.specs.declared.scenario.reading.Round.{Round}
use Rattle.fk_scenario.specs.declared.scenario.scenario.Scenario.{Scenario}
use Rattle.fk_scenario.specs.Scenario.Aims.{aims_from}
use Rattle.fk_scenario.specs.Scenario.Servers.{serving_from}
use Rattle.fk_scenario.specs.Scenario.Jobs.{jobs_from}
use Rattle.fk_scenario.specs.Scenario.Kept.{rules_of, HasRule, HasRules}
use Rattle.fk_scenario.specs.Scenario.Reading.{Sections, top_of, places_of, first_round, second_round, scenario_of}

-- where a rule is found, from a place on
record IsFound (n : ℕ) (table : List (List ℕ × Rule)) (found : ℕ × Rule) : Type 0 where
  k : ℕ
  at : found.0 ≡ n + k
  there : slice_get (rules_of table) k ≡ Some found.1

later-found : (n : ℕ) (r : List ℕ × Rule) (rs : List (List ℕ × Rule)) (found : ℕ × Rule) → IsFound (n + 1) rs found → IsFound n (r ∷ rs) found
later-found n r rs found rest = record { k = suc rest.k; at = omega (arith, rest.at); there = rest.there }

is-found : (n : ℕ) (table : List (List ℕ × Rule)) (name : List ℕ) (found : ℕ × Rule) → rule_from n table name ≡ Some found → IsFound n table found
is-found n [] name found h = absurd (cc)
is-found n (r ∷ rs) name found h = by (bytes_eq r.0 name) h (λ rest. later-found n r rs found (is-found (n + 1) rs name found rest))
  where
    by : (b : Bool) → cond b (Some (n, r.1)) (rule_from (n + 1) rs name) ≡ Some found
        → (rule_from (n + 1) rs name ≡ Some found → IsFound n (r ∷ rs) found) → IsFound n (r ∷ rs) found
    by true h later =
        let same : (n, r.1) ≡ found = cc in
        subst (λ (f : ℕ × Rule). IsFound n (r ∷ rs) f) same (record { k = 0; at = omega arith; there = refl })
    by false h later = later h

first-found : (table : List (List ℕ × Rule)) (name : List ℕ) (found : ℕ × Rule) → rule_from 0 table name ≡ Some found
    → slice_get (rules_of table) found.0 ≡ Some found.1
first-found table name found h =
    let is = is-found 0 table name found h in
    let same : found.0 ≡ is.k = omega (arith, is.at) in
    rw same is.there

-- a service
console-has : (table : List (List ℕ × Rule)) (ms : Members) (service : ServiceSpec) → console_of ms ≡ Ok service → HasRule (rules_of table) service
unfolding console_of
console-has table ms service h =
    after (known (codes "port" ∷ codes "rule" ∷ codes "alias" ∷ []) ms) _ service h (λ _ _ h.
    after (needed_text (codes "alias") ms) _ service h (λ alias _ h.
    after (unless 4 (is_name alias)) _ service h (λ _ _ h.
    let same : Console alias ≡ service = cc in
    subst (HasRule (rules_of table)) same tt)))

listed-has : (table : List (List ℕ × Rule)) (name : List ℕ) (ms : Members) (service : ServiceSpec) → listed_of table name ms ≡ Ok service
    → HasRule (rules_of table) service
unfolding listed_of
listed-has table name ms service h =
    after (known (codes "port" ∷ codes "rule" ∷ codes "config" ∷ []) ms) _ service h (λ _ _ h.
    after (integers_in (codes "config") ms) _ service h (λ numbers _ h.
    after (words_from [] numbers) _ service h (λ config _ h.
    after (or_rule 4 (rule_from 0 table name)) _ service h (λ found is_found h.
    let same : Listed found.0 found.1 config ≡ service = cc in
    subst (HasRule (rules_of table)) same (first-found table name found (or_rule-Ok 4 _ found is_found))))))

service-has : (table : List (List ℕ × Rule)) (name : List ℕ) (ms : Members) (service : ServiceSpec) → service_of table name ms ≡ Ok service
    → HasRule (rules_of table) service
service-has table name ms service h = by (bytes_eq name (codes "console")) h
  where
    by : (b : Bool) → cond b (console_of ms) (listed_of table name ms) ≡ Ok service → HasRule (rules_of table) service
    by true h = console-has table ms service h
    by false h = listed-has table name ms service h

server-has : (table : List (List ℕ × Rule)) (value : Data) (server : ServerEntry) → server_in table value ≡ Ok server → HasRule (rules_of table) server.service
unfolding server_in server_of
server-has table value server h =
    after (or_rule 2 (as_table value)) _ server h (λ ms _ h.
    after (needed_text (codes "port") ms) _ server h (λ port _ h.
    after (needed_text (codes "rule") ms) _ server h (λ rule _ h.
    after (service_of table rule ms) _ server h (λ service is_service h.
    after (parse_path port) _ server h (λ path _ h.
    let same : record { port = path; service = service } ≡ server = cc in
    subst (λ (s : ServerEntry). HasRule (rules_of table) s.service) same (service-has table rule ms service is_service))))))

-- all servers of a document
abbrev Has : List (List ℕ × Rule) → List ServerEntry → Type 0
Has table servers = All (λ e. HasRule (rules_of table) e.service) servers

servers-have : (table : List (List ℕ × Rule)) (done : List ServerEntry) (items : Items) (all : List ServerEntry) → servers_from table done items ≡ Ok all
    → Has table done → Has table all
unfolding servers_from
servers-have table done no_items all h has = let same : done ≡ all = cc in subst (Has table) same has
servers-have table done (item value rest) all h has =
    after (placed 5 _ (server_in table value)) _ all h (λ server is_server h.
    servers-have table (done ++ server ∷ []) rest all h (All-push (λ e. HasRule (rules_of table) e.service) done server has
    (server-has table value server (placed-Ok 5 _ _ server is_server))))

round-has : (table : List (List ℕ × Rule)) (sections : Sections) (round : Round) → first_round table sections ≡ Ok round → Has table round.servers
unfolding first_round
round-has table sections round h =
    after (places_of sections) _ round h (λ places _ h.
    after (servers_from table [] sections.servers) _ round h (λ servers are_servers h.
    after (entries_from [] sections.jobs) _ round h (λ jobs _ h.
    let same : servers ≡ round.servers = cc in
    subst (Has table) same (servers-have table [] sections.servers servers are_servers (All-nil (λ e. HasRule (rules_of table) e.service))))))

second-has : (budget workers : ℕ) (round : Round) (s : Scenario) → second_round budget workers round ≡ Ok s → round.servers ≡ s.servers
unfolding second_round
second-has budget workers round s h =
    after (aims_from round.spaces round.objects 0 round.objects) _ s h (λ _ _ h.
    after (serving_from round.objects [] [] round.servers) _ s h (λ _ _ h.
    after (jobs_from round.spaces round.servers [] round.jobs) _ s h (λ jobs _ h. cc)))

pub scenario-has : (table : List (List ℕ × Rule)) (ms : Members) (s : Scenario) → scenario_of table ms ≡ Ok s → HasRules (rules_of table) s
unfolding scenario_of
scenario-has table ms s h =
    after (placed 1 0 (top_of ms)) _ s h (λ top _ h.
    after (first_round table top.sections) _ s h (λ round is_round h.
    subst (Has table) (second-has top.budget top.workers round s h) (round-has table top.sections round is_round)))
