-- Entries: programs, spaces, servers and jobs are read by what they are asked.
use Rattle.std.proofs.Common.{◌≡◌, ℕ, ℤ, Bool, true, false, not, ◌&&◌, ◌||◌, nat_lt, List, [], ◌∷◌, ◌++◌, length, map, Option, Some, None, is_some}
use Rattle.std.proofs.Common.{option_and_then, unwrap_or, Result, Ok, Err, if◌then◌else◌, codes, refl, sym, ap, ◌∙◌}
use Rattle.std.proofs.lemmas.List.{append_assoc}
use Rattle.std.specs.List.{list_all}
use Rattle.std.specs.Str.{bytes_eq}
use Rattle.std.specs.Result.{result_ok}
use Rattle.toml.specs.Data.{Data, Items, no_items, item, Members, no_members, member, get_member, as_str, as_array, as_table}
use Rattle.fk_model.specs.Names.{is_name}
use Rattle.fk_model.specs.declared.moves.Rule.{Rule}
use Rattle.fk_model.specs.declared.moves.Rule.TheVariants.{Echo}
use Rattle.fk_asm.specs.Assembler.{assembled}
use Rattle.fk_scenario.specs.Fields.Gives.{◌>>=◌, or_rule, unless, placed}
use Rattle.fk_scenario.specs.Fields.Fields.{typed, array_in, integers_from, ranged}
use Rattle.fk_scenario.specs.declared.entries.types.Program.{Program}
use Rattle.fk_scenario.specs.declared.entries.types.SpaceEntry.{SpaceEntry}
use Rattle.fk_scenario.specs.declared.entries.types.ServerEntry.{ServerEntry}
use Rattle.fk_scenario.specs.declared.entries.types.ServiceSpec.TheVariants.{Console}
use Rattle.fk_scenario.specs.declared.entries.jobs.JobEntry.{JobEntry}
use Rattle.fk_scenario.specs.declared.entries.jobs.JobKind.TheVariants.{Checkpoint, Restore}
use Rattle.fk_scenario.specs.Entries.Programs.{program_of}
use Rattle.fk_scenario.specs.Entries.Servers as readers
use Rattle.fk_scenario.specs.Entries.Servers.{console_of, listed_of, rule_from, server_in}
use Rattle.fk_scenario.specs.Entries.Jobs as job_readers
use Rattle.fk_scenario.specs.Entries.Jobs.{lists_from, lists_of, is_restore, pairs_in, bind_in, job_fields, JobFields, pair_of, pairs_from, is_bound}
use Rattle.fk_scenario.specs.Entries.Jobs.{distinct_from, numbers_of, job_kind, job_in}
use Rattle.fk_scenario.specs.Sections.Programs.{programs_from, index_of, position_of}
use Rattle.fk_scenario.specs.Sections.Spaces.{space_fields, space_after, space_in, spaces_from}
use Rattle.fk_scenario.specs.Sections.Servers.{servers_from}
use Rattle.fk_scenario.specs.Sections.Jobs.{entries_from}
use Rattle.laws_scenario_faults.specs.Tables.{table_of, each, is_so_if, is_table, is_integer, is_array_of, items, may_have, members, entries, text_at, has}
use Rattle.laws_scenario_faults.specs.Tables.{is_text, is_in, is_in_if, number, number_or, is_path, integers, integers_at, integer}
use Rattle.laws_scenario_faults.specs.Entries as asked
use Rattle.laws_scenario_faults.specs.Entries.{program_asks, program_says, programs, is_program_if, keys_of_space_ask, space_asks, space_of, space_says, spaces}
use Rattle.laws_scenario_faults.specs.Entries.{console_asks, listed_asks, is_console, service_asks, listed, service_of, keys_of_server_ask, server_asks}
use Rattle.laws_scenario_faults.specs.Entries.{server_of, server_says, servers, list_of, bound, bind_asks, is_pair, pair, pairs, are_distinct, is_kind}
use Rattle.laws_scenario_faults.specs.Entries.{binds_well, other_keys_ask, job_asks, job_of, job_says, jobs}
use Rattle.laws_scenario_faults.proofs.Rules.{by_rules, ends, tested, seq, ask, choose, read}
use Rattle.laws_scenario_faults.proofs.Fields.{or-read, list-step, list-end, known-read, text-read, flag-read, integer-read, needed-text-read}
use Rattle.laws_scenario_faults.proofs.Fields.{needed-integer-read, integers-from, integers-read, ranged-read, ranged-or-read, bytes-read, words-read}
use Rattle.laws_scenario_faults.proofs.Fields.{path-read}

-- ---- steps

pub step : {A B E : Type 0} (r q : Result A E) (f g : A → Result B E) → r ≡ q → ((x : A) → f x ≡ g x) → (r >>= f) ≡ (q >>= g)
step (Ok x) q f g is same = rw (sym is) (same x)
step (Err e) q f g is same = rw (sym is) refl

-- an entry is a table, and keeps what that is asked
pub table-entry : {X : Type 0} (value : Data) (f : Members → Result X ℕ) (asks : Members → List (ℕ × Bool)) (says : Members → X) →
    ((ms : Members) → f ms ≡ by_rules (asks ms) (says ms)) →
    (or_rule 2 (as_table value) >>= f) ≡ by_rules ((2, is_table value) ∷ asks (table_of value)) (says (table_of value))
unfolding by_rules
table-entry value f asks says same = by (as_table value)
  where
    by : (o : Option Members) →
        (or_rule 2 o >>= f) ≡ by_rules ((2, is_some o) ∷ asks (unwrap_or o no_members)) (says (unwrap_or o no_members))
    by None = refl
    by (Some ms) = same ms

-- ---- programs

program-read : (done : List Program) (name : List ℕ) (value : Data) →
    program_of name value ≡ by_rules (program_asks done (name, value)) (program_says done (name, value))
unfolding program_of program_asks program_says
program-read done name value =
    ask _ _ _ _ _ (or-read 2 (as_str value) []) (ask _ _ _ _ _ (tested _ _)
    (ask _ _ _ _ _ (or-read 8 (result_ok (assembled (unwrap_or (as_str value) []))) []) ends))

pub programs-read : (done : List Program) (ms : Members) → programs_from done ms ≡ read 2 programs done (members ms)
unfolding programs_from read members
programs-read done no_members = refl
programs-read done (member name value rest) =
    step _ _ _ _ (ap (placed 2 (length done)) (program-read done name value)) (λ p. programs-read (done ++ p ∷ []) rest)

-- ---- spaces

index-read : (ps : List Program) (o : Option (List ℕ)) →
    index_of ps o ≡ by_rules ((8, is_program_if ps o) ∷ []) (option_and_then (position_of ps) o)
unfolding index_of by_rules
index-read ps None = refl
index-read ps (Some name) = by (position_of ps name)
  where
    by : (o : Option ℕ) → (or_rule 8 o >>= λ index. Ok (Some index)) ≡ by_rules ((8, is_some o) ∷ []) o
    by None = refl
    by (Some index) = refl

space-after : (ps : List Program) (done : List SpaceEntry) (ms : Members) →
    space_after ps done ms ≡ by_rules (keys_of_space_ask ps done ms) (space_of ps ms)
unfolding space_after space_fields
space-after ps done ms =
    seq _ _ _ _ _ _ (ask _ _ _ _ _ (known-read _ ms)
    (ask _ _ _ _ _ (needed-text-read _ ms) (ask _ _ _ _ _ (text-read _ ms) (ask _ _ _ _ _ (integers-read _ ms) (ask _ _ _ _ _ (flag-read _ ms) ends)))))
    (ask _ _ _ _ _ (bytes-read [] _) (ask _ _ _ _ _ (tested _ _)
    (ask _ _ _ _ _ (path-read _) (ask _ _ _ _ _ (tested _ _) (ask _ _ _ _ _ (tested _ _) (ask _ _ _ _ _ (index-read ps _) ends))))))

space-read : (ps : List Program) (done : List SpaceEntry) (value : Data) →
    space_in ps done value ≡ by_rules (space_asks ps done value) (space_says ps done value)
unfolding space_in space_asks space_says
space-read ps done value = table-entry value (space_after ps done) (keys_of_space_ask ps done) (space_of ps) (space-after ps done)

pub spaces-read : (ps : List Program) (done : List SpaceEntry) (ds : Items) → spaces_from ps done ds ≡ read 3 (spaces ps) done (items ds)
unfolding spaces_from read items
spaces-read ps done no_items = refl
spaces-read ps done (item value rest) =
    step _ _ _ _ (ap (placed 3 (length done)) (space-read ps done value)) (λ s. spaces-read ps (done ++ s ∷ []) rest)

-- ---- servers

module _ (rules : List (List ℕ × Rule)) where
  console-read : (ms : Members) → console_of ms ≡ by_rules (console_asks ms) (Console (text_at (codes "alias") ms))
  unfolding console_of
  console-read ms = ask _ _ _ _ _ (known-read _ ms) (ask _ _ _ _ _ (needed-text-read _ ms) (ask _ _ _ _ _ (tested _ _) ends))

  listed-read : (name : List ℕ) (ms : Members) → name ≡ text_at (codes "rule") ms →
      listed_of rules name ms ≡ by_rules (listed_asks rules ms)
      (listed (integers_at (codes "config") ms) (unwrap_or (rule_from 0 rules (text_at (codes "rule") ms)) (0, Echo)))
  unfolding listed_of
  listed-read name ms same =
      rw same (ask _ _ _ _ _ (known-read _ ms) (ask _ _ _ _ _ (integers-read _ ms)
      (ask _ _ _ _ _ (words-read [] _) (ask _ _ _ _ _ (or-read 4 _ (0, Echo)) ends))))

  service-read : (ms : Members) → readers.service_of rules (text_at (codes "rule") ms) ms ≡ by_rules (service_asks rules ms) (service_of rules ms)
  service-read ms = choose (is_console ms) _ _ _ _ _ _ (console-read ms) (listed-read (text_at (codes "rule") ms) ms refl)

  server-of : (ms : Members) → readers.server_of rules ms ≡ by_rules (keys_of_server_ask rules ms) (server_of rules ms)
  unfolding readers.server_of
  server-of ms =
      ask _ _ _ _ _ (needed-text-read _ ms) (ask _ _ _ _ _ (needed-text-read _ ms)
      (seq (service_asks rules ms) _ _ _ _ _ (service-read ms) (ask _ _ _ _ _ (path-read _) ends)))

  server-read : (done : List ServerEntry) (value : Data) → server_in rules value ≡ by_rules (server_asks rules done value) (server_says rules done value)
  unfolding server_in server_asks server_says
  server-read done value = table-entry value (readers.server_of rules) (keys_of_server_ask rules) (server_of rules) server-of

  pub servers-read : (done : List ServerEntry) (ds : Items) → servers_from rules done ds ≡ read 5 (servers rules) done (items ds)
  unfolding servers_from read items
  servers-read done no_items = refl
  servers-read done (item value rest) =
      step _ _ _ _ (ap (placed 5 (length done)) (server-read done value)) (λ s. servers-read (done ++ s ∷ []) rest)

-- ---- jobs

list-read : (value : Data) → job_readers.list_of value ≡ by_rules ((2, is_array_of is_integer value) ∷ []) (list_of value)
unfolding items by_rules
list-read value = by (as_array value)
  where
    by : (o : Option Items) → (or_rule 2 o >>= integers_from [])
        ≡ by_rules ((2, is_some o && each is_integer (unwrap_or o no_items)) ∷ []) (integers (unwrap_or o no_items))
    by None = refl
    by (Some ds) = integers-from [] ds

lists-from : (done : List (List ℤ)) (ds : Items) →
    lists_from done ds ≡ by_rules ((2, each (is_array_of is_integer) ds) ∷ []) (done ++ map list_of (items ds))
unfolding lists_from each items
lists-from done no_items = list-end 2 done
lists-from done (item value rest) = list-step 2 _ _ _ done _ _ _ (list-read value) (lists-from (done ++ list_of value ∷ []) rest)

lists-read : (key : List ℕ) (ms : Members) →
    (array_in key ms >>= lists_of) ≡ by_rules ((2, may_have (is_array_of (is_array_of is_integer)) key ms) ∷ []) (map list_of (entries key ms))
unfolding array_in items by_rules
lists-read key ms = by (get_member key ms)
  where
    whole : (o : Option Items) → ((or_rule 2 o >>= λ x. Ok (Some x)) >>= lists_of)
        ≡ by_rules ((2, is_some o && each (is_array_of is_integer) (unwrap_or o no_items)) ∷ []) (map list_of (items (unwrap_or o no_items)))
    whole None = refl
    whole (Some ds) = lists-from [] ds

    by : (o : Option Data) → (typed as_array o >>= lists_of)
        ≡ by_rules ((2, is_so_if (is_array_of (is_array_of is_integer)) o) ∷ []) (map list_of (items (unwrap_or (option_and_then as_array o) no_items)))
    by None = refl
    by (Some d) = whole (as_array d)

bind-read : (ms : Members) → bind_in (asked.kind ms) ms ≡ by_rules (bind_asks ms) (bound ms)
unfolding bind_in pairs_in
bind-read ms = choose (is_restore (asked.kind ms)) _ _ _ _ _ _ (ask _ _ _ _ _ (known-read _ ms) (lists-read _ ms)) (ask _ _ _ _ _ (known-read _ ms) ends)

-- the second of a pair behind the first
abbrev paired : ℤ → ℕ → Result (ℕ × ℕ) ℕ
paired b x = ranged 0 239 b >>= λ y. Ok (x, y)

pair-read : (l : List ℤ) → pair_of l ≡ by_rules ((3, is_pair l) ∷ []) (pair l)
unfolding by_rules
pair-read [] = refl
pair-read (a ∷ []) = refl
pair-read (a ∷ b ∷ []) = by (is_in 0 239 a) (ranged 0 239 a) (ranged-read 0 239 a)
  where
    by : (t : Bool) (r : Result ℕ ℕ) → r ≡ by_rules ((3, t) ∷ []) (number a) →
        (r >>= paired b) ≡ by_rules ((3, t && is_in 0 239 b) ∷ []) (number a, number b)
    by true r is = rw is (seq ((3, is_in 0 239 b) ∷ []) [] (number b) (number a, number b) (ranged 0 239 b) (λ y. Ok (number a, y)) (ranged-read 0 239 b) refl)
    by false r is = rw is refl
pair-read (a ∷ b ∷ c ∷ l) = refl

pairs-read : (done : List (ℕ × ℕ)) (ls : List (List ℤ)) → pairs_from done ls ≡ by_rules ((3, list_all is_pair ls) ∷ []) (done ++ map pair ls)
unfolding pairs_from
pairs-read done [] = list-end 3 done
pairs-read done (l ∷ ls) = list-step 3 _ _ _ done _ _ _ (pair-read l) (pairs-read (done ++ pair l ∷ []) ls)

distinct-read : (done ps : List (ℕ × ℕ)) → distinct_from done ps ≡ by_rules ((6, are_distinct done ps) ∷ []) (done ++ ps)
unfolding distinct_from by_rules
distinct-read done [] = list-end 6 done
distinct-read done (p ∷ ps) = by (not (is_bound done p.0)) (distinct-read (done ++ p ∷ []) ps)
  where
    by : (t : Bool) → distinct_from (done ++ p ∷ []) ps ≡ by_rules ((6, are_distinct (done ++ p ∷ []) ps) ∷ []) ((done ++ p ∷ []) ++ ps) →
        (unless 6 t >>= λ x. distinct_from (done ++ p ∷ []) ps)
        ≡ by_rules ((6, t && are_distinct (done ++ p ∷ []) ps) ∷ []) (done ++ p ∷ ps)
    by true others = others ∙ ap (by_rules ((6, are_distinct (done ++ p ∷ []) ps) ∷ [])) (append_assoc done (p ∷ []) ps)
    by false others = refl

kind-read : (ps : List (ℕ × ℕ)) (restore checkpoint : Bool) →
    (if restore then (distinct_from [] ps >>= λ bind. Ok (Restore bind)) else if checkpoint then Ok Checkpoint else Err 4)
    ≡ by_rules ((4, restore || checkpoint) ∷ (6, if restore then are_distinct [] ps else true) ∷ []) (if restore then Restore ps else Checkpoint)
unfolding by_rules
kind-read ps true checkpoint =
    seq ((6, are_distinct [] ps) ∷ []) [] ps (Restore ps) (distinct_from [] ps) (λ bind. Ok (Restore bind)) (distinct-read [] ps) refl
kind-read ps false true = refl
kind-read ps false false = refl

kinds-read : (ms : Members) → job_kind (asked.kind ms) (pairs ms) ≡ by_rules ((4, is_kind (asked.kind ms)) ∷ (6, binds_well ms) ∷ []) (asked.kind_of ms)
unfolding job_kind
kinds-read ms = kind-read (pairs ms) (is_restore (asked.kind ms)) (bytes_eq (asked.kind ms) (codes "checkpoint"))

-- what a job's keys have, as it is written
fields_of : Members → JobFields
fields_of ms = record {
  kind = asked.kind ms;
  bind = bound ms;
  moment = integer (codes "at") ms;
  nester = text_at (codes "nester") ms;
  slot = asked.slot_at ms;
  image = text_at (codes "image") ms;
}

abbrev types_ask : Members → List (ℕ × Bool)
types_ask ms =
    (2, may_have is_integer (codes "at") ms) ∷ (2, has is_text (codes "nester") ms) ∷ (2, has is_integer (codes "slot") ms)
    ∷ (2, has is_text (codes "image") ms) ∷ []

fields-read : (ms : Members) →
    job_fields ms ≡ by_rules ((2, has is_text (codes "kind") ms) ∷ (bind_asks ms ++ types_ask ms)) (fields_of ms)
unfolding job_fields fields_of
fields-read ms =
    ask _ _ _ _ _ (needed-text-read _ ms) (seq (bind_asks ms) (types_ask ms) _ _ _ _ (bind-read ms)
    (ask _ _ _ _ _ (integer-read _ ms) (ask _ _ _ _ _ (needed-text-read _ ms)
    (ask _ _ _ _ _ (needed-integer-read _ ms) (ask _ _ _ _ _ (needed-text-read _ ms) ends)))))

abbrev ranges_ask : ℕ → Members → List (ℕ × Bool)
ranges_ask before ms =
    (3, is_in_if 0 1000000 (integer (codes "at") ms)) ∷ (3, is_in 0 239 (asked.slot_at ms)) ∷ (3, list_all is_pair (bound ms))
    ∷ (3, nat_lt before 16) ∷ []

ranges-read : (before : ℕ) (ms : Members) →
    numbers_of before (fields_of ms) ≡ by_rules (ranges_ask before ms) (number_or 0 (integer (codes "at") ms), number (asked.slot_at ms), pairs ms)
unfolding numbers_of fields_of
ranges-read before ms = ask _ _ _ _ _ (ranged-or-read 0 0 1000000 (integer (codes "at") ms))
    (ask _ _ _ _ _ (ranged-read 0 239 (asked.slot_at ms)) (ask _ _ _ _ _ (pairs-read [] (bound ms)) (ask _ _ _ _ _ (tested _ _) ends)))

-- all of it, with what is asked in two lists
job-of-parts : (before : ℕ) (ms : Members) → job_readers.job_of before ms ≡ by_rules (((2, has is_text (codes "kind") ms) ∷ (bind_asks ms ++ types_ask ms))
    ++ (ranges_ask before ms ++ (4, is_path (text_at (codes "nester") ms)) ∷ (4, is_name (text_at (codes "image") ms)) ∷ (4, is_kind (asked.kind ms))
    ∷ (6, binds_well ms) ∷ [])) (job_of ms)
unfolding job_readers.job_of fields_of
job-of-parts before ms =
    seq _ _ _ _ _ _ (fields-read ms) (seq _ _ _ _ _ _ (ranges-read before ms)
    (ask _ _ _ _ _ (path-read _) (ask _ _ _ _ _ (tested _ _) (seq _ [] _ _ _ _ (kinds-read ms) ends))))

job-of : (before : ℕ) (ms : Members) →
    job_readers.job_of before ms ≡ by_rules ((2, has is_text (codes "kind") ms) ∷ (bind_asks ms ++ other_keys_ask before ms)) (job_of ms)
job-of before ms =
    job-of-parts before ms ∙ ap (λ asked. by_rules ((2, has is_text (codes "kind") ms) ∷ asked) (job_of ms)) (append_assoc (bind_asks ms) (types_ask ms) _)

job-read : (done : List JobEntry) (value : Data) → job_in (length done) value ≡ by_rules (job_asks done value) (job_says done value)
unfolding job_in job_asks job_says
job-read done value =
    table-entry value (job_readers.job_of (length done)) (λ ms. (2, has is_text (codes "kind") ms) ∷ (bind_asks ms ++ other_keys_ask (length done) ms)) job_of
    (job-of (length done))

pub jobs-read : (done : List JobEntry) (ds : Items) → entries_from done ds ≡ read 6 jobs done (items ds)
unfolding entries_from read items
jobs-read done no_items = refl
jobs-read done (item value rest) =
    step _ _ _ _ (ap (placed 6 (length done)) (job-read done value)) (λ j. jobs-read (done ++ j ∷ []) rest)
