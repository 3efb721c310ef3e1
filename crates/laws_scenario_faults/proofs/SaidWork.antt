-- Servers and jobs: each keeps all that it is asked exactly where it says what it is read as.
use Rattle.std.proofs.Common.{◌≡◌, ◌≢◌, ◌≤◌, inl, inr, ℕ, ℤ, pos, Bool, true, false, ◌&&◌, ◌||◌, List, [], ◌∷◌, length, map, Option, Some, None}
use Rattle.std.proofs.Common.{is_some, unwrap_or, option_and_then, if◌then◌else◌, codes, refl, sym, ap, subst, ◌∙◌, arith, true≢false}
use Rattle.std.proofs.lemmas.Bool.{ltb-true, lt-ltb, and_from}
use Rattle.std.proofs.lemmas.Slice.Eq.{bytes_eq-Decides}
use Rattle.std.specs.List.{list_all, AllZip}
use Rattle.std.specs.Str.{bytes_eq}
use Rattle.toml.specs.Data.{Data, Items, no_items, item, Members, get_member, integer, array, as_array}
use Rattle.fk_model.specs.declared.moves.Rule.{Rule}
use Rattle.fk_model.specs.declared.moves.Rule.TheVariants.{Echo}
use Rattle.fk_model.specs.declared.job.JobSpec.{JobSpec}
use Rattle.fk_scenario.specs.declared.entries.types.SpaceEntry.{SpaceEntry}
use Rattle.fk_scenario.specs.declared.entries.types.ServerEntry.{ServerEntry}
use Rattle.fk_scenario.specs.declared.entries.types.ServiceSpec.{ServiceSpec}
use Rattle.fk_scenario.specs.declared.entries.types.ServiceSpec.TheVariants.{Console, Listed}
use Rattle.fk_scenario.specs.declared.entries.jobs.JobEntry.{JobEntry}
use Rattle.fk_scenario.specs.declared.entries.jobs.JobKind.{JobKind}
use Rattle.fk_scenario.specs.declared.entries.jobs.JobKind.TheVariants.{Checkpoint, Restore}
use Rattle.fk_scenario.specs.Entries.Servers.{rule_from}
use Rattle.fk_scenario.specs.Entries.Jobs.{is_restore}
use Rattle.fk_scenario.specs.Scenario.Jobs.{nester_from, first_number, job_spec}
use Rattle.laws_scenario_faults.specs.Asked.{AreKept}
use Rattle.laws_scenario_faults.specs.Tables.{table_of, is_text, is_integer, is_array, is_array_of, each, has, may_have, is_so_if, items, text_at}
use Rattle.laws_scenario_faults.specs.Tables.{integer_of, integers}
use Rattle.laws_scenario_faults.specs.Tables.{integers_at, is_in, entries, is_path}
use Rattle.laws_scenario_faults.specs.Entries.{console_asks, listed_asks, is_console, service_asks, listed, service_of, server_asks, server_says}
use Rattle.laws_scenario_faults.specs.Entries.{restore_keys, checkpoint_keys, kind, list_of, bound, bind_asks, is_pair, pair, are_distinct, is_kind, binds_well}
use Rattle.laws_scenario_faults.specs.Entries.{other_keys_ask, job_asks, kind_of, job_says}
use Rattle.laws_scenario_faults.specs.Tables.{has_only}
use Rattle.laws_scenario_faults.specs.Refusals.{work}
use Rattle.laws_scenario_faults.specs.Keys.{At, AtOr, OfTable, IsText, AreEach}
use Rattle.laws_scenario_faults.specs.Scenarios.{SaysService, SaysServer, IsPair, SaysKind, SaysJob, IsJobOf}
use Rattle.laws_scenario_faults.proofs.Keys.{both, array-is, table-is, number-says, number-in, there, text-at, text-at-told, name-at, name-at-told, path-at}
use Rattle.laws_scenario_faults.proofs.Keys.{path-at-told, number-at, number-at-told, number-or, number-or-told, numbers-or, numbers-or-told}
use Rattle.laws_scenario_faults.proofs.Said.{kept-append, append-kept}
use Rattle.laws_scenario_faults.proofs.SaidObjects.{same2}

-- ---- servers

module _ (rules : List (List ℕ × Rule)) (ms : Members) where
  abbrev rule_name : List ℕ
  rule_name = text_at (codes "rule") ms

  listed-says : has is_text (codes "rule") ms ≡ true → is_console ms ≡ false → AreKept (listed_asks rules ms) →
      SaysService rules ms (listed (integers_at (codes "config") ms) (unwrap_or (rule_from 0 rules rule_name) (0, Echo)))
  listed-says h other (keys, (config, (config_in, (found, _)))) = by (rule_from 0 rules rule_name) refl found
    where
      by : (o : Option (ℕ × Rule)) → rule_from 0 rules rule_name ≡ o → is_some o ≡ true →
          SaysService rules ms (listed (integers_at (codes "config") ms) (unwrap_or o (0, Echo)))
      by None at found = absurd (cc)
      by (Some (index, rule)) at found = (
        rule_name,
        keys,
        text-at (codes "rule") ms h,
        (λ same. true≢false (sym ((bytes_eq-Decides rule_name (codes "console")).1 same) ∙ other)),
        at,
        numbers-or (codes "config") ms 0 9223372036854775807 config config_in,
      )

  console-says : has is_text (codes "rule") ms ≡ true → is_console ms ≡ true → AreKept (console_asks ms) →
      SaysService rules ms (Console (text_at (codes "alias") ms))
  console-says h is (keys, (alias, (named, _))) = (
    keys,
    subst (At IsText (codes "rule") ms) ((bytes_eq-Decides rule_name (codes "console")).0 is) (text-at (codes "rule") ms h),
    name-at (codes "alias") ms alias named,
  )

  service-says : has is_text (codes "rule") ms ≡ true → AreKept (service_asks rules ms) → SaysService rules ms (service_of rules ms)
  service-says h keep = by (is_console ms) refl keep
    where
      by : (t : Bool) → is_console ms ≡ t → AreKept (if t then console_asks ms else listed_asks rules ms) →
          SaysService rules ms (if t then Console (text_at (codes "alias") ms)
          else listed (integers_at (codes "config") ms) (unwrap_or (rule_from 0 rules rule_name) (0, Echo)))
      by true is keep = console-says h is keep
      by false is keep = listed-says h is keep

  -- what is asked and said, by whether it is a console
  abbrev Service : Bool → ServiceSpec → Type 0
  Service t service = AreKept (if t then console_asks ms else listed_asks rules ms)
      × ((if t then Console (text_at (codes "alias") ms)
      else listed (integers_at (codes "config") ms) (unwrap_or (rule_from 0 rules rule_name) (0, Echo))) ≡ service)

  listed-same : (index : ℕ) (rule : Rule) (a b : List ℕ) → a ≡ b → Listed index rule a ≡ Listed index rule b
  listed-same index rule a b same = rw same refl

  service-told : (service : ServiceSpec) → SaysService rules ms service →
      (has is_text (codes "rule") ms ≡ true) × AreKept (service_asks rules ms) × (service_of rules ms ≡ service)
  service-told (Console alias) (keys, rule_at, alias_at) =
      let (h, here) = text-at-told (codes "rule") ms (codes "console") rule_at in
      let (a, named, same) = name-at-told (codes "alias") ms alias alias_at in
      let is : is_console ms ≡ true = (bytes_eq-Decides rule_name (codes "console")).1 here in
      let all = subst (λ (t : Bool). Service t (Console alias)) (sym is) ((keys, (a, (named, tt))), ap Console same) in
      (h, all.0, all.1)
  service-told (Listed index rule config) (name, keys, rule_at, other, found, config_at) =
      let (h, here) = text-at-told (codes "rule") ms name rule_at in
      let (c, c_in, c_same) = numbers-or-told (codes "config") ms 0 9223372036854775807 config config_at in
      let found_here : rule_from 0 rules rule_name ≡ Some (index, rule) = ap (rule_from 0 rules) here ∙ found in
      let same : listed (integers_at (codes "config") ms) (unwrap_or (rule_from 0 rules rule_name) (0, Echo)) ≡ Listed index rule config =
      ap (λ (o : Option (ℕ × Rule)). listed (integers_at (codes "config") ms) (unwrap_or o (0, Echo))) found_here
      ∙ listed-same index rule _ config c_same in
      let all = subst (λ (t : Bool). Service t (Listed index rule config)) (sym (no-console name here other))
      ((keys, (c, (c_in, (ap is_some found_here, tt)))), same) in
      (h, all.0, all.1)
    where
      no-console : (name : List ℕ) → rule_name ≡ name → name ≢ codes "console" → is_console ms ≡ false
      no-console name here other = by (is_console ms) refl
        where
          by : (t : Bool) → is_console ms ≡ t → t ≡ false
          by true is = absurd (other (sym here ∙ (bytes_eq-Decides rule_name (codes "console")).0 is))
          by false is = refl

server-same : (v : ServerEntry) (port : List ℕ) (service : ServiceSpec) → port ≡ v.port → service ≡ v.service →
    (record { port = port; service = service }) ≡ v
server-same v port service a b = rw (a, b) refl

module _ (rules : List (List ℕ × Rule)) (done : List ServerEntry) (value : Data) where
  pub server-says : AreKept (server_asks rules done value) → OfTable (SaysServer rules done) value (server_says rules done value)
  unfolding server_asks server_says
  server-says (is, (port_is, (rule_is, rest))) =
      let ms = table_of value in
      let (service, (is_path_text, _)) = kept-append (service_asks rules ms) ((4, is_path (text_at (codes "port") ms)) ∷ []) rest in
      (ms, table-is value is, record { port = path-at (codes "port") ms port_is is_path_text; service = service-says rules ms rule_is service })

  pub server-told : (v : ServerEntry) → OfTable (SaysServer rules done) value v →
      AreKept (server_asks rules done value) × (server_says rules done value ≡ v)
  unfolding server_asks server_says
  server-told v (ms, is, say) =
      let (port_is, is_path_text, port_same) = path-at-told (codes "port") ms v.port say.port in
      let (rule_is, service, service_same) = service-told rules ms v.service say.service in
      subst (λ (d : Data). AreKept (server_asks rules done d) × (server_says rules done d ≡ v)) (sym is) (
        (refl, (port_is, (rule_is, append-kept (service_asks rules ms) ((4, is_path (text_at (codes "port") ms)) ∷ []) service (is_path_text, tt)))),
        server-same v _ _ port_same service_same,
      )

-- ---- pairs

pair-of-two : (ds : Items) → each is_integer ds ≡ true → is_pair (integers ds) ≡ true →
    (ds ≡ item (integer (pos ((pair (integers ds)).0))) (item (integer (pos ((pair (integers ds)).1))) no_items))
    × ((pair (integers ds)).0 ≤ 239) × ((pair (integers ds)).1 ≤ 239)
unfolding each items
pair-of-two no_items t r = absurd (cc)
pair-of-two (item a no_items) t r = absurd (cc)
pair-of-two (item a (item b (item c rest))) t r = absurd (cc)
pair-of-two (item a (item b no_items)) t r =
    let (ta, others) = both (is_integer a) (is_integer b && true) t in
    let (tb, _) = both (is_integer b) true others in
    let (ra, rb) = both (is_in 0 239 (integer_of a)) (is_in 0 239 (integer_of b)) r in
    let (a_is, a_low, a_high) = number-says 0 239 a ta ra in
    let (b_is, b_low, b_high) = number-says 0 239 b tb rb in
    (same2 (λ (a b : Data). item a (item b no_items)) a _ b _ a_is b_is, a_high, b_high)

pair-says : (d : Data) → is_array_of is_integer d ≡ true → is_pair (list_of d) ≡ true → IsPair d (pair (list_of d))
pair-says d t r =
    let (is, ts) = both (is_array d) (each is_integer (unwrap_or (as_array d) no_items)) t in
    let (two, a, b) = pair-of-two (unwrap_or (as_array d) no_items) ts r in
    (array-is d is ∙ ap array two, a, b)

pair-told : (d : Data) (p : ℕ × ℕ) → IsPair d p → (is_array_of is_integer d ≡ true) × (is_pair (list_of d) ≡ true) × (pair (list_of d) ≡ p)
unfolding each items
pair-told d p (is, a, b) =
    subst (λ (d : Data). (is_array_of is_integer d ≡ true) × (is_pair (list_of d) ≡ true) × (pair (list_of d) ≡ p)) (sym is)
    (refl, and_from (is_in 0 239 (pos p.0)) (is_in 0 239 (pos p.1)) (number-in 0 239 p.0 (omega arith) a) (number-in 0 239 p.1 (omega arith) b), refl)

pairs-say : (ds : Items) → each (is_array_of is_integer) ds ≡ true → list_all is_pair (map list_of (items ds)) ≡ true →
    AllZip IsPair (items ds) (map pair (map list_of (items ds)))
unfolding each items
pairs-say no_items t r = tt
pairs-say (item d rest) t r =
    let (t0, ts) = both (is_array_of is_integer d) (each (is_array_of is_integer) rest) t in
    let (r0, rs) = both (is_pair (list_of d)) (list_all is_pair (map list_of (items rest))) r in
    (pair-says d t0 r0, pairs-say rest ts rs)

pairs-told : (ds : Items) (ps : List (ℕ × ℕ)) → AllZip IsPair (items ds) ps → (each (is_array_of is_integer) ds ≡ true)
    × (list_all is_pair (map list_of (items ds)) ≡ true) × (map pair (map list_of (items ds)) ≡ ps)
unfolding each items
pairs-told no_items [] say = (refl, refl, refl)
pairs-told no_items (p ∷ ps) say = absurd (say)
pairs-told (item d rest) [] say = absurd (say)
pairs-told (item d rest) (p ∷ ps) say =
    let (t0, r0, same) = pair-told d p say.0 in
    let (ts, rs, others) = pairs-told rest ps say.1 in (
      and_from (is_array_of is_integer d) (each (is_array_of is_integer) rest) t0 ts,
      and_from (is_pair (list_of d)) (list_all is_pair (map list_of (items rest))) r0 rs,
      ap (λ x. x ∷ map pair (map list_of (items rest))) same ∙ ap (λ xs. p ∷ xs) others,
    )

module _ (key : List ℕ) (ms : Members) where
  pairs-or : may_have (is_array_of (is_array_of is_integer)) key ms ≡ true → list_all is_pair (map list_of (entries key ms)) ≡ true →
      AtOr [] (AreEach IsPair) key ms (map pair (map list_of (entries key ms)))
  unfolding items
  pairs-or h r = by (get_member key ms) refl h r
    where
      some : (d : Data) → get_member key ms ≡ Some d → is_array_of (is_array_of is_integer) d ≡ true →
          list_all is_pair (map list_of (items (unwrap_or (as_array d) no_items))) ≡ true →
          At (AreEach IsPair) key ms (map pair (map list_of (items (unwrap_or (as_array d) no_items))))
      some d at t r =
          let (is, ts) = both (is_array d) (each (is_array_of is_integer) (unwrap_or (as_array d) no_items)) t in
          (d, at, (unwrap_or (as_array d) no_items, array-is d is, pairs-say (unwrap_or (as_array d) no_items) ts r))

      by : (o : Option Data) → get_member key ms ≡ o → is_so_if (is_array_of (is_array_of is_integer)) o ≡ true →
          list_all is_pair (map list_of (items (unwrap_or (option_and_then as_array o) no_items))) ≡ true →
          AtOr [] (AreEach IsPair) key ms (map pair (map list_of (items (unwrap_or (option_and_then as_array o) no_items))))
      by None at h r = inr (at, refl)
      by (Some d) at h r = inl (some d at h r)

  pairs-or-told : (ps : List (ℕ × ℕ)) → AtOr [] (AreEach IsPair) key ms ps → (may_have (is_array_of (is_array_of is_integer)) key ms ≡ true)
      × (list_all is_pair (map list_of (entries key ms)) ≡ true) × (map pair (map list_of (entries key ms)) ≡ ps)
  unfolding items
  pairs-or-told ps (inl (value, at, (ds, is, say))) =
      there key ms (λ (o : Option Data). (is_so_if (is_array_of (is_array_of is_integer)) o ≡ true)
      × (list_all is_pair (map list_of (items (unwrap_or (option_and_then as_array o) no_items))) ≡ true)
      × (map pair (map list_of (items (unwrap_or (option_and_then as_array o) no_items))) ≡ ps)) value (array ds) at is (pairs-told ds ps say)
  pairs-or-told ps (inr (at, is)) =
      subst (λ (o : Option Data). (is_so_if (is_array_of (is_array_of is_integer)) o ≡ true)
      × (list_all is_pair (map list_of (items (unwrap_or (option_and_then as_array o) no_items))) ≡ true)
      × (map pair (map list_of (items (unwrap_or (option_and_then as_array o) no_items))) ≡ ps)) (sym at) (refl, refl, sym is)

-- ---- jobs

module _ (ms : Members) where
  -- what is asked and said, by whether it is a restore
  abbrev bound_if : Bool → List (List ℤ)
  bound_if t = if t then map list_of (entries (codes "bind") ms) else []

  abbrev bind_asks_if : Bool → List (ℕ × Bool)
  bind_asks_if t =
      if t then (2, has_only restore_keys ms) ∷ (2, may_have (is_array_of (is_array_of is_integer)) (codes "bind") ms) ∷ []
      else (2, has_only checkpoint_keys ms) ∷ []

  abbrev kind_if : Bool → JobKind
  kind_if t = if t then Restore (map pair (bound_if t)) else Checkpoint

  abbrev is_checkpoint : Bool
  is_checkpoint = bytes_eq (kind ms) (codes "checkpoint")

  kind-at : (name : List ℕ) → has is_text (codes "kind") ms ≡ true → bytes_eq (kind ms) name ≡ true → At IsText (codes "kind") ms name
  kind-at name h is = subst (At IsText (codes "kind") ms) ((bytes_eq-Decides (kind ms) name).0 is) (text-at (codes "kind") ms h)

  kind-says : has is_text (codes "kind") ms ≡ true → AreKept (bind_asks ms) → list_all is_pair (bound ms) ≡ true → is_kind (kind ms) ≡ true →
      binds_well ms ≡ true → SaysKind ms (kind_of ms)
  kind-says h asked two known distinct = by (is_restore (kind ms)) refl asked two known distinct
    where
      by : (t : Bool) → is_restore (kind ms) ≡ t → AreKept (bind_asks_if t) → list_all is_pair (bound_if t) ≡ true → (t || is_checkpoint) ≡ true →
          (if t then are_distinct [] (map pair (bound_if t)) else true) ≡ true → SaysKind ms (kind_if t)
      by true is (keys, (bind, _)) two known distinct = (kind-at (codes "restore") h is, keys, pairs-or (codes "bind") ms bind two, distinct)
      by false is (keys, _) two known distinct = (kind-at (codes "checkpoint") h known, keys)

  abbrev Kind : Bool → JobKind → Type 0
  Kind t k = AreKept (bind_asks_if t) × (list_all is_pair (bound_if t) ≡ true) × ((t || is_checkpoint) ≡ true)
      × ((if t then are_distinct [] (map pair (bound_if t)) else true) ≡ true) × (kind_if t ≡ k)

  kind-told : (k : JobKind) → SaysKind ms k → (has is_text (codes "kind") ms ≡ true) × Kind (is_restore (kind ms)) k
  kind-told Checkpoint (at, keys) =
      let (h, here) = text-at-told (codes "kind") ms (codes "checkpoint") at in
      let no_restore : is_restore (kind ms) ≡ false = ap is_restore here in
      let is : is_checkpoint ≡ true = (bytes_eq-Decides (kind ms) (codes "checkpoint")).1 here in
      (h, subst (λ (t : Bool). Kind t Checkpoint) (sym no_restore) ((keys, tt), refl, is, refl, refl))
  kind-told (Restore bind) (at, keys, pairs_at, distinct) =
      let (h, here) = text-at-told (codes "kind") ms (codes "restore") at in
      let is : is_restore (kind ms) ≡ true = (bytes_eq-Decides (kind ms) (codes "restore")).1 here in
      let (b, two, same) = pairs-or-told (codes "bind") ms bind pairs_at in (
        h,
        subst (λ (t : Bool). Kind t (Restore bind)) (sym is)
            ((keys, (b, tt)), two, refl, subst (λ (ps : List (ℕ × ℕ)). are_distinct [] ps ≡ true) (sym same) distinct, ap Restore same),
      )

job-same : (j : JobEntry) (moment slot : ℕ) (nester image : List ℕ) (k : JobKind) → moment ≡ j.moment → nester ≡ j.nester → slot ≡ j.slot →
    image ≡ j.image → k ≡ j.kind → (record { moment = moment; nester = nester; slot = slot; image = image; kind = k }) ≡ j
job-same j moment slot nester image k a b c d e = rw (a, b, c, d, e) refl

module _ (done : List JobEntry) (value : Data) where
  pub job-says : AreKept (job_asks done value) → OfTable (SaysJob done) value (job_says done value)
  unfolding job_asks job_says
  job-says (is, (kind_is, rest)) =
      let ms = table_of value in
      let (bind, (at_is, (nester_is, (slot_is, (image_is, (at_in, (slot_in, (two, (few, (is_path_text, (named, (known, (well, _)))))))))))))
      = kept-append (bind_asks ms) (other_keys_ask (length done) ms) rest in (
        ms,
        table-is value is,
        record {
          few = ltb-true (length done) 16 few;
          kind = kind-says ms kind_is bind two known well;
          moment = number-or (codes "at") ms 0 1000000 0 at_is at_in;
          nester = path-at (codes "nester") ms nester_is is_path_text;
          slot = number-at (codes "slot") ms 0 239 slot_is slot_in;
          image = name-at (codes "image") ms image_is named;
        },
      )

  pub job-told : (j : JobEntry) → OfTable (SaysJob done) value j → AreKept (job_asks done value) × (job_says done value ≡ j)
  unfolding job_asks job_says
  job-told j (ms, is, say) =
      let (kind_is, (bind, two, known, well, kind_same)) = kind-told ms j.kind say.kind in
      let (at_is, at_in, at_same) = number-or-told (codes "at") ms 0 1000000 0 j.moment say.moment in
      let (nester_is, is_path_text, nester_same) = path-at-told (codes "nester") ms j.nester say.nester in
      let (slot_is, slot_in, slot_same) = number-at-told (codes "slot") ms 0 239 j.slot say.slot in
      let (image_is, named, image_same) = name-at-told (codes "image") ms j.image say.image in
      let few = lt-ltb (length done) 16 say.few in
      subst (λ (d : Data). AreKept (job_asks done d) × (job_says done d ≡ j)) (sym is) (
        (
          refl,
          (
            kind_is,
            append-kept (bind_asks ms) (other_keys_ask (length done) ms) bind
                (at_is, (nester_is, (slot_is, (image_is, (at_in, (slot_in, (two, (few, (is_path_text, (named, (known, (well, tt)))))))))))),
          ),
        ),
        job-same j _ _ _ _ _ at_same nester_same slot_same image_same kind_same,
      )

-- ---- the jobs that entries ask for

some-is : {A : Type 0} (o : Option A) (otherwise : A) → is_some o ≡ true → o ≡ Some (unwrap_or o otherwise)
some-is None otherwise h = absurd (cc)
some-is (Some x) otherwise h = refl

module _ (ss : List SpaceEntry) (vs : List ServerEntry) (done : List JobSpec) (j : JobEntry) where
  pub work-says : AreKept ((work ss vs).asks done j) → IsJobOf ss vs done j ((work ss vs).says done j)
  work-says (there_is, (may, _)) =
      (unwrap_or (nester_from (first_number ss) ss j.nester) 0, some-is (nester_from (first_number ss) ss j.nester) 0 there_is, may, refl)

  pub work-told : (job : JobSpec) → IsJobOf ss vs done j job → AreKept ((work ss vs).asks done j) × ((work ss vs).says done j ≡ job)
  work-told job (birth, is, may, same) =
      ((ap is_some is, (may, tt)), ap (λ (o : Option ℕ). job_spec (unwrap_or o 0) j j.kind) is ∙ sym same)
