-- Scenarios: one is read of bytes exactly where they are a document that says it.
use Rattle.std.proofs.Common.{◌≡◌, inl, inr, ℕ, ℤ, pos, true, List, [], ◌∷◌, ◌++◌, Option, Some, None, is_some, unwrap_or}
use Rattle.std.proofs.Common.{option_and_then, Ok, codes, refl, sym, ap, subst, ◌∙◌}
use Rattle.std.proofs.lemmas.List.{append-nil, append_assoc}
use Rattle.std.proofs.lemmas.List.Elements.{All-from_recursion, recursion_from_All}
use Rattle.std.specs.List.{AllByRecursion}
use Rattle.toml.specs.Data.{Data, Members, get_member, integer, as_integer}
use Rattle.fk_model.specs.declared.moves.Rule.{Rule}
use Rattle.fk_model.specs.declared.job.JobSpec.{JobSpec}
use Rattle.fk_scenario.specs.Fields.Gives.{placed}
use Rattle.fk_scenario.proofs.InFields.Steps.{after, placed-Ok}
use Rattle.fk_scenario.specs.declared.entries.types.SpaceEntry.{SpaceEntry}
use Rattle.fk_scenario.specs.declared.entries.types.ObjectEntry.{ObjectEntry}
use Rattle.fk_scenario.specs.declared.entries.types.ServerEntry.{ServerEntry}
use Rattle.fk_scenario.specs.Sections.Kept.{EachAfter}
use Rattle.fk_scenario.specs.declared.scenario.scenario.Scenario.{Scenario}
use Rattle.fk_scenario.specs.Scenario.Aims.{aims_from, aims_well, entry_space}
use Rattle.fk_scenario.specs.Scenario.Servers.{serving_from}
use Rattle.fk_scenario.specs.Scenario.Jobs.{jobs_from}
use Rattle.fk_scenario.specs.Scenario.Reading.{Top, top_of, first_round, second_round, scenario_of, scenario_in, scenario_reading, tree_of}
use Rattle.laws_scenario_faults.specs.Asked.{AreKept, Section, AllKeep}
use Rattle.laws_scenario_faults.specs.Asked.AllKeep.{NoEntry, Entry}
use Rattle.laws_scenario_faults.specs.Tables as told
use Rattle.laws_scenario_faults.specs.Tables.{is_integer, is_so_if, is_in, may_have, number, entries}
use Rattle.laws_scenario_faults.specs.Entries as asked
use Rattle.laws_scenario_faults.specs.Entries.{top_asks, budget, workers}
use Rattle.laws_scenario_faults.specs.Objects.{objects}
use Rattle.laws_scenario_faults.specs.Refusals.{Said, aims, serving, work, program_entries, SaysRound}
use Rattle.laws_scenario_faults.specs.Keys.{At, AtOr, IsNumber, OfTable}
use Rattle.laws_scenario_faults.specs.Scenarios.{SectionSays, SaysProgram, SaysSpace, SaysObject, SaysServer, MayServe, SaysJob, IsJobOf, Says, BytesSay}
use Rattle.laws_scenario_faults.specs.Scenarios.{ScenariosAreSaid}
use Rattle.laws_scenario_faults.proofs.Rules.{kept, read, read_keeps, read_kept, keep_reads}
use Rattle.laws_scenario_faults.proofs.Documents.{then-right, sections_in, top_in, top-read, work-read, aims-same, serving-same, good-of, second}
use Rattle.laws_scenario_faults.proofs.Documents.{round-says, rounds, good-round, good-aims, good-serving}
use Rattle.laws_scenario_faults.proofs.Keys.{there, number-says, number-in, number-at, number-at-told, values-or, values-or-told, members-or, members-or-told}
use Rattle.laws_scenario_faults.proofs.Said.{all-say, section-told, program-says, program-told, space-says, space-told}
use Rattle.laws_scenario_faults.proofs.SaidObjects.{object-says, object-told}
use Rattle.laws_scenario_faults.proofs.SaidWork.{server-says, server-told, job-says, job-told, work-says, work-told}

-- ---- a number that is asked with its default in its place

module _ (key : List ℕ) (ms : Members) (low high default : ℕ) where
  number-else : may_have is_integer key ms ≡ true → is_in low high (unwrap_or (told.integer key ms) (pos default)) ≡ true →
      AtOr default (IsNumber low high) key ms (number (unwrap_or (told.integer key ms) (pos default)))
  number-else h r = by (get_member key ms) refl h r
    where
      some : (d : Data) → get_member key ms ≡ Some d → (z : Option ℤ) → as_integer d ≡ z → is_some z ≡ true →
          is_in low high (unwrap_or z (pos default)) ≡ true → At (IsNumber low high) key ms (number (unwrap_or z (pos default)))
      some d at None read t r = absurd (cc)
      some d at (Some z) read t r =
          let same : told.integer_of d ≡ z = ap (λ (o : Option ℤ). unwrap_or o (pos 0)) read in (
            d,
            at,
            subst (λ z. IsNumber low high d (number z)) same
                (number-says low high d (ap is_some read) (subst (λ z. is_in low high z ≡ true) (sym same) r)),
          )

      by : (o : Option Data) → get_member key ms ≡ o → is_so_if is_integer o ≡ true →
          is_in low high (unwrap_or (option_and_then as_integer o) (pos default)) ≡ true →
          AtOr default (IsNumber low high) key ms (number (unwrap_or (option_and_then as_integer o) (pos default)))
      by None at h r = inr (at, refl)
      by (Some d) at h r = inl (some d at (as_integer d) refl h r)

  number-else-told : is_in low high (pos default) ≡ true → (n : ℕ) → AtOr default (IsNumber low high) key ms n → (may_have is_integer key ms ≡ true)
      × (is_in low high (unwrap_or (told.integer key ms) (pos default)) ≡ true) × (number (unwrap_or (told.integer key ms) (pos default)) ≡ n)
  number-else-told inside n (inl (value, at, (is, a, b))) =
      there key ms (λ (o : Option Data). (is_so_if is_integer o ≡ true) × (is_in low high (unwrap_or (option_and_then as_integer o) (pos default)) ≡ true)
      × (number (unwrap_or (option_and_then as_integer o) (pos default)) ≡ n)) value (integer (pos n)) at is (refl, number-in low high n a b, refl)
  number-else-told inside n (inr (at, is)) =
      subst (λ (o : Option Data). (is_so_if is_integer o ≡ true) × (is_in low high (unwrap_or (option_and_then as_integer o) (pos default)) ≡ true)
      × (number (unwrap_or (option_and_then as_integer o) (pos default)) ≡ n)) (sym at) (refl, inside, sym is)

-- ---- the second round

module _ (ss : List SpaceEntry) (os : List ObjectEntry) where
  abbrev Aims : ObjectEntry → Type 0
  Aims o = aims_well ss os (entry_space o) o.spec ≡ true

  aims-say : (done es all : List ObjectEntry) → AllKeep (aims ss os) done es all → AllByRecursion Aims es
  aims-say done _ _ (NoEntry _) = tt
  aims-say done _ all (Entry _ o more _ asked rest) = (asked.0, aims-say (done ++ o ∷ []) more all rest)

  aims-told : (done es : List ObjectEntry) → AllByRecursion Aims es → AllKeep (aims ss os) done es (done ++ es)
  aims-told done [] say = subst (AllKeep (aims ss os) done []) (sym (append-nil done)) (NoEntry done)
  aims-told done (o ∷ es) say =
      Entry done o es (done ++ o ∷ es) (say.0, tt)
      (subst (AllKeep (aims ss os) (done ++ o ∷ []) es) (append_assoc done (o ∷ []) es) (aims-told (done ++ o ∷ []) es say.1))

module _ (os : List ObjectEntry) where
  serving-say : (done es all : List ServerEntry) → AllKeep (serving os) done es all → EachAfter (MayServe os) done es
  serving-say done _ _ (NoEntry _) = tt
  serving-say done _ all (Entry _ v more _ asked rest) = (asked.0, serving-say (done ++ v ∷ []) more all rest)

  serving-told : (done es : List ServerEntry) → EachAfter (MayServe os) done es → AllKeep (serving os) done es (done ++ es)
  serving-told done [] say = subst (AllKeep (serving os) done []) (sym (append-nil done)) (NoEntry done)
  serving-told done (v ∷ es) say =
      Entry done v es (done ++ v ∷ es) (say.0, tt)
      (subst (AllKeep (serving os) (done ++ v ∷ []) es) (append_assoc done (v ∷ []) es) (serving-told (done ++ v ∷ []) es say.1))

scenario-same : (s : Scenario) (b w : ℕ) → b ≡ s.budget → w ≡ s.workers → (record {
  budget = b;
  workers = w;
  programs = s.programs;
  spaces = s.spaces;
  objects = s.objects;
  servers = s.servers;
  jobs = s.jobs;
}) ≡ s
scenario-same s b w p q = rw (p, q) refl

module _ (rules : List (List ℕ × Rule)) (ms : Members) where
  -- ---- what is read is said

  scenario_from : Said → List JobSpec → Scenario
  scenario_from r js = record {
    budget = number (budget ms);
    workers = number (workers ms);
    programs = r.programs;
    spaces = r.spaces;
    objects = r.objects;
    servers = r.servers;
    jobs = js;
  }

  round-is-said : (r : Said) (js : List JobSpec) (aimed : List ObjectEntry) (served : List ServerEntry) → SaysRound rules ms r →
      AllKeep (aims r.spaces r.objects) [] r.objects aimed → AllKeep (serving r.objects) [] r.servers served →
      AllKeep (work r.spaces r.servers) [] r.jobs js → Says rules ms (scenario_from r js)
  unfolding top_asks scenario_from
  round-is-said r js aimed served say aims_keep serving_keep work_keep =
      let (keys, (b_is, (w_is, (ps_are, (ss_are, (os_are, (vs_are, (js_are, (b_in, (w_in, _)))))))))) = say.places.top in
      record {
        keys = keys;
        budget = number-at (codes "budget") ms 1 1000000 b_is b_in;
        workers = number-else (codes "workers") ms 1 8 1 w_is w_in;
        programs = (
          program_entries rules ms,
          members-or (codes "programs") ms ps_are,
          all-say asked.programs SaysProgram program-says (program_entries rules ms) r.programs say.places.programs_keep,
        );
        spaces = (
          entries (codes "space") ms,
          values-or (codes "space") ms ss_are,
          all-say (asked.spaces r.programs) (λ before. OfTable (SaysSpace r.programs before)) (space-says r.programs) (entries (codes "space") ms) r.spaces
              say.places.spaces_keep,
        );
        objects = (
          entries (codes "object") ms,
          values-or (codes "object") ms os_are,
          all-say (objects r.spaces) (λ before. OfTable (SaysObject r.spaces before)) (object-says r.spaces) (entries (codes "object") ms) r.objects
              say.places.objects_keep,
        );
        aims = All-from_recursion (Aims r.spaces r.objects) r.objects (aims-say r.spaces r.objects [] r.objects aimed aims_keep);
        servers = (
          entries (codes "server") ms,
          values-or (codes "server") ms vs_are,
          all-say (asked.servers rules) (λ before. OfTable (SaysServer rules before)) (server-says rules) (entries (codes "server") ms) r.servers
              say.servers_keep,
        );
        serving = serving-say r.objects [] r.servers served serving_keep;
        jobs = (
          r.jobs,
          (
            entries (codes "job") ms,
            values-or (codes "job") ms js_are,
            all-say asked.jobs (λ before. OfTable (SaysJob before)) job-says (entries (codes "job") ms) r.jobs say.jobs_keep,
          ),
          all-say (work r.spaces r.servers) (IsJobOf r.spaces r.servers) (work-says r.spaces r.servers) r.jobs js work_keep,
        );
      }

  second-is-said : (r : Said) (s : Scenario) → SaysRound rules ms r → second (number (budget ms)) (number (workers ms)) r ≡ Ok s → Says rules ms s
  unfolding second_round scenario_from
  second-is-said r s say is =
      after (aims_from r.spaces r.objects 0 r.objects) _ s is (λ _ are_aimed is.
      after (serving_from r.objects [] [] r.servers) _ s is (λ _ are_served is.
      after (jobs_from r.spaces r.servers [] r.jobs) _ s is (λ js are_js is.
      good-of _ (sym (aims-same r.spaces r.objects [] r.objects 0 refl) ∙ are_aimed) (λ aimed reads_aims.
      good-of _ (sym (serving-same r.objects [] r.servers [] [] refl refl) ∙ are_served) (λ served reads_serving.
      let same : scenario_from r js ≡ s = cc in
      subst (Says rules ms) same (round-is-said r js aimed served say (read_keeps 4 (aims r.spaces r.objects) [] r.objects aimed reads_aims)
      (read_keeps 5 (serving r.objects) [] r.servers served reads_serving)
      (read_keeps 6 (work r.spaces r.servers) [] r.jobs js (sym (work-read r.spaces r.servers [] r.jobs) ∙ are_js))))))))

  document-is-said : (s : Scenario) → scenario_of rules ms ≡ Ok s → Says rules ms s
  unfolding scenario_of sections_in top_in
  document-is-said s is =
      after (placed 1 0 (top_of ms)) _ s is (λ top is_top is.
      let (keeps, same) = kept (top_asks ms) (top_in ms) top (sym (top-read ms) ∙ placed-Ok 1 0 _ top is_top) in
      let rest : rounds rules (top_in ms) ≡ Ok s = subst (λ (t : Top). rounds rules t ≡ Ok s) (sym same) is in
      after (first_round rules (sections_in ms)) _ s rest (λ r is_r rest. second-is-said _ s (round-says rules ms r keeps is_r) rest))

  -- ---- what is said is read

  -- the entries of a section, as they are asked
  section-kept : {X : Type 0} (key : List ℕ) (section : Section Data X) (SaysOne : List X → Members → X → Type 0) →
      ((done : List X) (value : Data) (x : X) → OfTable (SaysOne done) value x → AreKept (section.asks done value) × (section.says done value ≡ x)) →
      (xs : List X) → SectionSays SaysOne key ms xs → (may_have told.is_array key ms ≡ true) × AllKeep section [] (entries key ms) xs
  section-kept key section SaysOne one xs (es, at, say) =
      let (is, same) = values-or-told key ms es at in
      (is, subst (λ (es : List Data). AllKeep section [] es xs) (sym same) (section-told section (λ before. OfTable (SaysOne before)) one [] es xs say))

  pub said-document : (s : Scenario) → Says rules ms s → scenario_of rules ms ≡ Ok s
  unfolding scenario_of second_round sections_in top_in top_asks
  said-document s say =
      let (b_is, b_in, b_same) = number-at-told (codes "budget") ms 1 1000000 s.budget say.budget in
      let (w_is, w_in, w_same) = number-else-told (codes "workers") ms 1 8 1 refl s.workers say.workers in
      let (es, at, programs_say) = say.programs in
      let (ps_are, ps_same) = members-or-told (codes "programs") ms es at in
      let programs_keep = subst (λ (es : List (List ℕ × Data)). AllKeep asked.programs [] es s.programs) (sym ps_same)
      (section-told asked.programs SaysProgram program-told [] es s.programs programs_say) in
      let (ss_are, spaces_keep) = section-kept (codes "space") (asked.spaces s.programs) (SaysSpace s.programs) (space-told s.programs) s.spaces say.spaces in
      let (os_are, objects_keep) = section-kept (codes "object") (objects s.spaces) (SaysObject s.spaces) (object-told s.spaces) s.objects say.objects in
      let (vs_are, servers_keep) = section-kept (codes "server") (asked.servers rules) (SaysServer rules) (server-told rules) s.servers say.servers in
      let (wanted, entries_say, jobs_say) = say.jobs in
      let (js_are, jobs_keep) = section-kept (codes "job") asked.jobs SaysJob job-told wanted entries_say in
      let work_keep = section-told (work s.spaces s.servers) (IsJobOf s.spaces s.servers) (work-told s.spaces s.servers) [] wanted s.jobs jobs_say in
      let top : AreKept (top_asks ms) =
      (say.keys, (b_is, (w_is, (ps_are, (ss_are, (os_are, (vs_are, (js_are, (b_in, (w_in, tt)))))))))) in
      let r : Said = record { programs = s.programs; spaces = s.spaces; objects = s.objects; servers = s.servers; jobs = wanted } in
      let round : SaysRound rules ms r = record {
        places = record { top = top; programs_keep = programs_keep; spaces_keep = spaces_keep; objects_keep = objects_keep };
        servers_keep = servers_keep;
        jobs_keep = jobs_keep;
      } in
      then-right (placed 1 0 (top_of ms)) _ (top_in ms) _ (ap (placed 1 0) (top-read ms ∙ read_kept (top_asks ms) (top_in ms) top))
      (then-right (first_round rules (sections_in ms)) _ _ _ (good-round rules ms r round)
      (then-right (aims_from s.spaces s.objects 0 s.objects) _ tt _
      (good-aims rules ms r s.objects (aims-told s.spaces s.objects [] s.objects (recursion_from_All (Aims s.spaces s.objects) s.objects say.aims)))
      (then-right (serving_from s.objects [] [] s.servers) _ tt _ (good-serving rules ms r s.servers (serving-told s.objects [] s.servers say.serving))
      (then-right (jobs_from s.spaces s.servers [] wanted) _ s.jobs _
      (work-read s.spaces s.servers [] wanted ∙ keep_reads 6 (work s.spaces s.servers) [] wanted s.jobs work_keep)
      (ap Ok (scenario-same s (number (budget ms)) (number (workers ms)) b_same w_same))))))

-- ---- of bytes

pub scenarios_said : ScenariosAreSaid
unfolding scenario_reading
scenarios_said rules bytes s = (by (tree_of bytes) refl, λ (say : BytesSay rules bytes s). back say.0 say.1 say.2)
  where
    by : (o : Option Members) → tree_of bytes ≡ o → scenario_in rules o ≡ Ok s → BytesSay rules bytes s
    by None at is = absurd (cc)
    by (Some ms) at is = (ms, at, document-is-said rules ms s is)

    back : (ms : Members) → tree_of bytes ≡ Some ms → Says rules ms s → scenario_in rules (tree_of bytes) ≡ Ok s
    back ms at say = ap (scenario_in rules) at ∙ said-document rules ms s say
