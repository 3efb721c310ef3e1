-- Documents: the refusal that is told of one is its first, and its first is told.
use Rattle.std.proofs.Common.{◌≡◌, ℕ, ◌+◌, Bool, true, false, List, [], ◌∷◌, ◌++◌, map, flat_map, length, unwrap_or, Result, Ok, Err, codes, refl, sym, ap}
use Rattle.std.proofs.Common.{subst, ◌∙◌, arith}
use Rattle.std.proofs.lemmas.List.{length-append, length-map, map-append, append-nil}
use Rattle.std.proofs.lemmas.Grind.{flat_map-append}
use Rattle.toml.specs.Data.{no_items, Members, no_members}
use Rattle.fk_model.specs.declared.moves.Rule.{Rule}
use Rattle.fk_model.specs.declared.job.JobSpec.{JobSpec}
use Rattle.fk_scenario.specs.declared.fields.fail.ScenarioError.{ScenarioError}
use Rattle.fk_scenario.specs.Fields.Gives.{◌>>=◌, unless, placed}
use Rattle.fk_scenario.proofs.InFields.Steps.{after, placed-Ok}
use Rattle.fk_scenario.specs.declared.entries.types.Program.{Program}
use Rattle.fk_scenario.specs.declared.entries.types.SpaceEntry.{SpaceEntry}
use Rattle.fk_scenario.specs.declared.entries.types.ObjectEntry.{ObjectEntry}
use Rattle.fk_scenario.specs.declared.entries.types.ServerEntry.{ServerEntry}
use Rattle.fk_scenario.specs.declared.entries.jobs.JobEntry.{JobEntry}
use Rattle.fk_scenario.specs.Sections.Programs.{programs_from}
use Rattle.fk_scenario.specs.Sections.Spaces.{spaces_from}
use Rattle.fk_scenario.specs.Sections.Objects.{objects_from}
use Rattle.fk_scenario.specs.Sections.Servers.{servers_from}
use Rattle.fk_scenario.specs.Sections.Jobs.{entries_from}
use Rattle.fk_scenario.specs.declared.scenario.scenario.Scenario.{Scenario}
use Rattle.fk_scenario.specs.Scenario.Aims.{aims_from, aims_well, entry_space}
use Rattle.fk_scenario.specs.Scenario.Servers.{serving_from, may_serve, alias_of}
use Rattle.fk_scenario.specs.Scenario.Jobs.{job_after, jobs_from, nester_from, first_number}
use Rattle.fk_scenario.specs.Scenario.Reading.{Sections, sections_of, Top, top_of, places_of, first_round, second_round, scenario_of}
use Rattle.laws_scenario_faults.specs.Asked.{AreKept, AllKeep}
use Rattle.laws_scenario_faults.specs.Tables.{table, array, entries, number}
use Rattle.laws_scenario_faults.specs.Entries.{top_asks, budget, workers, programs, spaces, servers, jobs}
use Rattle.laws_scenario_faults.specs.Objects.{objects}
use Rattle.laws_scenario_faults.specs.Refusals.{Said, aims, serving, work, program_entries, SaysPlaces, SaysRound, Refuses, RefusalsAreFirst, BreaksAreTold}
use Rattle.laws_scenario_faults.specs.Refusals.Refuses.{OfTop, OfProgram, OfSpace, OfObject, OfServer, OfJob, OfAim, OfServing, OfDone}
use Rattle.laws_scenario_faults.proofs.Rules.{by_rules, ends, tested, seq, ask, kept, told, read_kept, top_first, read, read_breaks, read_keeps, keep_reads}
use Rattle.laws_scenario_faults.proofs.Rules.{break_reads}
use Rattle.laws_scenario_faults.proofs.Fields.{or-read, known-read, integer-read, array-read, table-read, needed-integer-read, ranged-read}
use Rattle.laws_scenario_faults.proofs.Entries.{step, programs-read, spaces-read, servers-read, jobs-read}
use Rattle.laws_scenario_faults.proofs.Objects.{objects-read}

-- a reading of two steps that is refused: at the first or at the second
split : {A B E C : Type 0} (r : Result A E) (f : A → Result B E) (e : E) → (r >>= f) ≡ Err e → (r ≡ Err e → C) → ((x : A) → r ≡ Ok x → f x ≡ Err e → C) → C
split (Ok x) f e is bad more = more x refl is
split (Err e2) f e is bad more = let same : e2 ≡ e = cc in bad (ap Err same)

-- what the second step comes to, where the first one was right
pub then-right : {A B E : Type 0} (r : Result A E) (f : A → Result B E) (x : A) (q : Result B E) → r ≡ Ok x → f x ≡ q → (r >>= f) ≡ q
then-right r f x q is same = rw is same

then-bad : {A B E : Type 0} (r : Result A E) (f : A → Result B E) (e : E) → r ≡ Err e → (r >>= f) ≡ Err e
then-bad r f e is = rw is refl

-- ---- the top keys

unfoldable pub sections_in : Members → Sections
sections_in ms = record {
  programs = unwrap_or (table (codes "programs") ms) no_members;
  spaces = unwrap_or (array (codes "space") ms) no_items;
  objects = unwrap_or (array (codes "object") ms) no_items;
  servers = unwrap_or (array (codes "server") ms) no_items;
  jobs = unwrap_or (array (codes "job") ms) no_items;
}

unfoldable pub top_in : Members → Top
top_in ms = record { budget = number (budget ms); workers = number (workers ms); sections = sections_in ms }

pub top-read : (ms : Members) → top_of ms ≡ by_rules (top_asks ms) (top_in ms)
unfolding top_of sections_of top_asks top_in sections_in
top-read ms =
    ask _ _ _ (top_in ms) _ (known-read _ ms) (ask _ _ _ (top_in ms) _ (needed-integer-read _ ms)
    (ask _ _ _ (top_in ms) _ (integer-read _ ms) (seq _ _ (sections_in ms) (top_in ms) _ _
    (ask _ _ _ _ _ (table-read _ ms) (ask _ _ _ _ _ (array-read _ ms)
    (ask _ _ _ _ _ (array-read _ ms) (ask _ _ _ _ _ (array-read _ ms) (ask _ _ _ _ _ (array-read _ ms) ends)))))
    (ask _ _ _ _ _ (ranged-read 1 1000000 (budget ms)) (ask _ _ _ _ _ (ranged-read 1 8 (workers ms)) ends)))))

-- ---- the second round

pub work-read : (ss : List SpaceEntry) (vs : List ServerEntry) (done : List JobSpec) (js : List JobEntry) →
    jobs_from ss vs done js ≡ read 6 (work ss vs) done js
unfolding jobs_from job_after read
work-read ss vs done [] = refl
work-read ss vs done (j ∷ js) =
    step _ _ _ _ (ap (placed 6 (length done)) (ask _ _ _ _ _ (or-read 10 (nester_from (first_number ss) ss j.nester) 0) (ask _ _ _ _ _ (tested _ _) ends)))
    (λ x. work-read ss vs (done ++ x ∷ []) js)

-- aims and servers answer nothing: what their readings are without what they say
abbrev pub nothing : {A : Type 0} → Result A ScenarioError → Result (Unit {0}) ScenarioError
nothing (Ok x) = Ok tt
nothing (Err e) = Err e

pub aims-same : (ss : List SpaceEntry) (os done more : List ObjectEntry) (index : ℕ) → index ≡ length done →
    aims_from ss os index more ≡ nothing (read 4 (aims ss os) done more)
unfolding aims_from read by_rules
aims-same ss os done [] index at = refl
aims-same ss os done (o ∷ more) index at =
    by (aims_well ss os (entry_space o) o.spec) (aims-same ss os (done ++ o ∷ []) more (index + 1) (omega (arith, at, length-append done (o ∷ []))))
  where
    by : (t : Bool) → aims_from ss os (index + 1) more ≡ nothing (read 4 (aims ss os) (done ++ o ∷ []) more) →
        (placed 4 index (unless 7 t) >>= λ _. aims_from ss os (index + 1) more)
        ≡ nothing (placed 4 (length done) (by_rules ((7, t) ∷ []) o) >>= λ x. read 4 (aims ss os) (done ++ x ∷ []) more)
    by true others = others
    by false others = ap (λ n. Err (record { rule = 7; section = 4; index = n })) at

pub serving-same : (os : List ObjectEntry) (done more : List ServerEntry) (ports aliases : List (List ℕ)) → ports ≡ map (λ s. s.port) done →
    aliases ≡ flat_map (λ s. alias_of s.service) done → serving_from os ports aliases more ≡ nothing (read 5 (serving os) done more)
unfolding serving_from read by_rules
serving-same os done [] ports aliases at at2 = refl
serving-same os done (s ∷ more) ports aliases at at2 =
    rw (at, at2) (by (may_serve os (map (λ s. s.port) done) (flat_map (λ s. alias_of s.service) done) s)
    (serving-same os (done ++ s ∷ []) more _ _ (sym (map-append (λ s. s.port) done (s ∷ [])))
    (sym (flat_map-append (λ s. alias_of s.service) done (s ∷ [])
    ∙ ap (λ xs. flat_map (λ s. alias_of s.service) done ++ xs) (append-nil (alias_of s.service))))))
  where
    by : (t : Bool) → serving_from os (map (λ s. s.port) done ++ s.port ∷ []) (flat_map (λ s. alias_of s.service) done ++ alias_of s.service) more
        ≡ nothing (read 5 (serving os) (done ++ s ∷ []) more) →
        (placed 5 (length (map (λ s. s.port) done)) (unless 9 t) >>= λ _. serving_from os (map (λ s. s.port) done ++ s.port ∷ [])
        (flat_map (λ s. alias_of s.service) done ++ alias_of s.service) more)
        ≡ nothing (placed 5 (length done) (by_rules ((9, t) ∷ []) s) >>= λ x. read 5 (serving os) (done ++ x ∷ []) more)
    by true others = others
    by false others = ap (λ n. Err (record { rule = 9; section = 5; index = n })) (length-map done (λ s. s.port))

bad-of : {A : Type 0} (r : Result A ScenarioError) (e : ScenarioError) → nothing r ≡ Err e → r ≡ Err e
bad-of (Ok x) e is = absurd (cc)
bad-of (Err e2) e is = let same : e2 ≡ e = cc in ap Err same

pub good-of : {A C : Type 0} (r : Result A ScenarioError) → nothing r ≡ Ok tt → ((x : A) → r ≡ Ok x → C) → C
good-of (Ok x) is follows = follows x refl
good-of (Err e) is follows = absurd (cc)

-- what is left of the reading behind the first round of what all sections say
abbrev pub second : ℕ → ℕ → Said → Result Scenario ScenarioError
second budget workers r =
    second_round budget workers (record { programs = r.programs; spaces = r.spaces; objects = r.objects; servers = r.servers; jobs = r.jobs })

-- ---- a refusal that is told is the first one

module _ (rules : List (List ℕ × Rule)) (ms : Members) where
  -- a refusal with its section, its index and its rule
  place_of : (e : ScenarioError) (section : ℕ) → e ≡ record { rule = e.rule; section = section; index = e.index } →
      Refuses rules ms (record { rule = e.rule; section = section; index = e.index }) → Refuses rules ms e
  place_of e section same refuses = subst (Refuses rules ms) (sym same) refuses

  of_places : (e : ScenarioError) → AreKept (top_asks ms) → places_of (sections_in ms) ≡ Err e → Refuses rules ms e
  unfolding places_of sections_in
  of_places e top is =
      split (programs_from [] (unwrap_or (table (codes "programs") ms) no_members)) _ e is
      (λ bad. let broken = read_breaks 2 programs [] _ e (sym (programs-read [] _) ∙ bad) in
      place_of e 2 broken.1 (OfProgram e.index e.rule top broken.0))
      (λ ps are_ps is. let ps_keep = read_keeps 2 programs [] _ ps (sym (programs-read [] _) ∙ are_ps) in
      split (spaces_from ps [] (unwrap_or (array (codes "space") ms) no_items)) _ e is
      (λ bad. let broken = read_breaks 3 (spaces ps) [] _ e (sym (spaces-read ps [] _) ∙ bad) in
      place_of e 3 broken.1 (OfSpace ps e.index e.rule top ps_keep broken.0))
      (λ ss are_ss is. let ss_keep = read_keeps 3 (spaces ps) [] _ ss (sym (spaces-read ps [] _) ∙ are_ss) in
      split (objects_from ss [] (unwrap_or (array (codes "object") ms) no_items)) _ e is
      (λ bad. let broken = read_breaks 4 (objects ss) [] _ e (sym (objects-read ss [] _) ∙ bad) in
      place_of e 4 broken.1 (OfObject ps ss e.index e.rule top ps_keep ss_keep broken.0))
      (λ os are_os is. absurd (cc))))

  places-say : (places : _) → AreKept (top_asks ms) → places_of (sections_in ms) ≡ Ok places →
      SaysPlaces rules ms places.programs places.spaces places.objects
  unfolding places_of sections_in
  places-say places top is =
      after (programs_from [] (unwrap_or (table (codes "programs") ms) no_members)) _ places is (λ ps are_ps is.
      after (spaces_from ps [] (unwrap_or (array (codes "space") ms) no_items)) _ places is (λ ss are_ss is.
      after (objects_from ss [] (unwrap_or (array (codes "object") ms) no_items)) _ places is (λ os are_os is.
      let same : places ≡ record { programs = ps; spaces = ss; objects = os } = cc in
      rw same (record {
        top = top;
        programs_keep = read_keeps 2 programs [] _ ps (sym (programs-read [] _) ∙ are_ps);
        spaces_keep = read_keeps 3 (spaces ps) [] _ ss (sym (spaces-read ps [] _) ∙ are_ss);
        objects_keep = read_keeps 4 (objects ss) [] _ os (sym (objects-read ss [] _) ∙ are_os);
      }))))

  of_round : (e : ScenarioError) → AreKept (top_asks ms) → first_round rules (sections_in ms) ≡ Err e → Refuses rules ms e
  unfolding first_round sections_in
  of_round e top is =
      split (places_of (sections_in ms)) _ e is (λ bad. of_places e top bad)
      (λ places are_places is. let say = places-say places top are_places in
      split (servers_from rules [] (unwrap_or (array (codes "server") ms) no_items)) _ e is
      (λ bad. let broken = read_breaks 5 (servers rules) [] _ e (sym (servers-read rules [] _) ∙ bad) in
      place_of e 5 broken.1 (OfServer _ _ _ e.index e.rule say broken.0))
      (λ vs are_vs is. let vs_keep = read_keeps 5 (servers rules) [] _ vs (sym (servers-read rules [] _) ∙ are_vs) in
      split (entries_from [] (unwrap_or (array (codes "job") ms) no_items)) _ e is
      (λ bad. let broken = read_breaks 6 jobs [] _ e (sym (jobs-read [] _) ∙ bad) in
      place_of e 6 broken.1 (OfJob _ _ _ vs e.index e.rule say vs_keep broken.0))
      (λ js are_js is. absurd (cc))))

  pub round-says : (r : _) → AreKept (top_asks ms) → first_round rules (sections_in ms) ≡ Ok r →
      SaysRound rules ms (record { programs = r.programs; spaces = r.spaces; objects = r.objects; servers = r.servers; jobs = r.jobs })
  unfolding first_round sections_in
  round-says r top is =
      after (places_of (sections_in ms)) _ r is (λ places are_places is.
      after (servers_from rules [] (unwrap_or (array (codes "server") ms) no_items)) _ r is (λ vs are_vs is.
      after (entries_from [] (unwrap_or (array (codes "job") ms) no_items)) _ r is (λ js are_js is.
      let same : r ≡ record { programs = places.programs; spaces = places.spaces; objects = places.objects; servers = vs; jobs = js } = cc in
      rw same (record {
        places = places-say places top are_places;
        servers_keep = read_keeps 5 (servers rules) [] _ vs (sym (servers-read rules [] _) ∙ are_vs);
        jobs_keep = read_keeps 6 jobs [] _ js (sym (jobs-read [] _) ∙ are_js);
      }))))

  of_second : (b w : ℕ) (r : Said) (e : ScenarioError) → SaysRound rules ms r → second b w r ≡ Err e
      → Refuses rules ms e
  unfolding second_round
  of_second b w r e say is =
      split (aims_from r.spaces r.objects 0 r.objects) _ e is
      (λ bad. let broken = read_breaks 4 (aims r.spaces r.objects) [] r.objects e
      (bad-of _ e (sym (aims-same r.spaces r.objects [] r.objects 0 refl) ∙ bad)) in
      place_of e 4 broken.1 (OfAim r e.index e.rule say broken.0))
      (λ done are_aimed is. good-of _ (sym (aims-same r.spaces r.objects [] r.objects 0 refl) ∙ are_aimed) (λ aimed reads_aims.
      let aims_keep = read_keeps 4 (aims r.spaces r.objects) [] r.objects aimed reads_aims in
      split (serving_from r.objects [] [] r.servers) _ e is
      (λ bad. let broken = read_breaks 5 (serving r.objects) [] r.servers e (bad-of _ e (sym (serving-same r.objects [] r.servers [] [] refl refl) ∙ bad)) in
      place_of e 5 broken.1 (OfServing r aimed e.index e.rule say aims_keep broken.0))
      (λ done are_served is. good-of _ (sym (serving-same r.objects [] r.servers [] [] refl refl) ∙ are_served) (λ served reads_serving.
      let serving_keep = read_keeps 5 (serving r.objects) [] r.servers served reads_serving in
      split (jobs_from r.spaces r.servers [] r.jobs) _ e is
      (λ bad. let broken = read_breaks 6 (work r.spaces r.servers) [] r.jobs e (sym (work-read r.spaces r.servers [] r.jobs) ∙ bad) in
      place_of e 6 broken.1 (OfDone r aimed served e.index e.rule say aims_keep serving_keep broken.0))
      (λ js are_js is. absurd (cc))))))

-- the rounds
abbrev pub rounds : List (List ℕ × Rule) → Top → Result Scenario ScenarioError
rounds rules top =
    first_round rules top.sections >>= λ round. second_round top.budget top.workers round

pub refusals_first : RefusalsAreFirst
unfolding scenario_of sections_in top_in
refusals_first rules ms e is =
    split (placed 1 0 (top_of ms)) _ e is
    (λ bad. let (breaks, same) = top_first (top_asks ms) (top_in ms) 1 0 e (sym (ap (placed 1 0) (top-read ms)) ∙ bad) in
    subst (Refuses rules ms) (sym same) (OfTop e.rule breaks))
    (λ top is_top is. let (keeps, same) = kept (top_asks ms) (top_in ms) top (sym (top-read ms) ∙ placed-Ok 1 0 _ top is_top) in
    let rest : rounds rules (top_in ms) ≡ Err e = subst (λ (t : Top). rounds rules t ≡ Err e) (sym same) is in
    split (first_round rules (sections_in ms)) _ e rest (λ bad. of_round rules ms e keeps bad)
    (λ r is_r rest. of_second rules ms (top_in ms).budget (top_in ms).workers _ e (round-says rules ms r keeps is_r) rest))

-- ---- and what is first is told

module _ (rules : List (List ℕ × Rule)) (ms : Members) where
  good-programs : (ps : List Program) → AllKeep programs [] (program_entries rules ms) ps →
      programs_from [] (unwrap_or (table (codes "programs") ms) no_members) ≡ Ok ps
  good-programs ps keep = programs-read [] _ ∙ keep_reads 2 programs [] _ ps keep

  good-spaces : (ps : List Program) (ss : List SpaceEntry) → AllKeep (spaces ps) [] (entries (codes "space") ms) ss →
      spaces_from ps [] (unwrap_or (array (codes "space") ms) no_items) ≡ Ok ss
  good-spaces ps ss keep = spaces-read ps [] _ ∙ keep_reads 3 (spaces ps) [] _ ss keep

  good-objects : (ss : List SpaceEntry) (os : List ObjectEntry) → AllKeep (objects ss) [] (entries (codes "object") ms) os →
      objects_from ss [] (unwrap_or (array (codes "object") ms) no_items) ≡ Ok os
  good-objects ss os keep = objects-read ss [] _ ∙ keep_reads 4 (objects ss) [] _ os keep

  good-servers : (vs : List ServerEntry) → AllKeep (servers rules) [] (entries (codes "server") ms) vs →
      servers_from rules [] (unwrap_or (array (codes "server") ms) no_items) ≡ Ok vs
  good-servers vs keep = servers-read rules [] _ ∙ keep_reads 5 (servers rules) [] _ vs keep

  good-jobs : (js : List JobEntry) → AllKeep jobs [] (entries (codes "job") ms) js → entries_from [] (unwrap_or (array (codes "job") ms) no_items) ≡ Ok js
  good-jobs js keep = jobs-read [] _ ∙ keep_reads 6 jobs [] _ js keep

  good-places : (ps : List Program) (ss : List SpaceEntry) (os : List ObjectEntry) → SaysPlaces rules ms ps ss os →
      places_of (sections_in ms) ≡ Ok (record { programs = ps; spaces = ss; objects = os })
  unfolding places_of sections_in
  good-places ps ss os say =
      then-right (programs_from [] _) _ ps _ (good-programs ps say.programs_keep) (then-right (spaces_from ps [] _) _ ss _ (good-spaces ps ss say.spaces_keep)
      (then-right (objects_from ss [] _) _ os _ (good-objects ss os say.objects_keep) refl))

  pub good-round : (r : Said) → SaysRound rules ms r → first_round rules (sections_in ms)
      ≡ Ok (record { programs = r.programs; spaces = r.spaces; objects = r.objects; servers = r.servers; jobs = r.jobs })
  unfolding first_round sections_in
  good-round r say =
      then-right (places_of (sections_in ms)) _ _ _ (good-places r.programs r.spaces r.objects say.places)
      (then-right (servers_from rules [] _) _ r.servers _ (good-servers r.servers say.servers_keep)
      (then-right (entries_from [] _) _ r.jobs _ (good-jobs r.jobs say.jobs_keep) refl))

  -- what the rounds refuse is refused where the top keys are kept
  after-top : (e : ScenarioError) → AreKept (top_asks ms) →
      rounds rules (top_in ms) ≡ Err e → scenario_of rules ms ≡ Err e
  unfolding scenario_of sections_in top_in
  after-top e top bad =
      then-right (placed 1 0 (top_of ms)) _ (top_in ms) _ (ap (placed 1 0) (top-read ms ∙ read_kept (top_asks ms) (top_in ms) top)) bad

  bad-round : (e : ScenarioError) → AreKept (top_asks ms) → first_round rules (sections_in ms) ≡ Err e → scenario_of rules ms ≡ Err e
  unfolding sections_in top_in
  bad-round e top bad = after-top e top (then-bad (first_round rules (sections_in ms)) _ e bad)

  bad-places : (e : ScenarioError) → AreKept (top_asks ms) → places_of (sections_in ms) ≡ Err e → scenario_of rules ms ≡ Err e
  unfolding first_round
  bad-places e top bad = bad-round e top (then-bad (places_of (sections_in ms)) _ e bad)

  bad-second : (r : Said) (e : ScenarioError) → SaysRound rules ms r → second (top_in ms).budget (top_in ms).workers r ≡ Err e →
      scenario_of rules ms ≡ Err e
  unfolding sections_in top_in
  bad-second r e say bad = after-top e say.places.top (then-right (first_round rules (sections_in ms)) _ _ _ (good-round r say) bad)

  pub good-aims : (r : Said) (aimed : List ObjectEntry) → AllKeep (aims r.spaces r.objects) [] r.objects aimed →
      aims_from r.spaces r.objects 0 r.objects ≡ Ok tt
  good-aims r aimed keep = aims-same r.spaces r.objects [] r.objects 0 refl ∙ ap nothing (keep_reads 4 (aims r.spaces r.objects) [] r.objects aimed keep)

  pub good-serving : (r : Said) (served : List ServerEntry) → AllKeep (serving r.objects) [] r.servers served → serving_from r.objects [] [] r.servers ≡ Ok tt
  good-serving r served keep =
      serving-same r.objects [] r.servers [] [] refl refl ∙ ap nothing (keep_reads 5 (serving r.objects) [] r.servers served keep)

  refused : (e : ScenarioError) → Refuses rules ms e → scenario_of rules ms ≡ Err e
  unfolding scenario_of places_of first_round second_round sections_in
  refused e (OfTop rule breaks) =
      then-bad (placed 1 0 (top_of ms)) _ _ (ap (placed 1 0) (top-read ms ∙ told (top_asks ms) (top_in ms) rule breaks))
  refused e (OfProgram index rule top breaks) =
      bad-places _ top (then-bad (programs_from [] _) _ _ (programs-read [] _ ∙ break_reads 2 programs [] _ index rule breaks))
  refused e (OfSpace ps index rule top keep breaks) =
      bad-places _ top (then-right (programs_from [] _) _ ps _ (good-programs ps keep)
      (then-bad (spaces_from ps [] _) _ _ (spaces-read ps [] _ ∙ break_reads 3 (spaces ps) [] _ index rule breaks)))
  refused e (OfObject ps ss index rule top keep keep2 breaks) =
      bad-places _ top (then-right (programs_from [] _) _ ps _ (good-programs ps keep) (then-right (spaces_from ps [] _) _ ss _ (good-spaces ps ss keep2)
      (then-bad (objects_from ss [] _) _ _ (objects-read ss [] _ ∙ break_reads 4 (objects ss) [] _ index rule breaks))))
  refused e (OfServer ps ss os index rule say breaks) =
      bad-round _ say.top (then-right (places_of (sections_in ms)) _ _ _ (good-places ps ss os say)
      (then-bad (servers_from rules [] _) _ _ (servers-read rules [] _ ∙ break_reads 5 (servers rules) [] _ index rule breaks)))
  refused e (OfJob ps ss os vs index rule say keep breaks) =
      bad-round _ say.top (then-right (places_of (sections_in ms)) _ _ _ (good-places ps ss os say)
      (then-right (servers_from rules [] _) _ vs _ (good-servers vs keep)
      (then-bad (entries_from [] _) _ _ (jobs-read [] _ ∙ break_reads 6 jobs [] _ index rule breaks))))
  refused e (OfAim r index rule say breaks) =
      bad-second r _ say (then-bad (aims_from r.spaces r.objects 0 r.objects) _ _ (aims-same r.spaces r.objects [] r.objects 0 refl
      ∙ ap nothing (break_reads 4 (aims r.spaces r.objects) [] r.objects index rule breaks)))
  refused e (OfServing r aimed index rule say keep breaks) =
      bad-second r _ say (then-right (aims_from r.spaces r.objects 0 r.objects) _ tt _ (good-aims r aimed keep)
      (then-bad (serving_from r.objects [] [] r.servers) _ _ (serving-same r.objects [] r.servers [] [] refl refl
      ∙ ap nothing (break_reads 5 (serving r.objects) [] r.servers index rule breaks))))
  refused e (OfDone r aimed served index rule say keep keep2 breaks) =
      bad-second r _ say (then-right (aims_from r.spaces r.objects 0 r.objects) _ tt _ (good-aims r aimed keep)
      (then-right (serving_from r.objects [] [] r.servers) _ tt _ (good-serving r served keep2)
      (then-bad (jobs_from r.spaces r.servers [] r.jobs) _ _ (work-read r.spaces r.servers [] r.jobs
      ∙ break_reads 6 (work r.spaces r.servers) [] r.jobs index rule breaks))))

pub breaks_told : BreaksAreTold
breaks_told rules ms e refuses = refused rules ms e refuses
