-- A scenario begins soundly.
use Rattle.std.proofs.Common.{◌≡◌, ℕ, ◌≤◌, Bool, true, false, not, ◌&&◌, ◌||◌, is_some, List, [], ◌∷◌, ◌++◌, append_assoc, map, filter, reverse, Option}
use Rattle.std.proofs.Common.{◌+◌, if◌then◌else◌, append-nil, length, arith, Some, None, Ok, refl, sym, ap, subst, ◌∙◌}
use Rattle.std.proofs.lemmas.Bool.{and_parts, le-leb}
use Rattle.std.proofs.lemmas.List.{reverse-append}
use Rattle.std.proofs.lemmas.List.Elements.{All-nil, All-cons, All-head, All-tail}
use Rattle.std.proofs.lemmas.Slice.Eq.{bytes_eq-Decides}
use Rattle.std.specs.List.{list_any, All}
use Rattle.std.specs.Str.{bytes_eq}
use Rattle.fk_model.specs.declared.job.JobSpec.{JobSpec}
use Rattle.fk_model.specs.declared.job.JobSpec.TheVariants as specs_of
use Rattle.fk_model.specs.Places.{Path, same_path, strip, is_within, parent}
use Rattle.fk_model.specs.Objects.{holds, is_served}
use Rattle.fk_model.specs.StateRows.{is_native}
use Rattle.fk_model.specs.World.{World}
use Rattle.fk_model.specs.Whole.{IsWhole, IsSavable}
use Rattle.fk_model.specs.Sound.{Errand, are_user_pairs, bind_same, are_apart, names_of, errand_of, is_listed, is_last_of, HasNester, has_users_alone, MayWork, IsSoundStart}
use Rattle.fk_model.proofs.walks.Apart.{apart_push}
use Rattle.fk_model.proofs.walks.PlaceLaws.{same_path_refl, strip_some}
use Rattle.fk_scenario.specs.Fields.Gives.{or_rule, unless, placed}
use Rattle.fk_scenario.specs.Fields.Paths.{enclosing}
use Rattle.fk_scenario.proofs.InFields.Steps.{after, unless-Ok, placed-Ok}
use Rattle.fk_scenario.specs.declared.entries.types.SpaceEntry.{SpaceEntry}
use Rattle.fk_scenario.specs.declared.entries.types.ServerEntry.{ServerEntry}
use Rattle.fk_scenario.specs.declared.entries.jobs.JobEntry.{JobEntry}
use Rattle.fk_scenario.specs.declared.entries.jobs.JobKind.{JobKind}
use Rattle.fk_scenario.specs.declared.entries.jobs.JobKind.TheVariants as kinds
use Rattle.fk_scenario.specs.Entries.Kept.{ArePairs}
use Rattle.fk_scenario.specs.declared.scenario.scenario.Scenario.{Scenario}
use Rattle.fk_scenario.specs.Scenario.Jobs.{first_number, nester_from, is_beneath, has_nester, has_server, makes_image, is_made, subtree_of, may_be_done, job_spec}
use Rattle.fk_scenario.specs.Scenario.Jobs.{job_after, jobs_from}
use Rattle.fk_scenario.specs.Scenario.Kept.{HasSlots, KeepsScenario}
use Rattle.fk_boot.specs.FirstWorld.{served_ports, booted}
use Rattle.fk_boot.specs.Starts.{nesters_of, start_of}
use Rattle.fk_boot.specs.Words.{HasWords}
use Rattle.fk_boot.proofs.Walks.{last}
use Rattle.fk_boot.proofs.validity.Savable.{booted-few, booted-savable, booted-runnable}
use Rattle.fk_boot.proofs.validity.Grounds.{is_porters, is_servers, Ground, booted-ground}
use Rattle.fk_boot.proofs.validity.Staying.{listed_servers, last_porters, booted-apart, booted-porters, booted-served}
use Rattle.fk_boot.proofs.validity.Jobs.{booted_nester, below, IsAsked, all_asked}

-- two truths that follow from one another are the same
both_ways : (a b : Bool) → (a ≡ true → b ≡ true) → (b ≡ true → a ≡ true) → a ≡ b
both_ways true b to from = sym (to refl)
both_ways false true to from = from refl
both_ways false false to from = refl

either_off : (a b : Bool) → a ≡ false → b ≡ false → (a || b) ≡ false
either_off true b e f = e
either_off false b e f = f

first_off : (a b : Bool) → (a || b) ≡ false → a ≡ false
first_off true b h = h
first_off false b h = refl

later_off : (a b : Bool) → (a || b) ≡ false → b ≡ false
later_off true b h = absurd (cc)
later_off false b h = h

-- ---- where a nester is among the spaces

among : (path : List ℕ) (birth n : ℕ) (ss : List SpaceEntry) → nester_from n ss path ≡ Some birth → is_listed (nesters_of ss) (reverse path) ≡ true
unfolding nester_from
among path birth n [] h = absurd (cc)
among path birth n (s ∷ ss) h = by s.nester refl (bytes_eq s.path path) refl h (among path birth (n + 1) ss)
  where
    or_last : (t : Bool) → (t || true) ≡ true
    or_last true = refl
    or_last false = refl

    by : (nests : Bool) → s.nester ≡ nests → (same : Bool) → bytes_eq s.path path ≡ same
        → (if same && nests then Some n else nester_from (n + 1) ss path) ≡ Some birth
        → (nester_from (n + 1) ss path ≡ Some birth → is_listed (nesters_of ss) (reverse path) ≡ true)
        → is_listed (map (λ (t : SpaceEntry). reverse t.path) (if nests then s ∷ filter (λ t. t.nester) ss else filter (λ t. t.nester) ss)) (reverse path) ≡ true
    by true e true f h later =
        let here : s.path ≡ path = (bytes_eq-Decides s.path path).0 f in
        let same : same_path (reverse path) (reverse s.path) ≡ true =
        subst (λ (p : List ℕ). same_path (reverse path) (reverse p) ≡ true) (sym here) (same_path_refl (reverse path)) in
        rw same refl
    by true e false f h later = rw (later h) (or_last (same_path (reverse path) (reverse s.path)))
    by false e true f h later = later h
    by false e false f h later = later h

-- ---- who lies in a subtree

-- what doesn't lie beneath a path by slots from the root down lies in no subtree there
not_within : (subtree x : List ℕ) → is_beneath subtree x ≡ false → is_within (reverse subtree) (reverse x) ≡ false
not_within subtree x out = by (strip (reverse subtree) (reverse x)) refl
  where
    by : (o : Option Path) → strip (reverse subtree) (reverse x) ≡ o → is_some o ≡ false
    by None e = refl
    by (Some q) e =
        let yes = below subtree q x (sym (strip_some (reverse subtree) (reverse x) q e)) in
        let clash = sym yes ∙ out in
        absurd (cc)

pub no_nesters : (subtree : List ℕ) (ss : List SpaceEntry) → has_nester ss subtree ≡ false → list_any (is_within (reverse subtree)) (nesters_of ss) ≡ false
no_nesters subtree [] none = refl
no_nesters subtree (s ∷ ss) none = by s.nester refl none (no_nesters subtree ss)
  where
    by : (nests : Bool) → s.nester ≡ nests → ((nests && is_beneath subtree s.path) || has_nester ss subtree) ≡ false
        → (has_nester ss subtree ≡ false → list_any (is_within (reverse subtree)) (nesters_of ss) ≡ false)
        → list_any (is_within (reverse subtree)) (map (λ (t : SpaceEntry). reverse t.path)
        (if nests then s ∷ filter (λ t. t.nester) ss else filter (λ t. t.nester) ss)) ≡ false
    by true e none later = either_off (is_within (reverse subtree) (reverse s.path)) (list_any (is_within (reverse subtree)) (nesters_of ss))
        (not_within subtree s.path (first_off (is_beneath subtree s.path) (has_nester ss subtree) none))
        (later (later_off (is_beneath subtree s.path) (has_nester ss subtree) none))
    by false e none later = later none

above : (p : List ℕ) → parent (reverse p) ≡ reverse (enclosing p)
above [] = refl
above (k ∷ p) = ap parent (last (k ∷ p) (omega arith))

pub no_servers : (subtree : List ℕ) (ss : List ServerEntry) → has_server ss subtree ≡ false
    → list_any (λ port. is_within (reverse subtree) (parent port)) (map reverse (served_ports ss)) ≡ false
no_servers subtree [] none = refl
no_servers subtree (s ∷ ss) none = either_off (is_within (reverse subtree) (parent (reverse s.port)))
    (list_any (λ port. is_within (reverse subtree) (parent port)) (map reverse (served_ports ss)))
    (subst (λ (x : Path). is_within (reverse subtree) x ≡ false) (sym (above s.port))
    (not_within subtree (enclosing s.port) (first_off (is_beneath subtree (enclosing s.port)) (has_server ss subtree) none)))
    (no_servers subtree ss (later_off (is_beneath subtree (enclosing s.port)) (has_server ss subtree) none))

-- ---- jobs

users_pairs : (pairs : List (ℕ × ℕ)) → ArePairs pairs → are_user_pairs pairs ≡ true
users_pairs [] all = refl
users_pairs (p ∷ ps) all =
    let (a, b) = All-head (λ (p : ℕ × ℕ). (p.0 ≤ 239) × (p.1 ≤ 239)) p ps all in
    rw (le-leb p.0 239 a, le-leb p.1 239 b) (users_pairs ps (All-tail (λ (p : ℕ × ℕ). (p.0 ≤ 239) × (p.1 ≤ 239)) p ps all))

module _ (s : Scenario) (keeps : KeepsScenario s) where
  has_nester_at : (birth : ℕ) (path : List ℕ) → nester_from (first_number s.spaces) s.spaces path ≡ Some birth
      → HasNester (start_of s) birth (Some (reverse path))
  has_nester_at birth path found = record {
    nester = reverse path;
    named = booted_nester s keeps path birth found;
    listed = among path birth (first_number s.spaces) s.spaces found;
    path = same_path_refl (reverse path);
  }

  users_alone : (path : List ℕ) (slot : ℕ) → has_nester s.spaces (path ++ slot ∷ []) ≡ false → has_server s.servers (path ++ slot ∷ []) ≡ false
      → has_users_alone (start_of s) (slot ∷ reverse path) ≡ true
  users_alone path slot nesters servers =
      let place : reverse (path ++ slot ∷ []) ≡ slot ∷ reverse path = reverse-append path (slot ∷ []) in
      let first = subst (λ (x : Path). list_any (is_within x) (nesters_of s.spaces) ≡ false) place (no_nesters (path ++ slot ∷ []) s.spaces nesters) in
      let later = subst (λ (x : Path). list_any (λ port. is_within x (parent port)) (map reverse (served_ports s.servers)) ≡ false) place
      (no_servers (path ++ slot ∷ []) s.servers servers) in
      rw (first, later) refl

  may_work : (spec : JobSpec) → HasSlots spec → IsAsked s.spaces s.servers spec → MayWork (start_of s) (errand_of spec)
  unfolding has_nester_at
  may_work (specs_of.Checkpoint moment birth path slot image) has asked =
      (has_nester_at birth path asked.0, has.1, users_alone path slot asked.1 asked.2)
  may_work (specs_of.Restore moment birth slot image bind) has asked =
      let its = has_nester_at birth asked.0 asked.1 in
      (record { nester = its.nester; named = its.named; listed = its.listed; path = refl }, has.0, users_pairs bind has.1, has.2)

  all_work : (specs : List JobSpec) → All HasSlots specs → All (IsAsked s.spaces s.servers) specs → All (MayWork (start_of s)) (map errand_of specs)
  all_work [] has asked = All-nil (MayWork (start_of s))
  all_work (x ∷ xs) has asked = All-cons (MayWork (start_of s)) (errand_of x) (map errand_of xs)
      (may_work x (All-head HasSlots x xs has) (All-head (IsAsked s.spaces s.servers) x xs asked))
      (all_work xs (All-tail HasSlots x xs has) (All-tail (IsAsked s.spaces s.servers) x xs asked))

-- ---- the names under which they save

abbrev names_in : List JobSpec → List (List ℕ)
names_in specs = names_of (map errand_of specs)

made_named : (specs : List JobSpec) (image : List ℕ) → is_made specs image ≡ list_any (λ name. bytes_eq name image) (names_in specs)
made_named [] image = refl
made_named (specs_of.Checkpoint moment birth path slot made ∷ specs) image = rw (made_named specs image) refl
made_named (specs_of.Restore moment birth slot used bind ∷ specs) image = made_named specs image

names_after : (done : List JobSpec) (x : JobSpec) → names_in (done ++ x ∷ []) ≡ names_in done ++ names_in (x ∷ [])
names_after [] x = refl
names_after (specs_of.Checkpoint moment birth path slot made ∷ done) x = ap (λ (names : List (List ℕ)). made ∷ names) (names_after done x)
names_after (specs_of.Restore moment birth slot used bind ∷ done) x = names_after done x

off : (b : Bool) → not b ≡ true → b ≡ false
off true h = absurd (cc)
off false h = refl

names_more : (spaces : List SpaceEntry) (servers : List ServerEntry) (done : List JobSpec) (j : JobEntry) (x : JobSpec)
    → job_after spaces servers done j ≡ Ok x → are_apart bytes_eq (names_in done) ≡ true → are_apart bytes_eq (names_in (done ++ x ∷ [])) ≡ true
unfolding job_after
names_more spaces servers done j x h apart =
    after (or_rule 10 (nester_from (first_number spaces) spaces j.nester)) _ x h (λ birth named h.
    after (unless 10 (may_be_done spaces servers done j j.kind)) _ x h (λ u may h.
    by j.kind birth (unless-Ok 10 (may_be_done spaces servers done j j.kind) u may) cc))
  where
    same_names : (names : List (List ℕ)) → names_in (done ++ x ∷ []) ≡ names → are_apart bytes_eq names ≡ true
        → are_apart bytes_eq (names_in (done ++ x ∷ [])) ≡ true
    same_names names e h = subst (λ (ns : List (List ℕ)). are_apart bytes_eq ns ≡ true) (sym e) h

    by : (kind : JobKind) (birth : ℕ) → may_be_done spaces servers done j kind ≡ true → job_spec birth j kind ≡ x
        → are_apart bytes_eq (names_in (done ++ x ∷ [])) ≡ true
    by kinds.Checkpoint birth may same =
        let free = (and_parts (not (has_nester spaces (subtree_of j)) && not (has_server servers (subtree_of j))) (not (is_made done j.image)) may).1 in
        same_names (names_in done ++ j.image ∷ [])
        (names_after done x ∙ ap (λ (y : JobSpec). names_in done ++ names_in (y ∷ [])) (sym same))
        (apart_push bytes_eq (names_in done) j.image apart (sym (made_named done j.image) ∙ off (is_made done j.image) free))
    by (kinds.Restore bind) birth may same =
        same_names (names_in done) (names_after done x ∙ (ap (λ (y : JobSpec). names_in done ++ names_in (y ∷ [])) (sym same) ∙ append-nil (names_in done)))
        apart

names_all : (spaces : List SpaceEntry) (servers : List ServerEntry) (done : List JobSpec) (entries : List JobEntry) (all : List JobSpec)
    → jobs_from spaces servers done entries ≡ Ok all → are_apart bytes_eq (names_in done) ≡ true → are_apart bytes_eq (names_in all) ≡ true
unfolding jobs_from
names_all spaces servers done [] all h apart = let same : done ≡ all = cc in subst (λ (ds : List JobSpec). are_apart bytes_eq (names_in ds) ≡ true) same apart
names_all spaces servers done (j ∷ js) all h apart =
    after (placed 6 (length done) (job_after spaces servers done j)) _ all h (λ x is_x h.
    names_all spaces servers (done ++ x ∷ []) js all h (names_more spaces servers done j x (placed-Ok 6 _ _ x is_x) apart))

-- ---- all together

pub served-exactly : (s : Scenario) → KeepsScenario s → (x : Path) → holds is_served ((booted s).body x) ≡ is_listed (map reverse (served_ports s.servers)) x
served-exactly s keeps x =
    both_ways (holds is_served ((booted s).body x)) (is_servers (served_ports s.servers) x) ((booted-ground s keeps).served x) (booted-served s keeps x)
    ∙ sym (listed_servers (served_ports s.servers) x)

pub porters-exactly : (s : Scenario) → KeepsScenario s → (x : Path) → holds is_native ((booted s).body x) ≡ is_last_of (nesters_of s.spaces) x
porters-exactly s keeps x =
    both_ways (holds is_native ((booted s).body x)) (is_porters s.spaces x) ((booted-ground s keeps).porters x) (booted-porters s keeps x)
    ∙ sym (last_porters s.spaces x)

pub whole_start : (s : Scenario) → KeepsScenario s → IsWhole (booted s) → IsSavable (booted s) → IsSoundStart (start_of s)
unfolding are_apart
whole_start s keeps whole savable =
    let ground = booted-ground s keeps in
    let asked = all_asked s.spaces s.servers [] keeps.asked.0 s.jobs keeps.asked.1 (All-nil (IsAsked s.spaces s.servers)) in
    record {
      whole = whole;
      savable = savable;
      uncut = ground.uncut;
      clean = ground.clean;
      idle = ground.idle;
      few = booted-few s keeps;
      served = served-exactly s keeps;
      one_each = booted-apart s keeps;
      porters = porters-exactly s keeps;
      jobs = all_work s keeps s.jobs keeps.jobs asked;
      names = names_all s.spaces s.servers [] keeps.asked.0 s.jobs keeps.asked.1 refl;
      budget = keeps.budget;
    }

pub sound_start : (s : Scenario) → KeepsScenario s → HasWords s → IsSoundStart (start_of s)
sound_start s keeps words = whole_start s keeps (booted-runnable s keeps words).whole (booted-savable s keeps words)
