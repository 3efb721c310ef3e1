-- What the reader has seen of a scenario's jobs: their nesters are there, by their birth numbers, and users alone lie in what they save.
use Rattle.std.proofs.Common.{◌≡◌, ℕ, ◌+◌, ◌-◌, ◌≤◌, Bool, true, false, cond, not, if◌then◌else◌, ◌&&◌, ◌||◌, ◌==◌, List, [], ◌∷◌}
use Rattle.std.proofs.Common.{◌++◌, append_assoc, length, take, drop, reverse, get_or, Some, None, option_map, Ok, refl, sym, ap, subst, ◌∙◌}
use Rattle.std.proofs.Common.{arith}
use Rattle.std.proofs.Common.{length-append, eq-eqb, eqb-true}
use Rattle.std.proofs.lemmas.List.{reverse-append, reverse-reverse}
use Rattle.std.proofs.lemmas.List.Elements.{All-nil, All-cons, All-push, All-head, All-tail}
use Rattle.std.proofs.lemmas.List.Sums.{sum_by_push}
use Rattle.std.proofs.lemmas.Slice.Eq.{bytes_eq-Decides}
use Rattle.std.proofs.lemmas.Bool.{and_parts}
use Rattle.std.specs.List.{flat_map, All}
use Rattle.std.specs.Str.{bytes_eq}
use Rattle.fk_model.specs.declared.limits.TheConstants.{LAST_PORTER_SLOT}
use Rattle.fk_model.specs.declared.job.JobSpec.{JobSpec}
use Rattle.fk_model.specs.declared.job.JobSpec.TheVariants as specs_of
use Rattle.fk_model.specs.Places.{Path, same_path}
use Rattle.fk_model.specs.Objects.{and_then, holds, is_served}
use Rattle.fk_model.specs.World.{World, Change, edited, apply, apply_all}
use Rattle.fk_model.specs.World.Change.{Alter, Make, MakeSpace, PutPage}
use Rattle.fk_model.specs.StateRows.{is_native}
use Rattle.fk_model.specs.Valid.{birth_of, birth_at}
use Rattle.fk_model.proofs.walks.PlaceLaws.{same_path_eq}
use Rattle.fk_scenario.specs.Fields.Gives.{or_rule, unless, placed}
use Rattle.fk_scenario.specs.Fields.Paths.{enclosing}
use Rattle.fk_scenario.proofs.InFields.Steps.{after, unless-Ok, or_rule-Ok, placed-Ok}
use Rattle.fk_scenario.specs.declared.entries.types.Program.{Program}
use Rattle.fk_scenario.specs.declared.entries.types.SpaceEntry.{SpaceEntry}
use Rattle.fk_scenario.specs.declared.entries.types.ServerEntry.{ServerEntry}
use Rattle.fk_scenario.specs.declared.entries.jobs.JobEntry.{JobEntry}
use Rattle.fk_scenario.specs.declared.entries.jobs.JobKind.{JobKind}
use Rattle.fk_scenario.specs.declared.entries.jobs.JobKind.TheVariants as kinds
use Rattle.fk_scenario.specs.Sections.Kept.{EachAfter, KeepsSpace}
use Rattle.fk_scenario.specs.Sections.Spaces.{has_space, has_space_or_root, may_stand, count_beneath}
use Rattle.fk_scenario.specs.declared.scenario.scenario.Scenario.{Scenario}
use Rattle.fk_scenario.specs.Scenario.Jobs.{first_number, nester_from, is_beneath, has_nester, has_server, is_made, subtree_of, may_be_done, job_spec, job_after}
use Rattle.fk_scenario.specs.Scenario.Jobs.{jobs_from}
use Rattle.fk_scenario.specs.Scenario.Kept.{KeepsScenario}
use Rattle.fk_store.specs.Store.World.{first_world}
use Rattle.laws_moves.proofs.InMachine.validity.Edits.{outline-edited}
use Rattle.laws_moves.proofs.InMachine.safety.Safe.{IsSafe, AreSafe}
use Rattle.laws_moves.proofs.InMachine.safety.Staying.{same_birth, each}
use Rattle.fk_boot.specs.FirstWorld.{zero_pages, program_pages, words_of_program, space_itself, space_changes, served_ports, object_changes, aim_changes}
use Rattle.fk_boot.specs.FirstWorld.{porter_changes, booted}
use Rattle.fk_boot.specs.MadeSoFar.{HasSpaces}
use Rattle.fk_boot.proofs.Changes.{apply_all-append}
use Rattle.fk_boot.proofs.MadeSoFar.{first-stands, entry-stands}
use Rattle.fk_boot.proofs.Walks.{no-slots, last, made-space}
use Rattle.fk_boot.proofs.validity.Whole.{boot-safe, booted-valid}
use Rattle.fk_boot.proofs.validity.Grounds.{is_porters, is_servers, IsGroundChange, AreGround, boot-ground}
use Rattle.fk_boot.proofs.validity.Staying.{safe_later, ground_later}

-- ---- what is made leaves the birth numbers that are there

module _ (spaces : List SpaceEntry) (ports : List (List ℕ)) where
  module _ (y : Path) (n : ℕ) where
    not_there : (w : World) (x : Path) → birth_at w y ≡ Some n → w.body x ≡ None → (b : Bool) → same_path y x ≡ b → b ≡ false
    not_there w x born empty false e = refl
    not_there w x born empty true e =
        let here = same_path_eq y x e in
        let none : birth_at w y ≡ None = ap (and_then birth_of) (ap w.body here ∙ empty) in
        let clash = sym none ∙ born in
        absurd (cc)

    born_one : (c : Change) (w : World) → IsGroundChange spaces ports c → IsSafe w c → birth_at w y ≡ Some n → birth_at (apply c w) y ≡ Some n
    unfolding apply
    born_one (Alter x edit) w good safe born = by (same_path y x)
      where
        by : (t : Bool) → and_then birth_of (if t then option_map (edited edit) (w.body y) else w.body y) ≡ Some n
        by true = same_birth (edited edit) (each (edited edit) (outline-edited edit)) (w.body y) ∙ born
        by false = born
    born_one (Make [] body) w good safe born = absurd safe
    born_one (Make (k ∷ s) body) w good safe born = rw (not_there w (k ∷ s) born safe.place.empty (same_path y (k ∷ s)) refl) born
    born_one (MakeSpace [] holder) w good safe born = absurd safe
    born_one (MakeSpace (k ∷ s) holder) w good safe born = rw (not_there w (k ∷ s) born safe.place.empty (same_path y (k ∷ s)) refl) born
    born_one (PutPage space page words) w good safe born = born
    born_one c w good safe born = absurd good

    born_all : (cs : List Change) (w : World) → AreGround spaces ports cs → AreSafe w cs → birth_at w y ≡ Some n → birth_at (apply_all cs w) y ≡ Some n
    unfolding apply_all
    born_all [] w good safe born = born
    born_all (c ∷ cs) w good safe born = born_all cs (apply c w) good.1 safe.1 (born_one c w good.0 safe.0 born)

  -- ---- the number of a nester is the birth number of its space

  abbrev IsHeadInside : List SpaceEntry → Type 0
  IsHeadInside [] = Unit {0}
  IsHeadInside (s ∷ ss) = (length s.path == 0) ≡ false

  count_last : (done : List SpaceEntry) (s : SpaceEntry) → count_beneath (done ++ s ∷ []) ≡ count_beneath done + cond (not (length s.path == 0)) 1 0
  count_last done s = sum_by_push (λ (t : SpaceEntry). cond (not (length t.path == 0)) 1 0) done s

  inside_length : (p : List ℕ) → (length p == 0) ≡ false → 1 ≤ length p
  inside_length [] e = absurd (cc)
  inside_length (k ∷ p) e = omega arith

  -- the root's entry can be the first alone
  head_inside : (done : List SpaceEntry) (s : SpaceEntry) (ss : List SpaceEntry) → (length done ≡ 0 → IsHeadInside (s ∷ ss))
      → may_stand done s.path ≡ true → (length s.path == 0) ≡ false
  head_inside done s ss head stands = by (length s.path == 0) refl stands
    where
      by : (t : Bool) → (length s.path == 0) ≡ t
          → (if t then length done == 0 else (has_space_or_root done (enclosing s.path) && not (has_space done s.path))) ≡ true
          → (length s.path == 0) ≡ false
      by true e at = head (eqb-true (length done) 0 at)
      by false e at = e

  itself : (x : Path) (k : ℕ) (s : Path) → x ≡ k ∷ s → space_itself x ≡ MakeSpace x None ∷ []
  itself x k s e = rw e refl

  module _ (programs : List Program) (path : List ℕ) (birth : ℕ) where
    -- a space has the next number when it is made, and keeps it
    entry_born : (s : SpaceEntry) (w : World) (rest : List Change) → 1 ≤ length s.path → AreSafe w (space_changes programs s ++ rest)
        → AreGround spaces ports (space_changes programs s ++ rest)
        → birth_at (apply_all (space_changes programs s ++ rest) w) (reverse s.path) ≡ Some w.next
    unfolding apply_all
    entry_born s w rest inside safe good =
        let x = reverse s.path in
        let pages = zero_pages x s.pages ++ program_pages x (words_of_program programs s.program) in
        let one : space_itself x ≡ MakeSpace x None ∷ [] =
        itself x (get_or s.path (length s.path - 1) 0) (reverse (take (length s.path - 1) s.path)) (last s.path inside) in
        let all : space_changes programs s ++ rest ≡ MakeSpace x None ∷ (pages ++ rest) =
        append_assoc (space_itself x) pages rest ∙ ap (λ (cs : List Change). cs ++ (pages ++ rest)) one in
        let safe_all = subst (λ (cs : List Change). AreSafe w cs) all safe in
        let good_all = subst (λ (cs : List Change). AreGround spaces ports cs) all good in
        subst (λ (cs : List Change). birth_at (apply_all cs w) x ≡ Some w.next) (sym all)
        (born_all x w.next (pages ++ rest) (apply (MakeSpace x None) w) good_all.1 safe_all.1 (made-space w x))

    -- the first nester with the path is the one, or it comes later
    either : (s : SpaceEntry) (ss : List SpaceEntry) (w : World) (n : ℕ) (ds : List Change) → 1 ≤ length s.path → w.next ≡ n
        → AreSafe w (space_changes programs s ++ ds) → AreGround spaces ports (space_changes programs s ++ ds)
        → (nester_from (n + 1) ss path ≡ Some birth
        → birth_at (apply_all ds (apply_all (space_changes programs s) w)) (reverse path) ≡ Some birth)
        → (t : Bool) → (bytes_eq s.path path && s.nester) ≡ t → (if t then Some n else nester_from (n + 1) ss path) ≡ Some birth
        → birth_at (apply_all (space_changes programs s ++ ds) w) (reverse path) ≡ Some birth
    either s ss w n ds inside next safe good later true e found =
        let both = and_parts (bytes_eq s.path path) s.nester e in
        let same : s.path ≡ path = (bytes_eq-Decides s.path path).0 both.0 in
        let number : n ≡ birth = cc in
        subst (λ (p : List ℕ). birth_at (apply_all (space_changes programs s ++ ds) w) (reverse p) ≡ Some birth) same
        (entry_born s w ds inside safe good ∙ ap (λ (i : ℕ). Some i) (next ∙ number))
    either s ss w n ds inside next safe good later false e found =
        subst (λ (u : World). birth_at u (reverse path) ≡ Some birth) (sym (apply_all-append (space_changes programs s) ds w)) (later found)

    numbered : (done ss : List SpaceEntry) (w : World) (n : ℕ) (rest : List Change) → HasSpaces w done → EachAfter (KeepsSpace programs) done ss
        → (length done ≡ 0 → IsHeadInside ss) → AreSafe w (flat_map (space_changes programs) ss ++ rest)
        → AreGround spaces ports (flat_map (space_changes programs) ss ++ rest) → w.next ≡ n → nester_from n ss path ≡ Some birth
        → birth_at (apply_all (flat_map (space_changes programs) ss ++ rest) w) (reverse path) ≡ Some birth
    unfolding nester_from
    numbered done [] w n rest stands keeps head safe good next found = absurd (cc)
    numbered done (s ∷ ss) w n rest stands keeps head safe good next found =
        let cs = space_changes programs s in
        let ds = flat_map (space_changes programs) ss ++ rest in
        let inside = head_inside done s ss head keeps.0.stands in
        let joined : (cs ++ flat_map (space_changes programs) ss) ++ rest ≡ cs ++ ds = append_assoc cs (flat_map (space_changes programs) ss) rest in
        let safe_there = subst (λ (es : List Change). AreSafe w es) joined safe in
        let good_there = subst (λ (es : List Change). AreGround spaces ports es) joined good in
        let stands_there = entry-stands programs done s w stands in
        let one : ◌≡◌ {A = ℕ} (cond (not (length s.path == 0)) 1 0) 1 = rw inside refl in
        let counted = count_last done s in
        let now = stands.next in
        let ends = stands_there.next in
        let long = length-append done (s ∷ []) in
        subst (λ (es : List Change). birth_at (apply_all es w) (reverse path) ≡ Some birth) (sym joined)
        (either s ss w n ds (inside_length s.path inside) next safe_there good_there
        (λ there. numbered (done ++ s ∷ []) ss (apply_all cs w) (n + 1) rest stands_there keeps.1 (λ none. absurd (omega (arith, none, long)))
        (safe_later spaces ports cs ds w safe_there) (ground_later spaces ports cs ds good_there) (omega (arith, one, counted, now, ends, next)) there)
        (bytes_eq s.path path && s.nester) refl found)

    -- the root has the number 0 from the beginning
    root_either : (ds : List Change) → AreSafe first_world ds → AreGround spaces ports ds → (s : SpaceEntry) (ss : List SpaceEntry) → s.path ≡ []
        → (nester_from 1 ss path ≡ Some birth → birth_at (apply_all ds first_world) (reverse path) ≡ Some birth)
        → (t : Bool) → (bytes_eq s.path path && s.nester) ≡ t → (if t then Some 0 else nester_from 1 ss path) ≡ Some birth
        → birth_at (apply_all ds first_world) (reverse path) ≡ Some birth
    root_either ds safe good s ss root later true e found =
        let both = and_parts (bytes_eq s.path path) s.nester e in
        let same : [] ≡ path = sym root ∙ (bytes_eq-Decides s.path path).0 both.0 in
        let number : 0 ≡ birth = cc in
        subst (λ (p : List ℕ). birth_at (apply_all ds first_world) (reverse p) ≡ Some birth) same
        (born_all [] 0 ds first_world good safe first-stands.root ∙ ap (λ (i : ℕ). Some i) number)
    root_either ds safe good s ss root later false e found = later found

    first_numbered : (ss : List SpaceEntry) (rest : List Change) → EachAfter (KeepsSpace programs) [] ss
        → AreSafe first_world (flat_map (space_changes programs) ss ++ rest) → AreGround spaces ports (flat_map (space_changes programs) ss ++ rest)
        → nester_from (first_number ss) ss path ≡ Some birth
        → birth_at (apply_all (flat_map (space_changes programs) ss ++ rest) first_world) (reverse path) ≡ Some birth
    unfolding nester_from
    first_numbered [] rest keeps safe good found = absurd (cc)
    first_numbered (s ∷ ss) rest keeps safe good found = by (length s.path == 0) refl found
      where
        cs : List Change
        cs = space_changes programs s

        ds : List Change
        ds = flat_map (space_changes programs) ss ++ rest

        joined : (cs ++ flat_map (space_changes programs) ss) ++ rest ≡ cs ++ ds
        joined = append_assoc cs (flat_map (space_changes programs) ss) rest

        later : (length s.path == 0) ≡ true → nester_from 1 ss path ≡ Some birth
            → birth_at (apply_all ((cs ++ flat_map (space_changes programs) ss) ++ rest) first_world) (reverse path) ≡ Some birth
        later root there =
            let stands = entry-stands programs [] s first_world first-stands in
            let none : ◌≡◌ {A = ℕ} (cond (not (length s.path == 0)) 1 0) 0 = rw root refl in
            let counted = count_last [] s in
            let ends = stands.next in
            subst (λ (u : World). birth_at u (reverse path) ≡ Some birth)
            (sym (ap (λ (es : List Change). apply_all es first_world) joined ∙ apply_all-append cs ds first_world))
            (numbered (s ∷ []) ss (apply_all cs first_world) 1 rest stands keeps.1 (λ none. absurd (omega (arith, none)))
            (safe_later spaces ports cs ds first_world (subst (λ (es : List Change). AreSafe first_world es) joined safe))
            (ground_later spaces ports cs ds (subst (λ (es : List Change). AreGround spaces ports es) joined good)) (omega (arith, none, counted, ends)) there)

        by : (t : Bool) → (length s.path == 0) ≡ t → nester_from (if t then 0 else 1) (s ∷ ss) path ≡ Some birth
            → birth_at (apply_all ((cs ++ flat_map (space_changes programs) ss) ++ rest) first_world) (reverse path) ≡ Some birth
        by true e found = root_either _ safe good s ss (no-slots s.path e) (later e) (bytes_eq s.path path && s.nester) refl found
        by false e found = numbered [] (s ∷ ss) first_world 1 rest first-stands keeps (λ none. e) safe good refl found

pub booted_nester : (s : Scenario) → KeepsScenario s → (path : List ℕ) (birth : ℕ) → nester_from (first_number s.spaces) s.spaces path ≡ Some birth
    → birth_at (booted s) (reverse path) ≡ Some birth
unfolding booted
booted_nester s keeps path birth found = first_numbered s.spaces (served_ports s.servers) s.programs path birth s.spaces
    (flat_map (object_changes (served_ports s.servers)) s.objects ++ (flat_map aim_changes s.objects ++ flat_map porter_changes s.spaces))
    keeps.spaces (boot-safe s keeps) (boot-ground s keeps) found

-- ---- what lies beneath a slot

starts : (space rest : List ℕ) → is_beneath space (space ++ rest) ≡ true
starts [] rest = refl
starts (k ∷ space) rest = rw (eq-eqb k k refl) (starts space rest)

pub below : (subtree q x : List ℕ) → q ++ reverse subtree ≡ reverse x → is_beneath subtree x ≡ true
below subtree q x e =
    let is : x ≡ subtree ++ reverse q = sym (reverse-reverse x) ∙ (ap reverse (sym e) ∙ (reverse-append q (reverse subtree)
    ∙ ap (λ (y : List ℕ). y ++ reverse q) (reverse-reverse subtree))) in
    subst (λ (y : List ℕ). is_beneath subtree y ≡ true) (sym is) (starts subtree (reverse q))

or_last : (t : Bool) → (t || true) ≡ true
or_last true = refl
or_last false = refl

-- where a nester's porter stands there, the nester lies there
pub nests : (spaces : List SpaceEntry) (subtree q : List ℕ) (k : ℕ) → is_porters spaces (k ∷ (q ++ reverse subtree)) ≡ true → has_nester spaces subtree ≡ true
nests [] subtree q k h = absurd (cc)
nests (s ∷ ss) subtree q k h = by s.nester (same_path (k ∷ (q ++ reverse subtree)) (LAST_PORTER_SLOT ∷ reverse s.path)) refl h (nests ss subtree q k)
  where
    by : (nester t : Bool) → same_path (k ∷ (q ++ reverse subtree)) (LAST_PORTER_SLOT ∷ reverse s.path) ≡ t
        → ((nester && t) || is_porters ss (k ∷ (q ++ reverse subtree))) ≡ true
        → (is_porters ss (k ∷ (q ++ reverse subtree)) ≡ true → has_nester ss subtree ≡ true)
        → ((nester && is_beneath subtree s.path) || has_nester ss subtree) ≡ true
    by true true e h later =
        let there = same_path_eq (k ∷ (q ++ reverse subtree)) (LAST_PORTER_SLOT ∷ reverse s.path) e in
        rw (below subtree q s.path (ap (λ (y : Path). drop 1 y) there)) refl
    by true false e h later = rw (later h) (or_last (is_beneath subtree s.path))
    by false t e h later = later h

some_slots : (p x : List ℕ) (k : ℕ) → k ∷ x ≡ reverse p → 1 ≤ length p
some_slots [] x k e = absurd (cc)
some_slots (j ∷ p) x k e = omega arith

-- where a server's port stands there, the server's port lies there
pub serves : (servers : List ServerEntry) (subtree q : List ℕ) (k : ℕ) → is_servers (served_ports servers) (k ∷ (q ++ reverse subtree)) ≡ true
    → has_server servers subtree ≡ true
serves [] subtree q k h = absurd (cc)
serves (s ∷ ss) subtree q k h = by (same_path (k ∷ (q ++ reverse subtree)) (reverse s.port)) refl h (serves ss subtree q k)
  where
    by : (t : Bool) → same_path (k ∷ (q ++ reverse subtree)) (reverse s.port) ≡ t
        → (t || is_servers (served_ports ss) (k ∷ (q ++ reverse subtree))) ≡ true
        → (is_servers (served_ports ss) (k ∷ (q ++ reverse subtree)) ≡ true → has_server ss subtree ≡ true)
        → (is_beneath subtree (enclosing s.port) || has_server ss subtree) ≡ true
    by true e h later =
        let there = same_path_eq (k ∷ (q ++ reverse subtree)) (reverse s.port) e in
        let inside = some_slots s.port (q ++ reverse subtree) k there in
        rw (below subtree q (enclosing s.port) (ap (λ (y : Path). drop 1 y) (there ∙ last s.port inside))) refl
    by false e h later = rw (later h) (or_last (is_beneath subtree (enclosing s.port)))

-- ---- what the reader asks of a job

abbrev pub IsAsked : List SpaceEntry → List ServerEntry → JobSpec → Type 0
IsAsked spaces servers (specs_of.Checkpoint moment birth path slot image) =
    (nester_from (first_number spaces) spaces path ≡ Some birth) × (has_nester spaces (path ++ slot ∷ []) ≡ false)
    × (has_server servers (path ++ slot ∷ []) ≡ false)
IsAsked spaces servers (specs_of.Restore moment birth slot image bind) = (path : List ℕ) × (nester_from (first_number spaces) spaces path ≡ Some birth)

off : (b : Bool) → not b ≡ true → b ≡ false
off true h = absurd (cc)
off false h = refl

one_asked : (spaces : List SpaceEntry) (servers : List ServerEntry) (done : List JobSpec) (j : JobEntry) (x : JobSpec)
    → job_after spaces servers done j ≡ Ok x → IsAsked spaces servers x
unfolding job_after
one_asked spaces servers done j x h =
    after (or_rule 10 (nester_from (first_number spaces) spaces j.nester)) _ x h (λ birth named h.
    after (unless 10 (may_be_done spaces servers done j j.kind)) _ x h (λ u may h.
    by j.kind birth (or_rule-Ok 10 (nester_from (first_number spaces) spaces j.nester) birth named)
    (unless-Ok 10 (may_be_done spaces servers done j j.kind) u may) cc))
  where
    by : (kind : JobKind) (birth : ℕ) → nester_from (first_number spaces) spaces j.nester ≡ Some birth → may_be_done spaces servers done j kind ≡ true
        → job_spec birth j kind ≡ x → IsAsked spaces servers x
    by kinds.Checkpoint birth named may same =
        let parts = and_parts (not (has_nester spaces (subtree_of j)) && not (has_server servers (subtree_of j))) (not (is_made done j.image)) may in
        let both = and_parts (not (has_nester spaces (subtree_of j))) (not (has_server servers (subtree_of j))) parts.0 in
        subst (λ (y : JobSpec). IsAsked spaces servers y) same
        (named, off (has_nester spaces (subtree_of j)) both.0, off (has_server servers (subtree_of j)) both.1)
    by (kinds.Restore bind) birth named may same = subst (λ (y : JobSpec). IsAsked spaces servers y) same (j.nester, named)

pub all_asked : (spaces : List SpaceEntry) (servers : List ServerEntry) (done : List JobSpec) (entries : List JobEntry) (all : List JobSpec)
    → jobs_from spaces servers done entries ≡ Ok all → All (IsAsked spaces servers) done → All (IsAsked spaces servers) all
unfolding jobs_from
all_asked spaces servers done [] all h each = let same : done ≡ all = cc in subst (All (IsAsked spaces servers)) same each
all_asked spaces servers done (j ∷ js) all h each =
    after (placed 6 (length done) (job_after spaces servers done j)) _ all h (λ x is_x h.
    all_asked spaces servers (done ++ x ∷ []) js all h
    (All-push (IsAsked spaces servers) done x each (one_asked spaces servers done j x (placed-Ok 6 _ _ x is_x))))
