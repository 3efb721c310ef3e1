-- What is read keeps what a machine rests on.
use Rattle.std.proofs.Common.{◌≡◌, ℕ, ℤ, ◌+◌, ◌<◌, ◌≤◌, Bool, true, false, not, ◌&&◌, ◌||◌, ◌==◌, nat_lt, cond, List, [], ◌∷◌, ◌++◌, append_assoc, append-nil, length, Option, Some, None, Ok, IfSome, refl, ap, subst, codes, arith}
use Rattle.std.proofs.lemmas.Bool.{ltb-true}
use Rattle.std.proofs.lemmas.List.Elements.{All-nil, All-push}
use Rattle.std.proofs.lemmas.List.Sums.{sum_by_push}
use Rattle.std.proofs.lemmas.Slice.Eq.{bytes_eq-Decides}
use Rattle.std.specs.List.{All}
use Rattle.std.specs.Str.{bytes_eq}
use Rattle.toml.specs.Data.{Data, Items, no_items, item, Members, no_members, member, as_table}
use Rattle.fk_scenario.specs.Fields.Gives.{or_rule, unless, placed}
use Rattle.fk_scenario.specs.Fields.Fields.{bytes_from, ranged}
use Rattle.fk_scenario.specs.Fields.Paths.{parse_path, enclosing}
use Rattle.fk_scenario.proofs.InFields.Places.{position_from-below}
use Rattle.fk_scenario.proofs.InFields.Steps.{after, unless-Ok, or_rule-Ok, placed-Ok}
use Rattle.fk_scenario.specs.declared.entries.types.Program.{Program}
use Rattle.fk_scenario.specs.declared.entries.types.SpaceEntry.{SpaceEntry}
use Rattle.fk_scenario.specs.declared.entries.types.ObjectEntry.{ObjectEntry}
use Rattle.fk_scenario.specs.Entries.Programs.{program_of}
use Rattle.fk_scenario.specs.Entries.Objects.{object_entry}
use Rattle.fk_scenario.proofs.InEntries.Kept.{in_range, path_kept, program_kept, entry_kept, job_kept}
use Rattle.fk_scenario.specs.declared.entries.jobs.JobEntry.{JobEntry}
use Rattle.fk_scenario.specs.Entries.Jobs.{job_in}
use Rattle.fk_scenario.specs.Entries.Kept.{KeepsJob}
use Rattle.fk_scenario.specs.Sections.Jobs.{entries_from}
use Rattle.fk_scenario.specs.Sections.Programs.{programs_from, position_of, index_of}
use Rattle.fk_scenario.specs.Sections.Spaces.{space_fields, space_after, space_in, spaces_from, has_space, has_space_or_root, has_room_for_space, may_stand, count_beneath, is_no_name}
use Rattle.fk_scenario.specs.Sections.Objects.{has_object, object_after, objects_from}
use Rattle.fk_scenario.specs.Sections.Kept.{EachAfter, KeepsSpace, KeepsObject}

neither : (a b : Bool) → (not a && not b) ≡ true → (a ≡ false) × (b ≡ false)
neither true b h = absurd (cc)
neither false true h = absurd (cc)
neither false false h = (refl, refl)

-- one more element that keeps its rules after those before it
EachAfter-last : {X : Type 0} (P : List X → X → Type 0) (before xs : List X) (x : X) → EachAfter P before xs → P (before ++ xs) x
    → EachAfter P before (xs ++ x ∷ [])
EachAfter-last P before [] x each here = (rw append-nil at here, tt)
EachAfter-last P before (y ∷ ys) x each here = (each.0, EachAfter-last P (before ++ y ∷ []) ys x each.1 (rw append_assoc here))

-- programs

abbrev pub IsSmall : Program → Type 0
IsSmall p = length p.words ≤ 16384

pub programs_kept : (done : List Program) (ms : Members) (all : List Program) → programs_from done ms ≡ Ok all → All IsSmall done → All IsSmall all
unfolding programs_from
programs_kept done no_members all h kept = let same : done ≡ all = cc in subst (All IsSmall) same kept
programs_kept done (member name value rest) all h kept =
    after (placed 2 (length done) (program_of name value)) _ all h (λ p is_p h.
    programs_kept (done ++ p ∷ []) rest all h (All-push IsSmall done p kept (program_kept name value p (placed-Ok 2 _ _ p is_p))))

-- spaces

index_kept : (programs : List Program) (name : Option (List ℕ)) (index : Option ℕ) → index_of programs name ≡ Ok index → IfSome index (λ i. i < length programs)
unfolding index_of
index_kept programs None index h = let same : None ≡ index = cc in subst (λ (o : Option ℕ). IfSome o (λ i. i < length programs)) same tt
index_kept programs (Some name) index h =
    after (or_rule 8 (position_of programs name)) _ index h (λ i is_i h.
    let same : Some i ≡ index = cc in
    let below : i < 0 + length programs = position_from-below (λ (p : Program). bytes_eq p.name name) 0 programs i (or_rule-Ok 8 _ i is_i) in
    subst (λ (o : Option ℕ). IfSome o (λ i. i < length programs)) same (omega (arith, below)))

bytes_kept : (done : List ℕ) (zs : List ℤ) (bytes : List ℕ) → bytes_from done zs ≡ Ok bytes
    → All (λ b. b ≤ 255) done → All (λ b. b ≤ 255) bytes
unfolding bytes_from
bytes_kept done [] bytes h kept = let same : done ≡ bytes = cc in subst (All (λ b. b ≤ 255)) same kept
bytes_kept done (z ∷ zs) bytes h kept =
    after (ranged 0 255 z) _ bytes h (λ n is_n h.
    bytes_kept (done ++ n ∷ []) zs bytes h (All-push (λ b. b ≤ 255) done n kept (in_range 0 255 z n is_n).1))

-- at most 255 spaces besides the root

-- the root's entry adds none
abbrev added : Bool → ℕ
added is_root = cond (not is_root) 1 0

count-last : (ss : List SpaceEntry) (s : SpaceEntry) → count_beneath (ss ++ s ∷ []) ≡ count_beneath ss + added (length s.path == 0)
count-last ss s = sum_by_push (λ (t : SpaceEntry). added (length t.path == 0)) ss s

-- the text of the root's path is no other's
root_path : (text path : List ℕ) → bytes_eq text (codes "/") ≡ true → parse_path text ≡ Ok path → path ≡ []
unfolding parse_path
root_path text path e h =
    let same : text ≡ codes "/" = (bytes_eq-Decides text (codes "/")).0 e in
    let root : parse_path (codes "/") ≡ Ok path = rw same at h in
    cc

space_counted : (done : List SpaceEntry) (text : List ℕ) (s : SpaceEntry) → has_room_for_space done text ≡ true → parse_path text ≡ Ok s.path
    → count_beneath done ≤ 255 → count_beneath (done ++ s ∷ []) ≤ 255
space_counted done text s room is_path few = by (bytes_eq text (codes "/")) (nat_lt (count_beneath done) 255) (length s.path == 0) refl refl refl room
  where
    by : (root lt none : Bool) → bytes_eq text (codes "/") ≡ root → nat_lt (count_beneath done) 255 ≡ lt → (length s.path == 0) ≡ none
        → (root || lt) ≡ true → count_beneath (done ++ s ∷ []) ≤ 255
    by root lt true d e f h = omega (arith, count-last done s, ap added f)
    by root true false d e f h = omega (arith, count-last done s, ap added f, ltb-true (count_beneath done) 255 e)
    by true false false d e f h =
        let empty : s.path ≡ [] = root_path text s.path d is_path in
        let none : (length s.path == 0) ≡ true = rw empty refl in
        absurd (cc)
    by false false false d e f h = absurd (cc)

space_kept : (programs : List Program) (done : List SpaceEntry) (ms : Members) (s : SpaceEntry) → space_after programs done ms ≡ Ok s
    → count_beneath done ≤ 255 → KeepsSpace programs done s × (count_beneath (done ++ s ∷ []) ≤ 255)
unfolding space_after
space_kept programs done ms s h few =
    after (space_fields ms) _ s h (λ fields _ h.
    after (bytes_from [] fields.pages) _ s h (λ pages is_pages h.
    after (unless 3 (has_room_for_space done fields.path)) _ s h (λ w room h.
    after (parse_path fields.path) _ s h (λ path is_path h.
    after (unless 4 (not (is_no_name fields.program))) _ s h (λ _ _ h.
    after (unless 5 (may_stand done path)) _ s h (λ x stands h.
    after (index_of programs fields.program) _ s h (λ index is_index h.
    let same : record { path = path; program = index; pages = pages; nester = fields.nester } ≡ s = cc in
    let keeps : KeepsSpace programs done (record { path = path; program = index; pages = pages; nester = fields.nester }) =
    record {
      slots = path_kept fields.path path is_path;
      stands = unless-Ok 5 _ x stands;
      has_program = index_kept programs fields.program index is_index;
      pages = bytes_kept [] fields.pages pages is_pages (All-nil (λ b. b ≤ 255));
    } in
    let counted = space_counted done fields.path (record {
      path = path;
      program = index;
      pages = pages;
      nester = fields.nester;
    }) (unless-Ok 3 _ w room) is_path few in
    subst (λ (s : SpaceEntry). KeepsSpace programs done s × (count_beneath (done ++ s ∷ []) ≤ 255)) same (keeps, counted))))))))

-- a space that is read keeps its rules, and there is room for it
space_read : (programs : List Program) (done : List SpaceEntry) (value : Data) (s : SpaceEntry) → space_in programs done value ≡ Ok s
    → count_beneath done ≤ 255 → KeepsSpace programs done s × (count_beneath (done ++ s ∷ []) ≤ 255)
unfolding space_in
space_read programs done value s h few =
    after (or_rule 2 (as_table value)) _ s h (λ ms _ h. space_kept programs done ms s h few)

pub spaces_kept : (programs : List Program) (done : List SpaceEntry) (ds : Items) (all : List SpaceEntry) → spaces_from programs done ds ≡ Ok all
    → EachAfter (KeepsSpace programs) [] done → count_beneath done ≤ 255
    → EachAfter (KeepsSpace programs) [] all × (count_beneath all ≤ 255)
unfolding spaces_from
spaces_kept programs done no_items all h each few =
    let same : done ≡ all = cc in
    subst (λ (ss : List SpaceEntry). EachAfter (KeepsSpace programs) [] ss × (count_beneath ss ≤ 255)) same (each, few)
spaces_kept programs done (item value rest) all h each few =
    after (placed 3 (length done) (space_in programs done value)) _ all h (λ s is_s h.
    let (keeps, few) = space_read programs done value s (placed-Ok 3 _ _ s is_s) few in
    spaces_kept programs (done ++ s ∷ []) rest all h (EachAfter-last (KeepsSpace programs) [] done s each keeps) few)

-- objects

object_read : (spaces : List SpaceEntry) (done : List ObjectEntry) (value : Data) (o : ObjectEntry) → object_after spaces done value ≡ Ok o
    → KeepsObject spaces done o
unfolding object_after
object_read spaces done value o h =
    after (object_entry value) _ o h (λ object is_object h.
    after (unless 5 (has_space_or_root spaces (enclosing object.path))) _ o h (λ y there h.
    after (unless 6 (not (has_space spaces object.path) && not (has_object done object.path))) _ o h (λ z free h.
    let same : object ≡ o = cc in
    let kept = entry_kept value object is_object in
    let (no_space, no_object) = neither (has_space spaces object.path) (has_object done object.path) (unless-Ok 6 _ z free) in
    subst (λ (o : ObjectEntry). KeepsObject spaces done o) same (record {
      slots = kept.slots;
      inside = kept.inside;
      in_space = unless-Ok 5 _ y there;
      no_space = no_space;
      no_object = no_object;
      in_range = kept.in_range;
    }))))

pub objects_kept : (spaces : List SpaceEntry) (done : List ObjectEntry) (ds : Items) (all : List ObjectEntry) → objects_from spaces done ds ≡ Ok all
    → EachAfter (KeepsObject spaces) [] done → EachAfter (KeepsObject spaces) [] all
unfolding objects_from
objects_kept spaces done no_items all h each = let same : done ≡ all = cc in subst (EachAfter (KeepsObject spaces) []) same each
objects_kept spaces done (item value rest) all h each =
    after (placed 4 (length done) (object_after spaces done value)) _ all h (λ o is_o h.
    objects_kept spaces (done ++ o ∷ []) rest all h (EachAfter-last (KeepsObject spaces) [] done o each (object_read spaces done value o (placed-Ok 4
    _ _ o is_o))))

-- jobs

pub jobs_kept : (done : List JobEntry) (ds : Items) (all : List JobEntry) → entries_from done ds ≡ Ok all → All KeepsJob done → All KeepsJob all
unfolding entries_from
jobs_kept done no_items all h each = let same : done ≡ all = cc in subst (All KeepsJob) same each
jobs_kept done (item value rest) all h each =
    after (placed 6 (length done) (job_in (length done) value)) _ all h (λ j is_j h.
    jobs_kept (done ++ j ∷ []) rest all h (All-push KeepsJob done j each (job_kept (length done) value j (placed-Ok 6 _ _ j is_j))))
