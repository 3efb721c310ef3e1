-- The first world of a scenario is whole, and can be saved.
use Rattle.std.proofs.Common.{◌≡◌, ℕ, zero, suc, ◌-◌, ◌*◌, ◌≤◌, Bool, true, false, cond, if◌then◌else◌, not, ◌&&◌, ◌==◌, nat_lt, nat_le, List, []}
use Rattle.std.proofs.Common.{◌∷◌, ◌++◌, length, take, drop, replicate, reverse, map, get_or, Option, Some, None, refl, ap, ◌∙◌, arith}
use Rattle.std.proofs.lemmas.List.Elements.{All-get_or}
use Rattle.std.specs.List.{flat_map, list_all, slice_get}
use Rattle.std.proofs.lemmas.Bool.{and_parts, le-leb}
use Rattle.std.proofs.lemmas.List.{length-append, length-replicate, length-take}
use Rattle.std.proofs.Math.Nat.{min-le_left}
use Rattle.fk_model.specs.declared.limits.TheConstants.{LAST_USER_SLOT, LAST_PORTER_SLOT, PAGE_WORDS}
use Rattle.fk_model.specs.Places.{Path, same_path, slot_of}
use Rattle.fk_model.specs.Places.Ptr.{At}
use Rattle.fk_model.specs.Objects.{Talk, Fault, Thread, thread_of, and_then}
use Rattle.fk_model.specs.World.{World, Change, Edit, apply, apply_all}
use Rattle.fk_model.specs.World.Change.{Alter, Make, MakeSpace, PutPage}
use Rattle.fk_model.specs.World.Edit.{SetPointer, SetMember}
use Rattle.fk_model.specs.Searches.{slots, depth, talk_at, fault_at}
use Rattle.fk_model.specs.Holds.{holder_of}
use Rattle.fk_model.specs.StateRows.{is_native}
use Rattle.fk_model.specs.Whole.{stands_in, is_scratch_slot, are_words, HasFullPages, IsSavable}
use Rattle.laws_moves.specs.Whole.Runnable.{IsRunnable}
use Rattle.laws_moves.proofs.InWhole.Laws.{savable_runnable}
use Rattle.laws_moves.proofs.InSavable.Words.{AreWords, below-word, all-words, words-append, words-take, words-drop, words-zeros}
use Rattle.laws_moves.proofs.InSavable.Kept.{IsTidy, IsKept, AreKept}
use Rattle.laws_moves.proofs.InSavable.Standing.{low-stands}
use Rattle.laws_moves.proofs.InSavable.Laws.{savable-all}
use Rattle.fk_scenario.specs.declared.entries.types.Program.{Program}
use Rattle.fk_scenario.specs.declared.entries.types.SpaceEntry.{SpaceEntry}
use Rattle.fk_scenario.specs.declared.entries.types.ObjectEntry.{ObjectEntry}
use Rattle.fk_scenario.specs.declared.entries.types.Spec.{Spec}
use Rattle.fk_scenario.specs.declared.entries.types.Spec.TheVariants as specs
use Rattle.fk_scenario.specs.declared.scenario.scenario.Scenario.{Scenario}
use Rattle.fk_scenario.specs.Entries.Kept.{AreSlots, IsSpecInRange}
use Rattle.fk_scenario.specs.Sections.Kept.{EachAfter, KeepsSpace, KeepsObject}
use Rattle.fk_scenario.specs.Scenario.Kept.{KeepsScenario}
use Rattle.fk_store.specs.Store.World.{first_world}
use Rattle.fk_scenario.specs.Scenario.Servers.{has_key}
use Rattle.fk_boot.specs.Words.{has_words, HasWords}
use Rattle.fk_boot.specs.FirstWorld.{words_in, page_words, zero_pages, program_page, words_of_program, space_itself, space_changes, first_body}
use Rattle.fk_boot.specs.FirstWorld.{object_changes, aims, points_to, belongs_to, aim_changes, porter, porter_changes, served_ports, boot_changes}
use Rattle.fk_boot.specs.FirstWorld.{booted}
use Rattle.fk_boot.proofs.Changes.{apply_all-append}
use Rattle.fk_boot.proofs.MadeSoFar.{first-stands}
use Rattle.fk_boot.proofs.Walks.{last}
use Rattle.fk_boot.proofs.validity.Whole.{first-consistent, spaces-safe, boot-safe, booted-valid}

-- ---- what the first changes meet, whatever the world

abbrev IsFirstEdit : Edit → Type 0
IsFirstEdit (SetPointer to) = Unit {0}
IsFirstEdit (SetMember set) = Unit {0}
IsFirstEdit other = ⊥

-- users' objects in users' slots, spaces that nobody holds, full pages of words
abbrev IsFirst : Change → Type 0
IsFirst (Alter x edit) = IsFirstEdit edit
IsFirst (Make x body) = (stands_in (slot_of x) body ≡ true) × IsTidy body × (is_scratch_slot (slot_of x) ≡ false)
IsFirst (MakeSpace x holder) = (nat_le (slot_of x) LAST_USER_SLOT ≡ true) × (holder ≡ None)
IsFirst (PutPage space page words) = (length words ≡ PAGE_WORDS) × AreWords words
IsFirst other = ⊥

abbrev AreFirst : List Change → Type 0
AreFirst [] = Unit {0}
AreFirst (c ∷ cs) = IsFirst c × AreFirst cs

first-then : (cs ds : List Change) → AreFirst cs → AreFirst ds → AreFirst (cs ++ ds)
first-then [] ds first after = after
first-then (c ∷ cs) ds first after = (first.0, first-then cs ds first.1 after)

-- a user's slot is none of scratch
no-scratch : (k : ℕ) → nat_le k LAST_USER_SLOT ≡ true → is_scratch_slot k ≡ false
no-scratch k low = rw low refl

kept-first : (c : Change) (v : World) → IsFirst c → IsKept v c
kept-first (Alter x (SetPointer to)) v first = tt
kept-first (Alter x (SetMember set)) v first = tt
kept-first (Alter x edit) v first = absurd first
kept-first (Make x body) v first = (first.0, first.1, λ scratch. let no = first.2 in cc)
kept-first (MakeSpace x None) v first = (first.0, tt)
kept-first (MakeSpace x (Some holder)) v first = let never = first.1 in cc
kept-first (PutPage space page words) v first = first.1
kept-first c v first = absurd first

all-kept : (cs : List Change) (v : World) → AreFirst cs → AreKept v cs
all-kept [] v first = tt
all-kept (c ∷ cs) v first = (kept-first c v first.0, all-kept cs (apply c v) first.1)

put-full : (v : World) → HasFullPages v → (c : Change) → IsFirst c → HasFullPages (apply c v)
unfolding apply
put-full v full (PutPage space page new) first s g words h = by (same_path s space && g == page) h
  where
    by : (t : Bool) → (cond t (Some new) (v.page s g)) ≡ Some words → length words ≡ PAGE_WORDS
    by true h = let same : new ≡ words = cc in rw (← same) first.0
    by false h = full s g words h
put-full v full (Alter x edit) first s g words h = full s g words h
put-full v full (Make x body) first s g words h = full s g words h
put-full v full (MakeSpace x holder) first s g words h = full s g words h
put-full v full c first s g words h = absurd first

all-full : (cs : List Change) (v : World) → HasFullPages v → AreFirst cs → HasFullPages (apply_all cs v)
unfolding apply_all
all-full [] v full first = full
all-full (c ∷ cs) v full first = all-full cs (apply c v) (put-full v full c first.0) first.1

-- ---- spaces and their pages

length-page : (words : List ℕ) → length words ≤ PAGE_WORDS → length (page_words words) ≡ PAGE_WORDS
length-page words few =
    let both = length-append words (replicate (PAGE_WORDS - length words) 0) in
    omega (arith, few, both, length-replicate {A = ℕ} (PAGE_WORDS - length words) 0)

zeros-first : (space : Path) (pages : List ℕ) → AreFirst (zero_pages space pages)
zeros-first space [] = tt
zeros-first space (page ∷ pages) = ((length-page [] (omega arith), words-zeros 64), zeros-first space pages)

page-all : (words : List ℕ) → AreWords words → AreWords (page_words words)
page-all words all = words-append words (replicate (PAGE_WORDS - length words) 0) all (words-zeros (PAGE_WORDS - length words))

length-first : (k : ℕ) (words : List ℕ) → length (take k words) ≤ k
length-first k words = let e = length-take k words in let least = min-le_left k (length words) in omega (arith, e, least)

part-first : (space : Path) (words : List ℕ) (page : ℕ) → AreWords words → AreFirst (program_page space words page)
part-first space words page all = by (nat_lt (page * PAGE_WORDS) (length words))
  where
    by : (t : Bool) → AreFirst (cond t (PutPage space page (page_words (take PAGE_WORDS (drop (page * PAGE_WORDS) words))) ∷ []) [])
    by true = (
      (
        length-page (take PAGE_WORDS (drop (page * PAGE_WORDS) words)) (length-first PAGE_WORDS (drop (page * PAGE_WORDS) words)),
        page-all _ (words-take PAGE_WORDS (drop (page * PAGE_WORDS) words) (words-drop (page * PAGE_WORDS) words all)),
      ),
      tt,
    )
    by false = tt

parts-first : (space : Path) (words pages : List ℕ) → AreWords words → AreFirst (flat_map (program_page space words) pages)
parts-first space words [] all = tt
parts-first space words (page ∷ pages) all =
    first-then (program_page space words page) _ (part-first space words page all) (parts-first space words pages all)

-- the words of the program that a space names
program-all : (programs : List Program) (index : Option ℕ) → list_all (λ (p : Program). are_words p.words) programs ≡ true →
    AreWords (words_of_program programs index)
program-all programs None all = tt
program-all programs (Some index) all = by programs index all
  where
    by : (ps : List Program) (i : ℕ) → list_all (λ (p : Program). are_words p.words) ps ≡ true → AreWords (words_in (slice_get ps i))
    by [] i all = tt
    by (p ∷ ps) zero all = all-words p.words (and_parts (are_words p.words) _ all).0
    by (p ∷ ps) (suc i) all = by ps i (and_parts (are_words p.words) _ all).1

-- the last slot of a path is a user's
low-slot : (path : List ℕ) → 1 ≤ length path → AreSlots path → nat_le (slot_of (reverse path)) LAST_USER_SLOT ≡ true
low-slot path inside few =
    let low = All-get_or (λ slot. slot ≤ 239) path (length path - 1) 0 (omega (arith, inside)) few in
    rw (last path inside) (le-leb (get_or path (length path - 1) 0) LAST_USER_SLOT low)

itself-first : (path : List ℕ) → AreSlots path → AreFirst (space_itself (reverse path))
itself-first [] few = tt
itself-first (k ∷ path) few =
    let low = low-slot (k ∷ path) (omega arith) few in
    let ends = last (k ∷ path) (omega arith) in
    rw ends ((rw ends at low, refl), tt)

space-first : (programs : List Program) (before : List SpaceEntry) (s : SpaceEntry) → list_all (λ (p : Program). are_words p.words) programs ≡ true →
    KeepsSpace programs before s → AreFirst (space_changes programs s)
space-first programs before s all keeps =
    first-then (space_itself (reverse s.path)) _ (itself-first s.path keeps.slots)
    (first-then (zero_pages (reverse s.path) s.pages) _ (zeros-first (reverse s.path) s.pages)
    (parts-first (reverse s.path) (words_of_program programs s.program) (slots 256) (program-all programs s.program all)))

spaces-first : (programs : List Program) (before ss : List SpaceEntry) → list_all (λ (p : Program). are_words p.words) programs ≡ true →
    EachAfter (KeepsSpace programs) before ss → AreFirst (flat_map (space_changes programs) ss)
spaces-first programs before [] all each = tt
spaces-first programs before (s ∷ ss) all each =
    first-then (space_changes programs s) _ (space-first programs before s all each.0) (spaces-first programs (before ++ s ∷ []) ss all each.1)

-- ---- objects, and where they lead

first-native : (served : Bool) (spec : Spec) → is_native (first_body served spec) ≡ false
first-native served (specs.Thread entry regs stops) = refl
first-native served (specs.Mutex locked) = refl
first-native served specs.Cond = refl
first-native served specs.Portset = refl
first-native served (specs.Mapping region first count offset write) = refl
first-native served (specs.Region first count write keeper) = refl
first-native served (specs.Port set) = refl
first-native served (specs.Reference to) = refl

length-registers : (regs : List ℕ) → length regs ≤ 16 → length (regs ++ replicate (16 - length regs) 0) ≡ 16
length-registers regs few =
    let both = length-append regs (replicate (16 - length regs) 0) in omega (arith, few, both, length-replicate {A = ℕ} (16 - length regs) 0)

first-tidy : (served : Bool) (spec : Spec) → IsSpecInRange spec → has_words spec ≡ true → IsTidy (first_body served spec)
first-tidy served (specs.Thread entry regs stops) range all =
    let low = range.0 in
    record {
      shaped = length-registers regs range.1;
      stops = range.2;
      code = tt;
      numbers = words-append regs (replicate (16 - length regs) 0) (all-words regs all) (words-zeros (16 - length regs));
      counter = below-word entry (omega (arith, low));
      moved = tt;
      missing = tt;
    }
first-tidy served (specs.Mutex locked) range all = tt
first-tidy served specs.Cond range all = tt
first-tidy served specs.Portset range all = tt
first-tidy served (specs.Mapping region first count offset write) range all = tt
first-tidy served (specs.Region first count write keeper) range all = tt
first-tidy served (specs.Port set) range all = tt
first-tidy served (specs.Reference to) range all = tt

objects-first : (ports : List (List ℕ)) (spaces : List SpaceEntry) (before os : List ObjectEntry) → list_all (λ (o : ObjectEntry). has_words o.spec) os ≡ true →
    EachAfter (KeepsObject spaces) before os → AreFirst (flat_map (object_changes ports) os)
objects-first ports spaces before [] all each = tt
objects-first ports spaces before (o ∷ os) all each =
    let keeps = each.0 in
    let both = and_parts (has_words o.spec) (list_all (λ (o : ObjectEntry). has_words o.spec) os) all in
    let low = low-slot o.path keeps.inside keeps.slots in
    let served = has_key ports o.path in (
      (
        low-stands (slot_of (reverse o.path)) (first_body served o.spec) low (first-native served o.spec),
        first-tidy served o.spec keeps.in_range both.0,
        no-scratch (slot_of (reverse o.path)) low,
      ),
      objects-first ports spaces (before ++ o ∷ []) os both.1 each.1,
    )

points-first : (x : Path) (to : Option (List ℕ)) → AreFirst (map (Alter x) (points_to to))
points-first x None = tt
points-first x (Some path) = (tt, tt)

belongs-first : (x : Path) (set : Option ℕ) → AreFirst (map (Alter x) (belongs_to set))
belongs-first x None = tt
belongs-first x (Some slot) = (tt, tt)

aim-first : (x : Path) (spec : Spec) → AreFirst (map (Alter x) (aims spec))
aim-first x (specs.Mapping region first count offset write) = points-first x region
aim-first x (specs.Region first count write keeper) = points-first x keeper
aim-first x (specs.Reference to) = points-first x to
aim-first x (specs.Port set) = belongs-first x set
aim-first x (specs.Thread entry regs stops) = tt
aim-first x (specs.Mutex locked) = tt
aim-first x specs.Cond = tt
aim-first x specs.Portset = tt

aims-first : (os : List ObjectEntry) → AreFirst (flat_map aim_changes os)
aims-first [] = tt
aims-first (o ∷ os) = first-then (aim_changes o) _ (aim-first (reverse o.path) o.spec) (aims-first os)

porters-first : (ss : List SpaceEntry) → AreFirst (flat_map porter_changes ss)
porters-first [] = tt
porters-first (s ∷ ss) = first-then (porter_changes s) _ (by s.nester) (porters-first ss)
  where
    by : (nests : Bool) → AreFirst (if nests then Make (LAST_PORTER_SLOT ∷ reverse s.path) porter ∷ [] else [])
    by true = (
      (
        refl,
        record {
          shaped = refl;
          stops = omega arith;
          code = tt;
          numbers = words-zeros 16;
          counter = refl;
          moved = tt;
          missing = tt;
        },
        refl,
      ),
      tt,
    )
    by false = tt

boot-first : (s : Scenario) → KeepsScenario s → HasWords s → AreFirst (boot_changes s)
boot-first s keeps words =
    let ports = served_ports s.servers in
    first-then (flat_map (space_changes s.programs) s.spaces) _ (spaces-first s.programs [] s.spaces words.programs keeps.spaces)
    (first-then (flat_map (object_changes ports) s.objects) _ (objects-first ports s.spaces [] s.objects words.objects keeps.objects)
    (first-then (flat_map aim_changes s.objects) _ (aims-first s.objects) (porters-first s.spaces)))

-- ---- the root alone

first-savable : IsSavable first_world
first-savable = record {
  younger = λ k x birth above h g. absurd (cc);
  shaped = λ x t h. absurd (threadless x t h);
  few_stops = λ x t h. absurd (threadless x t h);
  codes = λ x t h. absurd (threadless x t h);
  holders_outside = λ x y h. absurd (unheld x y h);
  talks_placed = λ x talk h. absurd (talkless x talk h);
  faults_placed = λ x fault taker h is. absurd (faultless x fault h);
  slots_kept = λ k x b h. absurd (cc);
  scratch_kept = λ k x scratch h. absurd (cc);
  numbers = record {
    registers = λ x t h. absurd (threadless x t h);
    counters = λ x t h. absurd (threadless x t h);
    moved = λ x talk h. absurd (talkless x talk h);
    missing = λ x fault h. absurd (faultless x fault h);
    pages = λ s page words h. absurd (cc);
  };
}
  where
    threadless : (x : Path) (t : Thread) → and_then thread_of (first_world.body x) ≡ Some t → ⊥
    threadless [] t h = cc
    threadless (k ∷ x) t h = cc

    unheld : (x y : Path) → holder_of (first_world.body x) ≡ Some (At y) → ⊥
    unheld [] y h = cc
    unheld (k ∷ x) y h = cc

    talkless : (x : Path) (talk : Talk) → talk_at first_world x ≡ Some talk → ⊥
    talkless [] talk h = cc
    talkless (k ∷ x) talk h = cc

    faultless : (x : Path) (fault : Fault) → fault_at first_world x ≡ Some fault → ⊥
    faultless [] fault h = cc
    faultless (k ∷ x) fault h = cc

-- ---- the whole

object-next : (ports : List (List ℕ)) (os : List ObjectEntry) (w : World) → (apply_all (flat_map (object_changes ports) os) w).next ≡ w.next
unfolding apply apply_all
object-next ports [] w = refl
object-next ports (o ∷ os) w = object-next ports os (apply (Make (reverse o.path) (first_body (has_key ports o.path) o.spec)) w)

edits-next : (x : Path) (edits : List Edit) (w : World) → (apply_all (map (Alter x) edits) w).next ≡ w.next
unfolding apply apply_all
edits-next x [] w = refl
edits-next x (edit ∷ edits) w = edits-next x edits (apply (Alter x edit) w)

aim-next : (os : List ObjectEntry) (w : World) → (apply_all (flat_map aim_changes os) w).next ≡ w.next
unfolding apply_all
aim-next [] w = refl
aim-next (o ∷ os) w =
    ap (λ (v : World). v.next) (apply_all-append (aim_changes o) (flat_map aim_changes os) w) ∙ aim-next os (apply_all (aim_changes o) w)
    ∙ edits-next (reverse o.path) (aims o.spec) w

porter-next : (ss : List SpaceEntry) (w : World) → (apply_all (flat_map porter_changes ss) w).next ≡ w.next
unfolding apply apply_all
porter-next [] w = refl
porter-next (s ∷ ss) w =
    ap (λ (v : World). v.next) (apply_all-append (porter_changes s) (flat_map porter_changes ss) w)
    ∙ (porter-next ss (apply_all (porter_changes s) w) ∙ by s.nester)
  where
    by : (nests : Bool) → (apply_all (if nests then Make (LAST_PORTER_SLOT ∷ reverse s.path) porter ∷ [] else []) w).next ≡ w.next
    by true = refl
    by false = refl

pub booted-few : (s : Scenario) → KeepsScenario s → (booted s).next ≤ 256
unfolding booted
booted-few s keeps =
    let made = flat_map (space_changes s.programs) s.spaces in
    let put = flat_map (object_changes (served_ports s.servers)) s.objects in
    let aimed = flat_map aim_changes s.objects in
    let nested = flat_map porter_changes s.spaces in
    let stands = (spaces-safe s.programs [] s.spaces first_world first-stands keeps.spaces).1 in
    let w = apply_all made first_world in
    let v = apply_all put w in
    let same = ap (λ (v : World). v.next) (apply_all-append made (put ++ (aimed ++ nested)) first_world)
    ∙ (ap (λ (v : World). v.next) (apply_all-append put (aimed ++ nested) w)
    ∙ (ap (λ (v : World). v.next) (apply_all-append aimed nested v)
    ∙ (porter-next s.spaces (apply_all aimed v) ∙ (aim-next s.objects v ∙ (object-next (served_ports s.servers) s.objects w ∙ stands.next))))) in
    let few = keeps.few_spaces in
    rw same (omega (arith, few))

none-full : HasFullPages first_world
none-full s page words h = absurd (cc)

pub booted-full : (s : Scenario) → KeepsScenario s → HasWords s → HasFullPages (booted s)
unfolding booted
booted-full s keeps words = all-full (boot_changes s) first_world none-full (boot-first s keeps words)

pub booted-savable : (s : Scenario) → KeepsScenario s → HasWords s → IsSavable (booted s)
unfolding booted
booted-savable s keeps words =
    savable-all (boot_changes s) first_world first-consistent first-savable (boot-safe s keeps)
    (all-kept (boot_changes s) first_world (boot-first s keeps words))

pub booted-runnable : (s : Scenario) → KeepsScenario s → HasWords s → IsRunnable (booted s)
booted-runnable s keeps words = savable_runnable (booted s)
    (record { valid = booted-valid s keeps; few = (let few = booted-few s keeps in omega (arith, few)); full = booted-full s keeps words })
    (booted-savable s keeps words)
