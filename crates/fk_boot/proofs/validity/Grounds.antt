-- The first world of a scenario, change by change.
use Rattle.std.proofs.Common.{◌≡◌, ℕ, ◌-◌, ◌*◌, ◌≤◌, Bool, true, false, cond, if◌then◌else◌, ◌&&◌, ◌||◌, nat_lt, nat_le, is_none, is_some, List, [], ◌∷◌, ◌++◌, length}
use Rattle.std.proofs.Common.{take, drop, reverse, map, get_or, Option, Some, None, option_map, refl, sym, ap, ◌∙◌, arith}
use Rattle.std.proofs.lemmas.List.Elements.{All-get_or}
use Rattle.std.specs.List.{flat_map, list_any}
use Rattle.std.proofs.lemmas.Slice.Eq.{bytes_eq-Decides}
use Rattle.std.specs.Str.{bytes_eq}
use Rattle.std.proofs.lemmas.Bool.{and_parts, le-leb, leb-true, lt-leb}
use Rattle.fk_model.specs.declared.limits.TheConstants.{LAST_USER_SLOT, LAST_SCRATCH_SLOT, FIRST_SCRATCH_SLOT, LAST_PORTER_SLOT, PAGE_WORDS}
use Rattle.fk_model.specs.Places.{Path, same_path, slot_of, Ptr}
use Rattle.fk_model.specs.Places.Ptr.{At}
use Rattle.fk_model.specs.Objects.{Body, Talk, Fault, Thread, thread_of, and_then, holds, is_served}
use Rattle.fk_model.specs.Objects.Body.{Mutex, Cond, Mapping, Region, Port, Portset, Space, Thread_of, Reference}
use Rattle.fk_model.specs.World.{World, Change, Edit, edited, apply, apply_all}
use Rattle.fk_model.specs.World.Change.{Alter, Make, MakeSpace, PutPage}
use Rattle.fk_model.specs.World.Edit.{SetPointer, SetMember}
use Rattle.fk_model.specs.ObjectRows.{is_scratch}
use Rattle.fk_model.specs.Searches.{slots, pointers}
use Rattle.fk_model.specs.Freezing.{body_pointers}
use Rattle.fk_model.specs.StateRows.{is_native}
use Rattle.fk_model.specs.Whole.{is_scratch_slot}
use Rattle.fk_model.specs.Holds.{holder_of}
use Rattle.fk_model.specs.Sound.{is_cut_pointer, IsUncut, IsClean, IsIdle}
use Rattle.fk_model.proofs.walks.PlaceLaws.{same_path_eq, same_path_refl}
use Rattle.fk_scenario.specs.declared.entries.types.Program.{Program}
use Rattle.fk_scenario.specs.declared.entries.types.SpaceEntry.{SpaceEntry}
use Rattle.fk_scenario.specs.declared.entries.types.ObjectEntry.{ObjectEntry}
use Rattle.fk_scenario.specs.declared.entries.types.Spec.{Spec}
use Rattle.fk_scenario.specs.declared.entries.types.Spec.TheVariants as specs
use Rattle.fk_scenario.specs.Entries.Kept.{AreSlots}
use Rattle.fk_scenario.specs.Sections.Kept.{EachAfter, KeepsSpace, KeepsObject}
use Rattle.fk_scenario.specs.declared.scenario.scenario.Scenario.{Scenario}
use Rattle.fk_scenario.specs.Scenario.Kept.{KeepsScenario}
use Rattle.fk_scenario.specs.Scenario.Servers.{has_key}
use Rattle.fk_store.specs.Store.World.{first_world}
use Rattle.fk_boot.specs.FirstWorld.{page_words, zero_pages, program_page, words_of_program, space_itself, space_changes, first_body, object_changes, aims}
use Rattle.fk_boot.specs.FirstWorld.{points_to, belongs_to, aim_changes, porter, porter_changes, served_ports, boot_changes, booted}
use Rattle.fk_boot.proofs.Changes.{apply_all-append}
use Rattle.fk_boot.proofs.MadeSoFar.{first-stands}
use Rattle.fk_boot.proofs.Walks.{last}
use Rattle.fk_boot.proofs.validity.Whole.{spaces-safe}

-- a place is the last slot of a nester
abbrev pub is_porters : List SpaceEntry → Path → Bool
is_porters spaces y = list_any (λ (s : SpaceEntry). s.nester && same_path y (LAST_PORTER_SLOT ∷ reverse s.path)) spaces

-- it is that of a server's port
abbrev pub is_servers : List (List ℕ) → Path → Bool
is_servers ports y = list_any (λ (port : List ℕ). same_path y (reverse port)) ports

abbrev talk_in : Option Body → Option Talk
talk_in o = and_then (λ (t : Thread). t.talk) (and_then thread_of o)

abbrev fault_in : Option Body → Option Fault
fault_in o = and_then (λ (t : Thread). t.fault) (and_then thread_of o)

-- a space that is held, and a thread with a talk or a fault
abbrev pub is_busy : Body → Bool
is_busy (Space birth holder) = is_some holder
is_busy (Thread_of t) = is_some t.talk || is_some t.fault
is_busy other = false

abbrev pub IsGroundEdit : Edit → Type 0
IsGroundEdit (SetPointer (At x)) = Unit {0}
IsGroundEdit (SetMember set) = Unit {0}
IsGroundEdit other = ⊥

module _ (spaces : List SpaceEntry) (ports : List (List ℕ)) where
  -- nothing in a slot of scratch, porters and served ports where they belong
  abbrev pub IsGroundChange : Change → Type 0
  IsGroundChange (Alter x edit) = IsGroundEdit edit
  IsGroundChange (Make x b) =
      (is_scratch_slot (slot_of x) ≡ false) × (is_native b ≡ true → is_porters spaces x ≡ true) × (is_served b ≡ true → is_servers ports x ≡ true)
      × (list_any is_cut_pointer (pointers b) ≡ false) × (is_busy b ≡ false)
  IsGroundChange (MakeSpace x holder) = (is_scratch_slot (slot_of x) ≡ false) × (holder ≡ None)
  IsGroundChange (PutPage space page words) = Unit {0}
  IsGroundChange other = ⊥

  abbrev pub AreGround : List Change → Type 0
  AreGround [] = Unit {0}
  AreGround (c ∷ cs) = IsGroundChange c × AreGround cs

  record Holds (w : World) : Type 0 where
    clean : (k : ℕ) (x : Path) → is_scratch_slot k ≡ true → w.body (k ∷ x) ≡ None
    porters : (y : Path) → holds is_native (w.body y) ≡ true → is_porters spaces y ≡ true
    served : (y : Path) → holds is_served (w.body y) ≡ true → is_servers ports y ≡ true
    uncut : (y : Path) → list_any is_cut_pointer (body_pointers (w.body y)) ≡ false
    idle : (y : Path) → holds is_busy (w.body y) ≡ false

  ground-then : (cs ds : List Change) → AreGround cs → AreGround ds → AreGround (cs ++ ds)
  ground-then [] ds first later = later
  ground-then (c ∷ cs) ds first later = (first.0, ground-then cs ds first.1 later)

  -- ---- edits leave who is native, and who is served

  pub native-pointer : (edit : Edit) → IsGroundEdit edit → (b : Body) → is_native (edited edit b) ≡ is_native b
  unfolding edited
  native-pointer (SetPointer to) good (Mapping m) = refl
  native-pointer (SetPointer to) good (Region r) = refl
  native-pointer (SetPointer to) good (Reference old) = refl
  native-pointer (SetPointer to) good b = refl
  native-pointer (SetMember set) good (Port old served) = refl
  native-pointer (SetMember set) good b = refl
  native-pointer edit good b = absurd good

  pub served-pointer : (edit : Edit) → IsGroundEdit edit → (b : Body) → is_served (edited edit b) ≡ is_served b
  unfolding edited
  served-pointer (SetPointer to) good (Mapping m) = refl
  served-pointer (SetPointer to) good (Region r) = refl
  served-pointer (SetPointer to) good (Reference old) = refl
  served-pointer (SetPointer to) good b = refl
  served-pointer (SetMember set) good (Port old served) = refl
  served-pointer (SetMember set) good b = refl
  served-pointer edit good b = absurd good

  busy-pointer : (edit : Edit) → IsGroundEdit edit → (b : Body) → is_busy (edited edit b) ≡ is_busy b
  unfolding edited
  busy-pointer (SetPointer to) good (Mapping m) = refl
  busy-pointer (SetPointer to) good (Region r) = refl
  busy-pointer (SetPointer to) good (Reference old) = refl
  busy-pointer (SetPointer to) good b = refl
  busy-pointer (SetMember set) good (Port old served) = refl
  busy-pointer (SetMember set) good b = refl
  busy-pointer edit good b = absurd good

  uncut-edit : (edit : Edit) → IsGroundEdit edit → (b : Body) → list_any is_cut_pointer (pointers b) ≡ false
      → list_any is_cut_pointer (pointers (edited edit b)) ≡ false
  unfolding edited
  uncut-edit (SetPointer (At x)) good (Mapping m) h = refl
  uncut-edit (SetPointer (At x)) good (Region r) h = refl
  uncut-edit (SetPointer (At x)) good (Reference old) h = refl
  uncut-edit (SetPointer (At x)) good b h = h
  uncut-edit (SetMember set) good (Port old served) h = refl
  uncut-edit (SetMember set) good b h = h
  uncut-edit edit good b h = absurd good

  uncut-under : (edit : Edit) → IsGroundEdit edit → (t : Bool) (o : Option Body) → list_any is_cut_pointer (body_pointers o) ≡ false →
      list_any is_cut_pointer (body_pointers (cond t (option_map (edited edit) o) o)) ≡ false
  uncut-under edit good true None h = h
  uncut-under edit good true (Some b) h = uncut-edit edit good b h
  uncut-under edit good false o h = h

  uncut-made : (b : Body) (t : Bool) (o : Option Body) → list_any is_cut_pointer (pointers b) ≡ false → list_any is_cut_pointer (body_pointers o) ≡ false →
      list_any is_cut_pointer (body_pointers (cond t (Some b) o)) ≡ false
  uncut-made b true o good h = good
  uncut-made b false o good h = h

  pub under : (test : Body → Bool) (f : Body → Body) → ((b : Body) → test (f b) ≡ test b) → (t : Bool) (o : Option Body)
      → holds test (cond t (option_map f o) o) ≡ holds test o
  under test f same true None = refl
  under test f same true (Some b) = same b
  under test f same false o = refl

  emptied : (f : Body → Body) (t : Bool) (o : Option Body) → o ≡ None → cond t (option_map f o) o ≡ None
  emptied f true o none = rw none refl
  emptied f false o none = none

  no_slot : (k : ℕ) (s x : Path) (b : Body) (o : Option Body) → is_scratch_slot (slot_of x) ≡ false → is_scratch_slot k ≡ true → o ≡ None → (t : Bool)
      → same_path (k ∷ s) x ≡ t → cond t (Some b) o ≡ None
  no_slot k s x b o off scratch none true e =
      let here = same_path_eq (k ∷ s) x e in
      let on : is_scratch_slot (slot_of x) ≡ true = rw (← here) scratch in
      let clash = sym on ∙ off in cc
  no_slot k s x b o off scratch none false e = none

  made_test : (test : Body → Bool) (place : Path → Bool) (x y : Path) (b : Body) (o : Option Body) → (test b ≡ true → place x ≡ true)
      → (holds test o ≡ true → place y ≡ true) → (t : Bool) → same_path y x ≡ t →
      holds test (cond t (Some b) o) ≡ true → place y ≡ true
  made_test test place x y b o good before true e h = let here = same_path_eq y x e in rw here (good h)
  made_test test place x y b o good before false e h = before h

  made_idle : (b : Body) (t : Bool) (o : Option Body) → is_busy b ≡ false → holds is_busy o ≡ false → holds is_busy (cond t (Some b) o) ≡ false
  made_idle b true o good h = good
  made_idle b false o good h = h

  idle-space : (birth : ℕ) (holder : Option Ptr) → holder ≡ None → is_busy (Space birth holder) ≡ false
  idle-space birth holder none = rw none refl

  unheld-space : (birth : ℕ) (holder : Option Ptr) → holder ≡ None → list_any is_cut_pointer (pointers (Space birth holder)) ≡ false
  unheld-space birth holder none = rw none refl

  keeps : (c : Change) (w : World) → IsGroundChange c → Holds w → Holds (apply c w)
  unfolding apply
  keeps (Alter x edit) w good its = record {
    clean = λ k s scratch. emptied (edited edit) (same_path (k ∷ s) x) (w.body (k ∷ s)) (its.clean k s scratch);
    porters = λ y native. its.porters y (sym (under is_native (edited edit) (native-pointer edit good) (same_path y x) (w.body y)) ∙ native);
    served = λ y serves. its.served y (sym (under is_served (edited edit) (served-pointer edit good) (same_path y x) (w.body y)) ∙ serves);
    uncut = λ y. uncut-under edit good (same_path y x) (w.body y) (its.uncut y);
    idle = λ y. under is_busy (edited edit) (busy-pointer edit good) (same_path y x) (w.body y) ∙ its.idle y;
  }
  keeps (Make x b) w good its = record {
    clean = λ k s scratch. no_slot k s x b (w.body (k ∷ s)) good.0 scratch (its.clean k s scratch) (same_path (k ∷ s) x) refl;
    porters = λ y native. made_test is_native (is_porters spaces) x y b (w.body y) good.1 (its.porters y) (same_path y x) refl native;
    served = λ y serves. made_test is_served (is_servers ports) x y b (w.body y) good.2 (its.served y) (same_path y x) refl serves;
    uncut = λ y. uncut-made b (same_path y x) (w.body y) good.3 (its.uncut y);
    idle = λ y. made_idle b (same_path y x) (w.body y) good.4 (its.idle y);
  }
  keeps (MakeSpace x holder) w good its = record {
    clean = λ k s scratch. no_slot k s x (Space w.next holder) (w.body (k ∷ s)) good.0 scratch (its.clean k s scratch) (same_path (k ∷ s) x) refl;
    porters = λ y native. made_test is_native (is_porters spaces) x y (Space w.next holder) (w.body y) (λ h. cc) (its.porters y) (same_path y x) refl native;
    served = λ y serves. made_test is_served (is_servers ports) x y (Space w.next holder) (w.body y) (λ h. cc) (its.served y) (same_path y x) refl serves;
    uncut = λ y. uncut-made (Space w.next holder) (same_path y x) (w.body y) (unheld-space w.next holder good.1) (its.uncut y);
    idle = λ y. made_idle (Space w.next holder) (same_path y x) (w.body y) (idle-space w.next holder good.1) (its.idle y);
  }
  keeps (PutPage space page words) w good its = record {
    clean = its.clean;
    porters = its.porters;
    served = its.served;
    uncut = its.uncut;
    idle = its.idle;
  }
  keeps c w good its = absurd good

  keeps_all : (cs : List Change) (w : World) → AreGround cs → Holds w → Holds (apply_all cs w)
  unfolding apply_all
  keeps_all [] w good its = its
  keeps_all (c ∷ cs) w good its = keeps_all cs (apply c w) good.1 (keeps c w good.0 its)

  -- ---- spaces, objects, aims and porters

  low-slot : (path : List ℕ) → 1 ≤ length path → AreSlots path → is_scratch_slot (slot_of (reverse path)) ≡ false
  low-slot path inside few =
      let low = All-get_or (λ slot. slot ≤ 239) path (length path - 1) 0 (omega (arith, inside)) few in
      rw (last path inside) (user (get_or path (length path - 1) 0) (le-leb (get_or path (length path - 1) 0) LAST_USER_SLOT low))
    where
      user : (k : ℕ) → nat_le k LAST_USER_SLOT ≡ true → is_scratch_slot k ≡ false
      user k low = rw low refl

  itself-ground : (path : List ℕ) → AreSlots path → AreGround (space_itself (reverse path))
  itself-ground [] few = tt
  itself-ground (k ∷ path) few =
      let low = low-slot (k ∷ path) (omega arith) few in
      let ends = last (k ∷ path) (omega arith) in
      rw ends ((rw ends at low, refl), tt)

  zeros-ground : (space : Path) (pages : List ℕ) → AreGround (zero_pages space pages)
  zeros-ground space [] = tt
  zeros-ground space (page ∷ pages) = (tt, zeros-ground space pages)

  part-ground : (space : Path) (words : List ℕ) (page : ℕ) → AreGround (program_page space words page)
  part-ground space words page = by (nat_lt (page * PAGE_WORDS) (length words))
    where
      by : (t : Bool) → AreGround (cond t (PutPage space page (page_words (take PAGE_WORDS (drop (page * PAGE_WORDS) words))) ∷ []) [])
      by true = (tt, tt)
      by false = tt

  parts-ground : (space : Path) (words pages : List ℕ) → AreGround (flat_map (program_page space words) pages)
  parts-ground space words [] = tt
  parts-ground space words (page ∷ pages) = ground-then (program_page space words page) _ (part-ground space words page) (parts-ground space words pages)

  spaces-ground : (programs : List Program) (before ss : List SpaceEntry) → EachAfter (KeepsSpace programs) before ss
      → AreGround (flat_map (space_changes programs) ss)
  spaces-ground programs before [] each = tt
  spaces-ground programs before (s ∷ ss) each =
      ground-then (space_changes programs s) _
      (ground-then (space_itself (reverse s.path)) _ (itself-ground s.path each.0.slots)
      (ground-then (zero_pages (reverse s.path) s.pages) _ (zeros-ground (reverse s.path) s.pages)
      (parts-ground (reverse s.path) (words_of_program programs s.program) (slots 256))))
      (spaces-ground programs (before ++ s ∷ []) ss each.1)

  first-native : (served : Bool) (spec : Spec) → is_native (first_body served spec) ≡ false
  first-native served (specs.Thread entry regs stops) = refl
  first-native served (specs.Mutex locked) = refl
  first-native served specs.Cond = refl
  first-native served specs.Portset = refl
  first-native served (specs.Mapping region first count offset write) = refl
  first-native served (specs.Region first count write keeper) = refl
  first-native served (specs.Port set) = refl
  first-native served (specs.Reference to) = refl

  -- only a port that some server has is served
  first-served : (served : Bool) (spec : Spec) → is_served (first_body served spec) ≡ true → served ≡ true
  first-served served (specs.Port set) h = (and_parts (is_none set) served h).1
  first-served served (specs.Thread entry regs stops) h = cc
  first-served served (specs.Mutex locked) h = cc
  first-served served specs.Cond h = cc
  first-served served specs.Portset h = cc
  first-served served (specs.Mapping region first count offset write) h = cc
  first-served served (specs.Region first count write keeper) h = cc
  first-served served (specs.Reference to) h = cc

  first-uncut : (served : Bool) (spec : Spec) → list_any is_cut_pointer (pointers (first_body served spec)) ≡ false
  first-uncut served (specs.Thread entry regs stops) = refl
  first-uncut served (specs.Mutex locked) = refl
  first-uncut served specs.Cond = refl
  first-uncut served specs.Portset = refl
  first-uncut served (specs.Mapping region first count offset write) = refl
  first-uncut served (specs.Region first count write keeper) = refl
  first-uncut served (specs.Port set) = refl
  first-uncut served (specs.Reference to) = refl

  first-idle : (served : Bool) (spec : Spec) → is_busy (first_body served spec) ≡ false
  first-idle served (specs.Thread entry regs stops) = refl
  first-idle served (specs.Mutex locked) = refl
  first-idle served specs.Cond = refl
  first-idle served specs.Portset = refl
  first-idle served (specs.Mapping region first count offset write) = refl
  first-idle served (specs.Region first count write keeper) = refl
  first-idle served (specs.Port set) = refl
  first-idle served (specs.Reference to) = refl

  same-places : (k key : List ℕ) (b : Bool) → bytes_eq k key ≡ b → (b || false) ≡ true → same_path (reverse key) (reverse k) ≡ true
  same-places k key true e h = let same : k ≡ key = (bytes_eq-Decides k key).0 e in rw same (same_path_refl (reverse key))
  same-places k key false e h = cc

  key-servers : (keys : List (List ℕ)) (key : List ℕ) → has_key keys key ≡ true → is_servers keys (reverse key) ≡ true
  key-servers [] key h = cc
  key-servers (k ∷ keys) key h = by (bytes_eq k key) refl h (key-servers keys key)
    where
      by : (b : Bool) → bytes_eq k key ≡ b → (b || has_key keys key) ≡ true → (has_key keys key ≡ true → is_servers keys (reverse key) ≡ true)
          → (same_path (reverse key) (reverse k) || is_servers keys (reverse key)) ≡ true
      by true e h later = rw (same-places k key true e refl) refl
      by false e h later = rw (later h) (or_last (same_path (reverse key) (reverse k)))
        where
          or_last : (t : Bool) → (t || true) ≡ true
          or_last true = refl
          or_last false = refl

  objects-ground : (before os : List ObjectEntry) → EachAfter (KeepsObject spaces) before os → AreGround (flat_map (object_changes ports) os)
  objects-ground before [] each = tt
  objects-ground before (o ∷ os) each =
      let keeps = each.0 in (
        (
          low-slot o.path keeps.inside keeps.slots,
          λ native. (let off = first-native (has_key ports o.path) o.spec in let clash = sym native ∙ off in cc),
          λ served. key-servers ports o.path (first-served (has_key ports o.path) o.spec served),
          first-uncut (has_key ports o.path) o.spec,
          first-idle (has_key ports o.path) o.spec,
        ),
        objects-ground (before ++ o ∷ []) os each.1,
      )

  points-ground : (x : Path) (to : Option (List ℕ)) → AreGround (map (Alter x) (points_to to))
  points-ground x None = tt
  points-ground x (Some path) = (tt, tt)

  belongs-ground : (x : Path) (set : Option ℕ) → AreGround (map (Alter x) (belongs_to set))
  belongs-ground x None = tt
  belongs-ground x (Some slot) = (tt, tt)

  aim-ground : (x : Path) (spec : Spec) → AreGround (map (Alter x) (aims spec))
  aim-ground x (specs.Mapping region first count offset write) = points-ground x region
  aim-ground x (specs.Region first count write keeper) = points-ground x keeper
  aim-ground x (specs.Reference to) = points-ground x to
  aim-ground x (specs.Port set) = belongs-ground x set
  aim-ground x (specs.Thread entry regs stops) = tt
  aim-ground x (specs.Mutex locked) = tt
  aim-ground x specs.Cond = tt
  aim-ground x specs.Portset = tt

  aims-ground : (os : List ObjectEntry) → AreGround (flat_map aim_changes os)
  aims-ground [] = tt
  aims-ground (o ∷ os) = ground-then (aim_changes o) _ (aim-ground (reverse o.path) o.spec) (aims-ground os)

-- each porter stands in the last slot of a nester
porters-ground : (spaces : List SpaceEntry) (ports : List (List ℕ)) (ss : List SpaceEntry)
    → ((y : Path) → is_porters ss y ≡ true → is_porters spaces y ≡ true) → AreGround spaces ports (flat_map porter_changes ss)
porters-ground spaces ports [] among = tt
porters-ground spaces ports (s ∷ ss) among =
    ground-then spaces ports (porter_changes s) _ (by s.nester refl)
    (porters-ground spaces ports ss (λ y h. among y (rw h (or_last (s.nester && same_path y (LAST_PORTER_SLOT ∷ reverse s.path))))))
  where
    or_last : (t : Bool) → (t || true) ≡ true
    or_last true = refl
    or_last false = refl

    here : s.nester ≡ true → is_porters (s ∷ ss) (LAST_PORTER_SLOT ∷ reverse s.path) ≡ true
    here nests = rw (nests, same_path_refl (LAST_PORTER_SLOT ∷ reverse s.path)) refl

    by : (nests : Bool) → s.nester ≡ nests → AreGround spaces ports (if nests then Make (LAST_PORTER_SLOT ∷ reverse s.path) porter ∷ [] else [])
    by true e = ((refl, (λ native. among (LAST_PORTER_SLOT ∷ reverse s.path) (here e)), (λ served. cc), refl, refl), tt)
    by false e = tt

pub boot-ground : (s : Scenario) → KeepsScenario s → AreGround s.spaces (served_ports s.servers) (boot_changes s)
boot-ground s keeps =
    let ports = served_ports s.servers in
    ground-then s.spaces ports (flat_map (space_changes s.programs) s.spaces) _ (spaces-ground s.spaces ports s.programs [] s.spaces keeps.spaces)
    (ground-then s.spaces ports (flat_map (object_changes ports) s.objects) _ (objects-ground s.spaces ports [] s.objects keeps.objects)
    (ground-then s.spaces ports (flat_map aim_changes s.objects) _ (aims-ground s.spaces ports s.objects) (porters-ground s.spaces ports s.spaces (λ y h. h))))

first-holds : (spaces : List SpaceEntry) (ports : List (List ℕ)) → Holds spaces ports first_world
first-holds spaces ports = record {
  clean = λ k x scratch. refl;
  porters = λ y native. nobody y native;
  served = λ y serves. unserved y serves;
  uncut = λ y. whole y;
  idle = λ y. nothing y;
}
  where
    nothing : (y : Path) → holds is_busy (first_world.body y) ≡ false
    nothing [] = refl
    nothing (k ∷ y) = refl

    nobody : (y : Path) → holds is_native (first_world.body y) ≡ true → is_porters spaces y ≡ true
    nobody [] native = cc
    nobody (k ∷ y) native = cc

    whole : (y : Path) → list_any is_cut_pointer (body_pointers (first_world.body y)) ≡ false
    whole [] = refl
    whole (k ∷ y) = refl

    unserved : (y : Path) → holds is_served (first_world.body y) ≡ true → is_servers ports y ≡ true
    unserved [] serves = cc
    unserved (k ∷ y) serves = cc

-- a scratch slot by its number
slot_of_scratch : (s : Path) (k : ℕ) → is_scratch s (k ∷ s) ≡ true → is_scratch_slot k ≡ true
slot_of_scratch s k h =
    let both = and_parts (same_path s s && nat_le FIRST_SCRATCH_SLOT k) (nat_le k LAST_SCRATCH_SLOT) h in
    let least = leb-true FIRST_SCRATCH_SLOT k (and_parts (same_path s s) (nat_le FIRST_SCRATCH_SLOT k) both.0).1 in
    let above : nat_le k LAST_USER_SLOT ≡ false = lt-leb k LAST_USER_SLOT (omega (arith, least)) in
    rw (above, both.1) refl

-- ---- the first world

pub record Ground (s : Scenario) (w : World) : Type 0 where
  pub clean : IsClean w
  pub uncut : IsUncut w
  pub idle : IsIdle w
  pub porters : (y : Path) → holds is_native (w.body y) ≡ true → is_porters s.spaces y ≡ true
  pub served : (y : Path) → holds is_served (w.body y) ≡ true → is_servers (served_ports s.servers) y ≡ true

nobody_busy : (o : Option Body) → holds is_busy o ≡ false → (holder_of o ≡ None) × (talk_in o ≡ None) × (fault_in o ≡ None)
nobody_busy None h = (refl, refl, refl)
nobody_busy (Some (Space birth None)) h = (refl, refl, refl)
nobody_busy (Some (Space birth (Some holder))) h = absurd (cc)
nobody_busy (Some (Thread_of t)) h = (refl, (by t.talk t.fault h).0, (by t.talk t.fault h).1)
  where
    by : (talk : Option Talk) (fault : Option Fault) → (is_some talk || is_some fault) ≡ false → (talk ≡ None) × (fault ≡ None)
    by None None h = (refl, refl)
    by None (Some fault) h = absurd (cc)
    by (Some talk) fault h = absurd (cc)
nobody_busy (Some (Mutex locked)) h = (refl, refl, refl)
nobody_busy (Some Cond) h = (refl, refl, refl)
nobody_busy (Some (Mapping m)) h = (refl, refl, refl)
nobody_busy (Some (Region r)) h = (refl, refl, refl)
nobody_busy (Some (Port set served)) h = (refl, refl, refl)
nobody_busy (Some Portset) h = (refl, refl, refl)
nobody_busy (Some (Reference to)) h = (refl, refl, refl)

pub booted-ground : (s : Scenario) → KeepsScenario s → Ground s (booted s)
unfolding booted
booted-ground s keeps =
    let its = keeps_all s.spaces (served_ports s.servers) (boot_changes s) first_world (boot-ground s keeps)
    (first-holds s.spaces (served_ports s.servers)) in
    record {
      clean = λ x k scratch. its.clean k x (slot_of_scratch x k scratch);
      uncut = its.uncut;
      idle = record {
        unheld = λ x. (nobody_busy ((booted s).body x) (its.idle x)).0;
        untalked = λ x. (nobody_busy ((booted s).body x) (its.idle x)).1;
        unfaulted = λ x. (nobody_busy ((booted s).body x) (its.idle x)).2;
      };
      porters = its.porters;
      served = its.served;
    }
