-- What the first changes leave: porters and served ports stay; so each nester has its porter, and each server's port is served.
use Rattle.std.proofs.Common.{◌≡◌, ℕ, Bool, true, false, cond, if◌then◌else◌, ◌&&◌, ◌||◌, is_none, List, [], ◌∷◌, ◌++◌, reverse, map, find, Option, Some, None}
use Rattle.std.proofs.Common.{not, filter, append-nil, append_assoc, Ok, refl, sym, ap, subst, ◌∙◌}
use Rattle.std.proofs.lemmas.Bool.{and_parts}
use Rattle.std.proofs.lemmas.List.{reverse-reverse}
use Rattle.std.proofs.lemmas.Slice.Eq.{bytes_eq-Decides}
use Rattle.std.specs.List.{flat_map, list_any}
use Rattle.std.specs.Str.{bytes_eq}
use Rattle.fk_model.specs.declared.limits.TheConstants.{LAST_PORTER_SLOT}
use Rattle.fk_model.specs.Places.{Path, same_path}
use Rattle.fk_model.specs.Objects.{Body, holds, is_served}
use Rattle.fk_model.specs.StateRows.{is_native}
use Rattle.fk_model.specs.World.{World, Change, Edit, edited, apply, apply_all}
use Rattle.fk_model.specs.World.Change.{Alter, Make, MakeSpace, PutPage}
use Rattle.fk_model.specs.Sound.{are_apart, is_listed, is_last_of}
use Rattle.fk_model.proofs.walks.Apart.{apart_push}
use Rattle.fk_model.proofs.walks.PlaceLaws.{same_path_eq, same_path_refl}
use Rattle.fk_scenario.specs.Fields.Gives.{unless, placed}
use Rattle.fk_scenario.proofs.InFields.Steps.{after, unless-Ok, placed-Ok}
use Rattle.fk_scenario.specs.declared.entries.types.SpaceEntry.{SpaceEntry}
use Rattle.fk_scenario.specs.declared.entries.types.ObjectEntry.{ObjectEntry}
use Rattle.fk_scenario.specs.declared.entries.types.ServerEntry.{ServerEntry}
use Rattle.fk_scenario.specs.declared.entries.types.Spec.{Spec}
use Rattle.fk_scenario.specs.declared.entries.types.Spec.TheVariants as specs
use Rattle.fk_scenario.specs.declared.scenario.scenario.Scenario.{Scenario}
use Rattle.fk_scenario.specs.Scenario.Aims.{object_with, is_one}
use Rattle.fk_scenario.specs.Scenario.Servers.{is_lone_port, has_key, alias_of, has_new_alias, may_serve, serving_one, serving_from}
use Rattle.fk_scenario.specs.Scenario.Kept.{KeepsScenario}
use Rattle.fk_store.specs.Store.World.{first_world}
use Rattle.laws_moves.proofs.InMachine.safety.Safe.{IsSafe, AreSafe}
use Rattle.fk_boot.specs.FirstWorld.{space_changes, first_body, object_changes, aim_changes, porter, porter_changes, served_ports, boot_changes, booted}
use Rattle.fk_boot.specs.Starts.{nesters_of}
use Rattle.fk_boot.proofs.Changes.{apply_all-append}
use Rattle.fk_boot.proofs.validity.Whole.{boot-safe}
use Rattle.fk_boot.proofs.validity.Grounds.{is_porters, is_servers, IsGroundEdit, IsGroundChange, AreGround, under, native-pointer, served-pointer, boot-ground}

or_last : (t : Bool) → (t || true) ≡ true
or_last true = refl
or_last false = refl

module _ (spaces : List SpaceEntry) (ports : List (List ℕ)) where
  -- what comes later in a list
  pub safe_later : (cs ds : List Change) (w : World) → AreSafe w (cs ++ ds) → AreSafe (apply_all cs w) ds
  unfolding apply_all
  safe_later [] ds w safe = safe
  safe_later (c ∷ cs) ds w safe = safe_later cs ds (apply c w) safe.1

  pub ground_later : (cs ds : List Change) → AreGround spaces ports (cs ++ ds) → AreGround spaces ports ds
  ground_later [] ds good = good
  ground_later (c ∷ cs) ds good = ground_later cs ds good.1

  -- and what comes first
  ground_first : (cs ds : List Change) → AreGround spaces ports (cs ++ ds) → AreGround spaces ports cs
  ground_first [] ds good = tt
  ground_first (c ∷ cs) ds good = (good.0, ground_first cs ds good.1)

  safe_first : (cs ds : List Change) (w : World) → AreSafe w (cs ++ ds) → AreSafe w cs
  safe_first [] ds w safe = tt
  safe_first (c ∷ cs) ds w safe = (safe.0, safe_first cs ds (apply c w) safe.1)

  -- what passes a test that no edit changes stays
  module _ (test : Body → Bool) (kept : (edit : Edit) → IsGroundEdit edit → (b : Body) → test (edited edit b) ≡ test b) (y : Path) where
    not_there : (w : World) (x : Path) → holds test (w.body y) ≡ true → w.body x ≡ None → (b : Bool) → same_path y x ≡ b → b ≡ false
    not_there w x there empty false e = refl
    not_there w x there empty true e =
        let here = same_path_eq y x e in
        let none : holds test (w.body y) ≡ false = ap (holds test) (ap w.body here ∙ empty) in
        let clash = sym none ∙ there in
        absurd (cc)

    stays_one : (c : Change) (w : World) → IsGroundChange spaces ports c → IsSafe w c → holds test (w.body y) ≡ true
        → holds test ((apply c w).body y) ≡ true
    unfolding apply
    stays_one (Alter x edit) w good safe there = under spaces ports test (edited edit) (kept edit good) (same_path y x) (w.body y) ∙ there
    stays_one (Make [] body) w good safe there = absurd safe
    stays_one (Make (k ∷ s) body) w good safe there = rw (not_there w (k ∷ s) there safe.place.empty (same_path y (k ∷ s)) refl) there
    stays_one (MakeSpace [] holder) w good safe there = absurd safe
    stays_one (MakeSpace (k ∷ s) holder) w good safe there = rw (not_there w (k ∷ s) there safe.place.empty (same_path y (k ∷ s)) refl) there
    stays_one (PutPage space page words) w good safe there = there
    stays_one c w good safe there = absurd good

    pub stays_all : (cs : List Change) (w : World) → AreGround spaces ports cs → AreSafe w cs → holds test (w.body y) ≡ true
        → holds test ((apply_all cs w).body y) ≡ true
    unfolding apply_all
    stays_all [] w good safe there = there
    stays_all (c ∷ cs) w good safe there = stays_all cs (apply c w) good.1 safe.1 (stays_one c w good.0 safe.0 there)

  -- ---- porters

  made_porter : (nests : Bool) (x y : Path) (w : World) → nests ≡ true → same_path y x ≡ true
      → holds is_native ((apply_all (if nests then Make x porter ∷ [] else []) w).body y) ≡ true
  unfolding apply apply_all
  made_porter true x y w e same = rw same refl
  made_porter false x y w e same = absurd (cc)

  porters_stand : (ss : List SpaceEntry) (w : World) → AreGround spaces ports (flat_map porter_changes ss) → AreSafe w (flat_map porter_changes ss)
      → (y : Path) → is_porters ss y ≡ true → holds is_native ((apply_all (flat_map porter_changes ss) w).body y) ≡ true
  porters_stand [] w good safe y h = absurd (cc)
  porters_stand (s ∷ ss) w good safe y h =
      let cs = porter_changes s in
      let ds = flat_map porter_changes ss in
      let later_good = ground_later cs ds good in
      let later_safe = safe_later cs ds w safe in
      subst (λ (u : World). holds is_native (u.body y) ≡ true) (sym (apply_all-append cs ds w))
      (by (s.nester && same_path y (LAST_PORTER_SLOT ∷ reverse s.path)) refl
      (λ mine. stays_all is_native (native-pointer spaces ports) y ds (apply_all cs w) later_good later_safe
      (made_porter s.nester (LAST_PORTER_SLOT ∷ reverse s.path) y w mine.0 mine.1))
      (λ others. porters_stand ss (apply_all cs w) later_good later_safe y others) h)
    where
      by : (b : Bool) → (s.nester && same_path y (LAST_PORTER_SLOT ∷ reverse s.path)) ≡ b
          → ((s.nester ≡ true) × (same_path y (LAST_PORTER_SLOT ∷ reverse s.path) ≡ true)
          → holds is_native ((apply_all (flat_map porter_changes ss) (apply_all (porter_changes s) w)).body y) ≡ true)
          → (is_porters ss y ≡ true → holds is_native ((apply_all (flat_map porter_changes ss) (apply_all (porter_changes s) w)).body y) ≡ true)
          → (b || is_porters ss y) ≡ true
          → holds is_native ((apply_all (flat_map porter_changes ss) (apply_all (porter_changes s) w)).body y) ≡ true
      by true e mine others h = mine (and_parts s.nester (same_path y (LAST_PORTER_SLOT ∷ reverse s.path)) e)
      by false e mine others h = others h

  -- ---- served ports

  lone_served : (served : Bool) (spec : Spec) → is_lone_port spec ≡ true → served ≡ true → is_served (first_body served spec) ≡ true
  lone_served served (specs.Port None) lone has = rw has refl
  lone_served served (specs.Port (Some set)) lone has = absurd (cc)
  lone_served served (specs.Thread entry regs stops) lone has = absurd (cc)
  lone_served served (specs.Mutex locked) lone has = absurd (cc)
  lone_served served specs.Cond lone has = absurd (cc)
  lone_served served specs.Portset lone has = absurd (cc)
  lone_served served (specs.Mapping region first count offset write) lone has = absurd (cc)
  lone_served served (specs.Region first count write keeper) lone has = absurd (cc)
  lone_served served (specs.Reference to) lone has = absurd (cc)

  made_port : (x : Path) (b : Body) (w : World) → is_served b ≡ true → holds is_served ((apply (Make x b) w).body x) ≡ true
  unfolding apply
  made_port x b w served = rw (same_path_refl x) served

  ports_stand : (os : List ObjectEntry) (w : World) → AreGround spaces ports (flat_map (object_changes ports) os)
      → AreSafe w (flat_map (object_changes ports) os) → (path : List ℕ) → has_key ports path ≡ true → is_one is_lone_port (object_with os path) ≡ true
      → holds is_served ((apply_all (flat_map (object_changes ports) os) w).body (reverse path)) ≡ true
  unfolding apply_all
  ports_stand [] w good safe path has lone = absurd (cc)
  ports_stand (o ∷ os) w good safe path has lone =
      let v = apply (Make (reverse o.path) (first_body (has_key ports o.path) o.spec)) w in
      by (bytes_eq o.path path) refl lone (ports_stand os v good.1 safe.1 path has)
      (λ made. stays_all is_served (served-pointer spaces ports) (reverse path) (flat_map (object_changes ports) os) v good.1 safe.1 made)
    where
      by : (t : Bool) → bytes_eq o.path path ≡ t → is_one is_lone_port (if t then Some o else object_with os path) ≡ true
          → (is_one is_lone_port (object_with os path) ≡ true → holds is_served ((apply_all (flat_map (object_changes ports) os)
          (apply (Make (reverse o.path) (first_body (has_key ports o.path) o.spec)) w)).body (reverse path)) ≡ true)
          → (holds is_served ((apply (Make (reverse o.path) (first_body (has_key ports o.path) o.spec)) w).body (reverse path)) ≡ true
          → holds is_served ((apply_all (flat_map (object_changes ports) os)
          (apply (Make (reverse o.path) (first_body (has_key ports o.path) o.spec)) w)).body (reverse path)) ≡ true)
          → holds is_served ((apply_all (flat_map (object_changes ports) os)
          (apply (Make (reverse o.path) (first_body (has_key ports o.path) o.spec)) w)).body (reverse path)) ≡ true
      by true e lone later stay =
          let same : o.path ≡ path = (bytes_eq-Decides o.path path).0 e in
          stay (subst (λ (p : List ℕ).
          holds is_served ((apply (Make (reverse o.path) (first_body (has_key ports o.path) o.spec)) w).body (reverse p)) ≡ true) same
          (made_port (reverse o.path) (first_body (has_key ports o.path) o.spec) w
          (lone_served (has_key ports o.path) o.spec lone (subst (λ (p : List ℕ). has_key ports p ≡ true) (sym same) has))))
      by false e lone later stay = later lone

-- ---- what the reader asks of servers

off : (b : Bool) → not b ≡ true → b ≡ false
off true h = absurd (cc)
off false h = refl

one_serves : (objects : List ObjectEntry) (ports aliases : List (List ℕ)) (s : ServerEntry) (u : Unit {0}) → serving_one objects ports aliases s ≡ Ok u
    → (is_one is_lone_port (object_with objects s.port) ≡ true) × (has_key ports s.port ≡ false)
one_serves objects ports aliases s u h =
    let may = unless-Ok 9 (may_serve objects ports aliases s) u (placed-Ok 5 _ _ u h) in
    let most = and_parts (is_one is_lone_port (object_with objects s.port) && not (has_key ports s.port)) (has_new_alias aliases s.service) may in
    let both = and_parts (is_one is_lone_port (object_with objects s.port)) (not (has_key ports s.port)) most.0 in
    (both.0, off (has_key ports s.port) both.1)

ports_lone : (objects : List ObjectEntry) (ports aliases : List (List ℕ)) (ss : List ServerEntry) → serving_from objects ports aliases ss ≡ Ok tt
    → (path : List ℕ) → has_key (served_ports ss) path ≡ true → is_one is_lone_port (object_with objects path) ≡ true
unfolding serving_from
ports_lone objects ports aliases [] h path has = absurd (cc)
ports_lone objects ports aliases (s ∷ ss) h path has =
    after (serving_one objects ports aliases s) _ tt h (λ u one h.
    by (bytes_eq s.port path) refl (one_serves objects ports aliases s u one).0
    (ports_lone objects (ports ++ s.port ∷ []) (aliases ++ alias_of s.service) ss h path) has)
  where
    by : (t : Bool) → bytes_eq s.port path ≡ t → is_one is_lone_port (object_with objects s.port) ≡ true
        → (has_key (served_ports ss) path ≡ true → is_one is_lone_port (object_with objects path) ≡ true) → (t || has_key (served_ports ss) path) ≡ true
        → is_one is_lone_port (object_with objects path) ≡ true
    by true e lone later has =
        let same : s.port ≡ path = (bytes_eq-Decides s.port path).0 e in
        subst (λ (p : List ℕ). is_one is_lone_port (object_with objects p) ≡ true) same lone
    by false e lone later has = later has

ports_apart : (objects : List ObjectEntry) (ports aliases : List (List ℕ)) (ss : List ServerEntry) → serving_from objects ports aliases ss ≡ Ok tt
    → are_apart bytes_eq ports ≡ true → are_apart bytes_eq (ports ++ served_ports ss) ≡ true
unfolding serving_from
ports_apart objects ports aliases [] h apart = subst (λ (ps : List (List ℕ)). are_apart bytes_eq ps ≡ true) (sym (append-nil ports)) apart
ports_apart objects ports aliases (s ∷ ss) h apart =
    after (serving_one objects ports aliases s) _ tt h (λ u one h.
    subst (λ (ps : List (List ℕ)). are_apart bytes_eq ps ≡ true) (append_assoc ports (s.port ∷ []) (served_ports ss))
    (ports_apart objects (ports ++ s.port ∷ []) (aliases ++ alias_of s.service) ss h
    (apart_push bytes_eq ports s.port apart (one_serves objects ports aliases s u one).1)))

-- ---- by paths of worlds

same_reversed : (a b : List ℕ) → same_path (reverse a) (reverse b) ≡ bytes_eq a b
same_reversed a b = by (bytes_eq a b) refl (same_path (reverse a) (reverse b)) refl
  where
    by : (t : Bool) → bytes_eq a b ≡ t → (r : Bool) → same_path (reverse a) (reverse b) ≡ r → r ≡ t
    by true e r f =
        let same : a ≡ b = (bytes_eq-Decides a b).0 e in
        sym f ∙ subst (λ (c : List ℕ). same_path (reverse a) (reverse c) ≡ true) same (same_path_refl (reverse a))
    by false e true f =
        let back : a ≡ b = sym (reverse-reverse a) ∙ (ap reverse (same_path_eq (reverse a) (reverse b) f) ∙ reverse-reverse b) in
        let yes = (bytes_eq-Decides a b).1 back in
        let clash = sym yes ∙ e in
        absurd (cc)
    by false e false f = refl

own_key : (q : List ℕ) → bytes_eq q q ≡ true
own_key q = sym (same_reversed q q) ∙ same_path_refl (reverse q)

any_reversed : (a : List ℕ) (bs : List (List ℕ)) → list_any (same_path (reverse a)) (map reverse bs) ≡ list_any (bytes_eq a) bs
any_reversed a [] = refl
any_reversed a (b ∷ bs) = rw (same_reversed a b, any_reversed a bs) refl

reversed_apart : (ps : List (List ℕ)) → are_apart same_path (map reverse ps) ≡ are_apart bytes_eq ps
unfolding are_apart
reversed_apart [] = refl
reversed_apart (p ∷ ps) = rw (any_reversed p ps, reversed_apart ps) refl

pub listed_servers : (ports : List (List ℕ)) (y : Path) → is_listed (map reverse ports) y ≡ is_servers ports y
listed_servers [] y = refl
listed_servers (p ∷ ps) y = rw (listed_servers ps y) refl

pub last_porters : (ss : List SpaceEntry) (y : Path) → is_last_of (nesters_of ss) y ≡ is_porters ss y
last_porters [] y = refl
last_porters (s ∷ ss) y = by s.nester refl (last_porters ss y)
  where
    by : (nests : Bool) → s.nester ≡ nests → is_last_of (nesters_of ss) y ≡ is_porters ss y
        → is_last_of (map (λ (t : SpaceEntry). reverse t.path) (if nests then s ∷ filter (λ t. t.nester) ss else filter (λ t. t.nester) ss)) y
        ≡ ((nests && same_path y (LAST_PORTER_SLOT ∷ reverse s.path)) || is_porters ss y)
    by true e later = rw later refl
    by false e later = later

served_path : (ports : List (List ℕ)) (y : Path) → is_servers ports y ≡ true → (path : List ℕ) × (y ≡ reverse path) × (has_key ports path ≡ true)
served_path [] y h = absurd (cc)
served_path (p ∷ ps) y h = by (same_path y (reverse p)) refl (served_path ps y) h
  where
    by : (t : Bool) → same_path y (reverse p) ≡ t → (is_servers ps y ≡ true → (path : List ℕ) × (y ≡ reverse path) × (has_key ps path ≡ true))
        → (t || is_servers ps y) ≡ true → (path : List ℕ) × (y ≡ reverse path) × (has_key (p ∷ ps) path ≡ true)
    by true e later h = (p, same_path_eq y (reverse p) e, rw (own_key p) refl)
    by false e later h = let its = later h in (its.0, its.1, rw its.2 (or_last (bytes_eq p its.0)))

-- ---- the first world

pub booted-apart : (s : Scenario) → KeepsScenario s → are_apart same_path (map reverse (served_ports s.servers)) ≡ true
unfolding are_apart
booted-apart s keeps = reversed_apart (served_ports s.servers) ∙ ports_apart s.objects [] [] s.servers keeps.servers refl

pub booted-porters : (s : Scenario) → KeepsScenario s → (y : Path) → is_porters s.spaces y ≡ true → holds is_native ((booted s).body y) ≡ true
unfolding booted
booted-porters s keeps y h =
    let ports = served_ports s.servers in
    let made = flat_map (space_changes s.programs) s.spaces in
    let put = flat_map (object_changes ports) s.objects in
    let aimed = flat_map aim_changes s.objects in
    let nested = flat_map porter_changes s.spaces in
    let safe = safe_later s.spaces ports made (put ++ (aimed ++ nested)) first_world (boot-safe s keeps) in
    let good = ground_later s.spaces ports made (put ++ (aimed ++ nested)) (boot-ground s keeps) in
    let w = apply_all made first_world in
    let safe_aims = safe_later s.spaces ports put (aimed ++ nested) w safe in
    let good_aims = ground_later s.spaces ports put (aimed ++ nested) good in
    let v = apply_all put w in
    let same = apply_all-append made (put ++ (aimed ++ nested)) first_world
    ∙ (apply_all-append put (aimed ++ nested) w ∙ apply_all-append aimed nested v) in
    subst (λ (u : World). holds is_native (u.body y) ≡ true) (sym same)
    (porters_stand s.spaces ports s.spaces (apply_all aimed v) (ground_later s.spaces ports aimed nested good_aims)
    (safe_later s.spaces ports aimed nested v safe_aims) y h)

pub booted-served : (s : Scenario) → KeepsScenario s → (y : Path) → is_servers (served_ports s.servers) y ≡ true → holds is_served ((booted s).body y) ≡ true
unfolding booted
booted-served s keeps y h =
    let ports = served_ports s.servers in
    let its = served_path ports y h in
    let made = flat_map (space_changes s.programs) s.spaces in
    let put = flat_map (object_changes ports) s.objects in
    let rest = flat_map aim_changes s.objects ++ flat_map porter_changes s.spaces in
    let safe = safe_later s.spaces ports made (put ++ rest) first_world (boot-safe s keeps) in
    let good = ground_later s.spaces ports made (put ++ rest) (boot-ground s keeps) in
    let w = apply_all made first_world in
    let same = apply_all-append made (put ++ rest) first_world ∙ apply_all-append put rest w in
    let stands = ports_stand s.spaces ports s.objects w (ground_first s.spaces ports put rest good) (safe_first s.spaces ports put rest w safe) its.0 its.2
    (ports_lone s.objects [] [] s.servers keeps.servers its.0 its.2) in
    subst (λ (x : Path). holds is_served ((apply_all (boot_changes s) first_world).body x) ≡ true) (sym its.1)
    (subst (λ (u : World). holds is_served (u.body (reverse its.0)) ≡ true) (sym same)
    (stays_all s.spaces ports is_served (served-pointer s.spaces ports) (reverse its.0) rest (apply_all put w) (ground_later s.spaces ports put rest good)
    (safe_later s.spaces ports put rest w safe) stands))
