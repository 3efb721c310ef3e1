-- Objects lead safely where they are to.
use Rattle.std.proofs.Common.{◌≡◌, ℕ, ◌<◌, ◌≤◌, Bool, true, false, not, ◌||◌, ◌==◌, if◌then◌else◌, List, [], ◌∷◌, ◌++◌, map, length, reverse, Option}
use Rattle.std.proofs.Common.{Some, None, option_map, refl, sym, ap, subst, ◌∙◌}
use Rattle.std.proofs.lemmas.List.{reverse-append}
use Rattle.std.proofs.lemmas.List.Elements.{All-head, All-tail}
use Rattle.std.proofs.lemmas.Slice.Eq.{bytes_eq-Decides}
use Rattle.std.specs.List.{All, list_any, flat_map}
use Rattle.std.specs.Str.{bytes_eq}
use Rattle.fk_model.specs.declared.names.Kind.{Kind}
use Rattle.fk_model.specs.declared.names.Kind.TheVariants as kinds
use Rattle.fk_model.specs.Places.{Path, same_path, Ptr}
use Rattle.fk_model.specs.Places.Ptr.{At}
use Rattle.fk_model.specs.Objects.{Body, kind_of, same_kind, holds}
use Rattle.fk_model.specs.Objects.Body.{Mapping, Region, Port, Reference}
use Rattle.fk_model.specs.World.{World, Edit, edited, apply, apply_all, set_at}
use Rattle.fk_model.specs.World.Change.{Alter}
use Rattle.fk_model.specs.StateRows.{referable}
use Rattle.fk_model.specs.Valid.{kind_there, is_one_of, may_lead, all_in}
use Rattle.laws_moves.proofs.InMachine.safety.Safe.{takes_pointer, takes_set, AreSafe}
use Rattle.laws_moves.proofs.InMachine.validity.Edits.{outline-edited}
use Rattle.laws_moves.proofs.InMachine.validity.Outlines.{Outline, outline_of, outline-kind}
use Rattle.fk_scenario.specs.declared.entries.types.SpaceEntry.{SpaceEntry}
use Rattle.fk_scenario.specs.declared.entries.types.ObjectEntry.{ObjectEntry}
use Rattle.fk_scenario.specs.declared.entries.types.Spec.{Spec}
use Rattle.fk_scenario.specs.declared.entries.types.Spec.TheVariants as specs
use Rattle.fk_scenario.specs.Fields.Paths.{enclosing}
use Rattle.fk_scenario.specs.Scenario.Aims.{object_with, is_region_spec, is_port_spec, is_portset_spec, can_be_referred_to, is_one, entry_space, aims_well}
use Rattle.fk_scenario.specs.Sections.Spaces.{has_space}
use Rattle.fk_scenario.specs.Scenario.Servers.{has_key}
use Rattle.fk_boot.specs.FirstWorld.{first_body, aim_changes, aims}
use Rattle.fk_boot.proofs.Aiming.{find-passes, both-hold}
use Rattle.fk_boot.proofs.Changes.{apply_all-append}
use Rattle.fk_boot.proofs.Walks.{last}
use Rattle.fk_boot.proofs.validity.Pages.{safe-append}
use Rattle.fk_boot.proofs.validity.Objects.{outline_at, IsAsMade}

-- ---- what is known while objects are aimed

pub record AllThere (ports : List (List ℕ)) (there : Path → Option Outline) (spaces : List SpaceEntry) (objects : List ObjectEntry) : Type 0 where
  pub kept : (path : List ℕ) → has_space spaces path ≡ true → option_map (λ (f : Outline). f.kind) (there (reverse path)) ≡ Some kinds.Space
  pub made : All (IsAsMade ports there) objects

-- edits leave it
same-outlines : (w : World) (x : Path) (e : Edit) → outline_at (apply (Alter x e) w) ≡ outline_at w
unfolding apply
same-outlines w x e = λ i q. at q i
  where
    outlines : (o : Option Body) → option_map outline_of (option_map (edited e) o) ≡ option_map outline_of o
    outlines None = refl
    outlines (Some b) = ap Some (outline-edited e b)

    at : (q : Path) → option_map outline_of (if same_path q x then option_map (edited e) (w.body q) else w.body q) ≡ option_map outline_of (w.body q)
    at q = by (same_path q x)
      where
        by : (t : Bool) → option_map outline_of (if t then option_map (edited e) (w.body q) else w.body q) ≡ option_map outline_of (w.body q)
        by true = outlines (w.body q)
        by false = refl

same-all : (w : World) (x : Path) (es : List Edit) → outline_at (apply_all (map (Alter x) es) w) ≡ outline_at w
unfolding apply_all
same-all w x [] = refl
same-all w x (e ∷ es) = same-all (apply (Alter x e) w) x es ∙ same-outlines w x e

-- ---- kinds

pub kind-at : (w : World) (x : Path) → kind_there w x ≡ option_map (λ (f : Outline). f.kind) (outline_at w x)
unfolding kind_there
kind-at w x = outline-kind (w.body x)

-- objects that pass a test are of kinds that a pointer may lead to
abbrev Fits : List Kind → (Spec → Bool) → Type 0
Fits wanted test = (served : Bool) (spec : Spec) → test spec ≡ true → list_any (same_kind (kind_of (first_body served spec))) wanted ≡ true

region-fits : Fits (kinds.Region ∷ []) is_region_spec
region-fits served (specs.Region first count write keeper) h = refl
region-fits served spec h = absurd (cc)

port-fits : Fits (kinds.Port ∷ []) is_port_spec
port-fits served (specs.Port set) h = refl
port-fits served spec h = absurd (cc)

portset-fits : Fits (kinds.Portset ∷ []) is_portset_spec
portset-fits served specs.Portset h = refl
portset-fits served spec h = absurd (cc)

referable-fits : Fits referable can_be_referred_to
referable-fits served (specs.Mapping region first count offset write) h = refl
referable-fits served (specs.Region first count write keeper) h = refl
referable-fits served (specs.Port set) h = refl
referable-fits served (specs.Thread entry regs stops) h = refl
referable-fits served spec h = absurd (cc)

one-fits : (ports : List (List ℕ)) (w : World) (objects : List ObjectEntry) (wanted : List Kind) (test : Spec → Bool) (path : List ℕ) → Fits wanted test
    → All (IsAsMade ports (outline_at w)) objects → is_one test (object_with objects path) ≡ true → is_one_of wanted (kind_there w (reverse path)) ≡ true
one-fits ports w objects wanted test path fits all one = by (object_with objects path) refl one
  where
    by : (found : Option ObjectEntry) → object_with objects path ≡ found → is_one test found ≡ true
        → is_one_of wanted (kind_there w (reverse path)) ≡ true
    by None e one = absurd (cc)
    by (Some o) e one =
        let is = find-passes (IsAsMade ports (outline_at w)) (λ (o : ObjectEntry). bytes_eq o.path path) objects o e all in
        let same : o.path ≡ path = (bytes_eq-Decides o.path path).0 is.0 in
        let kind : kind_there w (reverse path) ≡ Some (kind_of (first_body (has_key ports o.path) o.spec)) =
        kind-at w (reverse path) ∙ ap (λ (p : List ℕ). option_map (λ (f : Outline). f.kind) (outline_at w (reverse p))) (sym same)
        ∙ ap (option_map (λ (f : Outline). f.kind)) is.1 in
        rw kind (fits (has_key ports o.path) o.spec one)

-- ---- fields take what their kinds hold

mapping-takes : (w : World) (to : Ptr) (o : Option Body) → option_map kind_of o ≡ Some kinds.Mapping →
    may_lead (kind_there w) (kinds.Region ∷ []) to ≡ true → all_in (takes_pointer w to) o ≡ true
mapping-takes w to None is h = refl
mapping-takes w to (Some (Mapping m)) is h = h
mapping-takes w to (Some (Region r)) is h = absurd (cc)
mapping-takes w to (Some (Reference old)) is h = absurd (cc)
mapping-takes w to (Some b) is h = refl

region-takes : (w : World) (to : Ptr) (o : Option Body) → option_map kind_of o ≡ Some kinds.Region →
    may_lead (kind_there w) (kinds.Port ∷ []) to ≡ true → all_in (takes_pointer w to) o ≡ true
region-takes w to None is h = refl
region-takes w to (Some (Region r)) is h = h
region-takes w to (Some (Mapping m)) is h = absurd (cc)
region-takes w to (Some (Reference old)) is h = absurd (cc)
region-takes w to (Some b) is h = refl

reference-takes : (w : World) (to : Ptr) (o : Option Body) → option_map kind_of o ≡ Some kinds.Reference →
    may_lead (kind_there w) referable to ≡ true → all_in (takes_pointer w to) o ≡ true
reference-takes w to None is h = refl
reference-takes w to (Some (Reference old)) is h = h
reference-takes w to (Some (Mapping m)) is h = absurd (cc)
reference-takes w to (Some (Region r)) is h = absurd (cc)
reference-takes w to (Some b) is h = refl

port-takes : (w : World) (x : Path) (slot : ℕ) (o : Option Body) → option_map outline_of o ≡ Some (outline_of (Port None false)) →
    is_one_of (kinds.Portset ∷ []) (kind_there w (set_at x slot)) ≡ true → all_in (takes_set w x (Some slot)) o ≡ true
port-takes w x slot None is h = refl
port-takes w x slot (Some (Port old served)) is h = let free : served ≡ false = ap (holds (λ (f : Outline). f.served)) is in rw free h
port-takes w x slot (Some b) is h = refl

-- ---- aims

kind-made : (w : World) (x : Path) (f : Outline) → outline_at w x ≡ Some f → option_map kind_of (w.body x) ≡ Some f.kind
kind-made w x f is = outline-kind (w.body x) ∙ ap (option_map (λ (f : Outline). f.kind)) is

-- the slot of a set is one of the port's space
set-place : (path : List ℕ) (slot : ℕ) → 1 ≤ length path → set_at (reverse path) slot ≡ reverse (enclosing path ++ slot ∷ [])
set-place path slot inside = rw (last path inside) (sym (reverse-append (enclosing path) (slot ∷ [])))

refers-safe : (ports : List (List ℕ)) (w : World) (spaces : List SpaceEntry) (objects : List ObjectEntry) (to : List ℕ) →
    AllThere ports (outline_at w) spaces objects
    → (has_space spaces to || is_one can_be_referred_to (object_with objects to)) ≡ true → is_one_of referable (kind_there w (reverse to)) ≡ true
refers-safe ports w spaces objects to all h = by (has_space spaces to) refl h
  where
    by : (b : Bool) → has_space spaces to ≡ b → (b || is_one can_be_referred_to (object_with objects to)) ≡ true
        → is_one_of referable (kind_there w (reverse to)) ≡ true
    by true e h = rw (kind-at w (reverse to), all.kept to e) refl
    by false e h = one-fits ports w objects referable can_be_referred_to to referable-fits all.made h

aims-safe : (ports : List (List ℕ)) (w : World) (spaces : List SpaceEntry) (objects : List ObjectEntry) (path : List ℕ) (served : Bool) (spec : Spec) →
    AllThere ports (outline_at w) spaces objects
    → 1 ≤ length path → outline_at w (reverse path) ≡ Some (outline_of (first_body served spec)) → aims_well spaces objects (enclosing path) spec ≡ true
    → AreSafe w (map (Alter (reverse path)) (aims spec))
aims-safe ports w spaces objects path served (specs.Mapping (Some region) first count offset write) all inside is well =
    let fits = one-fits ports w objects (kinds.Region ∷ []) is_region_spec region region-fits all.made well in
    (mapping-takes w (At (reverse region)) (w.body (reverse path)) (kind-made w (reverse path) _ is) fits, tt)
aims-safe ports w spaces objects path served (specs.Mapping None first count offset write) all inside is well = tt
aims-safe ports w spaces objects path served (specs.Region first count write (Some keeper)) all inside is well =
    let fits = one-fits ports w objects (kinds.Port ∷ []) is_port_spec keeper port-fits all.made well in
    (region-takes w (At (reverse keeper)) (w.body (reverse path)) (kind-made w (reverse path) _ is) fits, tt)
aims-safe ports w spaces objects path served (specs.Region first count write None) all inside is well = tt
aims-safe ports w spaces objects path served (specs.Reference (Some to)) all inside is well =
    let parts = both-hold (not (length to == 0)) (has_space spaces to || is_one can_be_referred_to (object_with objects to)) well in
    let fits = refers-safe ports w spaces objects to all parts.1 in
    (reference-takes w (At (reverse to)) (w.body (reverse path)) (kind-made w (reverse path) _ is) fits, tt)
aims-safe ports w spaces objects path served (specs.Reference None) all inside is well = tt
aims-safe ports w spaces objects path served (specs.Port (Some slot)) all inside is well =
    let fits = one-fits ports w objects (kinds.Portset ∷ []) is_portset_spec (enclosing path ++ slot ∷ []) portset-fits all.made well in
    (port-takes w (reverse path) slot (w.body (reverse path)) is (rw (set-place path slot inside) fits), tt)
aims-safe ports w spaces objects path served (specs.Port None) all inside is well = tt
aims-safe ports w spaces objects path served (specs.Thread entry regs stops) all inside is well = tt
aims-safe ports w spaces objects path served (specs.Mutex locked) all inside is well = tt
aims-safe ports w spaces objects path served specs.Cond all inside is well = tt
aims-safe ports w spaces objects path served specs.Portset all inside is well = tt

-- ---- all aims

pub all-safe : (ports : List (List ℕ)) (w : World) (spaces : List SpaceEntry) (objects os : List ObjectEntry) → AllThere ports (outline_at w) spaces objects
    → All (IsAsMade ports (outline_at w)) os → All (λ (o : ObjectEntry). 0 < length o.path) os
    → All (λ (o : ObjectEntry). aims_well spaces objects (entry_space o) o.spec ≡ true) os → AreSafe w (flat_map aim_changes os)
all-safe ports w spaces objects [] all made inside well = tt
all-safe ports w spaces objects (o ∷ os) all made inside well =
    let v = apply_all (aim_changes o) w in
    let same : outline_at v ≡ outline_at w = same-all w (reverse o.path) (aims o.spec) in
    let here = aims-safe ports w spaces objects o.path (has_key ports o.path) o.spec all (All-head (λ (o : ObjectEntry). 0 < length o.path) o os inside)
    (All-head (IsAsMade ports (outline_at w)) o os made)
    (All-head (λ (o : ObjectEntry). aims_well spaces objects (entry_space o) o.spec ≡ true) o os well) in
    let rest = all-safe ports v spaces objects os (subst (λ (there : Path → Option Outline). AllThere ports there spaces objects) (sym same) all)
    (subst (λ (there : Path → Option Outline). All (IsAsMade ports there) os) (sym same) (All-tail (IsAsMade ports (outline_at w)) o os made))
    (All-tail (λ (o : ObjectEntry). 0 < length o.path) o os inside)
    (All-tail (λ (o : ObjectEntry). aims_well spaces objects (entry_space o) o.spec ≡ true) o os well) in
    safe-append (aim_changes o) (flat_map aim_changes os) w here rest

-- aims leave the kinds of all objects
pub aims-kinds : (w : World) (os : List ObjectEntry) → kind_there (apply_all (flat_map aim_changes os) w) ≡ kind_there w
unfolding apply_all
aims-kinds w [] = refl
aims-kinds w (o ∷ os) =
    ap kind_there (apply_all-append (aim_changes o) (flat_map aim_changes os) w)
    ∙ (aims-kinds (apply_all (aim_changes o) w) os ∙ kinds-by w (apply_all (aim_changes o) w) (same-all w (reverse o.path) (aims o.spec)))
  where
    kinds-by : (w v : World) → outline_at v ≡ outline_at w → kind_there v ≡ kind_there w
    kinds-by w v same = λ i x. (kind-at v x ∙ (ap (λ f. option_map (λ (f : Outline). f.kind) (f x)) same ∙ sym (kind-at w x))) i
