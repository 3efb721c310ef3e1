-- The first world of a scenario is valid.
use Rattle.std.proofs.Common.{◌≡◌, ℕ, ◌<◌, ◌≤◌, Bool, true, false, if◌then◌else◌, ◌==◌, List, [], ◌∷◌, ◌++◌, append_assoc, append-nil, length}
use Rattle.std.proofs.Common.{reverse, Some, refl, sym, ◌∙◌, arith}
use Rattle.std.proofs.lemmas.List.Elements.{All-nil}
use Rattle.std.specs.List.{flat_map}
use Rattle.fk_model.specs.Places.{Path}
use Rattle.fk_model.specs.Objects.{Talk, Fault}
use Rattle.fk_model.specs.Searches.{talk_at, fault_at}
use Rattle.fk_model.specs.declared.limits.TheConstants.{LAST_PORTER_SLOT}
use Rattle.fk_model.specs.World.{World, apply_all}
use Rattle.fk_model.specs.World.Change.{Make}
use Rattle.fk_model.specs.Valid.{IsConsistent, IsRooted, IsPaged, IsValid, kind_there, birth_at, all_in, is_good, services}
use Rattle.fk_store.specs.Store.World.{first_world}
use Rattle.laws_moves.proofs.InMachine.safety.Safe.{AreSafe}
use Rattle.laws_moves.proofs.InMachine.validity.Changes.{valid-apply_all, rooted-apply_all, paged-apply_all}
use Rattle.fk_scenario.specs.declared.entries.types.Program.{Program}
use Rattle.fk_scenario.specs.declared.entries.types.SpaceEntry.{SpaceEntry}
use Rattle.fk_scenario.specs.declared.entries.types.ObjectEntry.{ObjectEntry}
use Rattle.fk_scenario.specs.declared.scenario.scenario.Scenario.{Scenario}
use Rattle.fk_scenario.specs.Sections.Kept.{EachAfter, KeepsSpace}
use Rattle.fk_scenario.specs.Scenario.Kept.{KeepsScenario}
use Rattle.fk_scenario.specs.Sections.Spaces.{has_space}
use Rattle.fk_boot.specs.FirstWorld.{space_changes, object_changes, aim_changes, porter, porter_changes, served_ports, boot_changes, booted}
use Rattle.fk_boot.specs.MadeSoFar.{HasSpaces, AreNestable}
use Rattle.fk_boot.proofs.Aiming.{or_right, all-inside, each-aims}
use Rattle.fk_boot.proofs.Changes.{apply_all-append}
use Rattle.fk_boot.proofs.MadeSoFar.{some, first-stands, entry-stands, spaces-stand}
use Rattle.fk_boot.proofs.validity.Pages.{safe-append, birth-space, entry-safe}
use Rattle.fk_boot.proofs.validity.Objects.{outline_at, IsAsMade, Made, objects-safe}
use Rattle.fk_boot.proofs.validity.Aims.{AllThere, kind-at, all-safe, aims-kinds}
use Rattle.fk_boot.proofs.Nesting.{nestable}

-- ---- the root alone

pub first-consistent : IsConsistent first_world
unfolding kind_there
first-consistent = record {
  parents = λ k x h. absurd (cc);
  good = good;
  apart = apart;
  born = born;
  served = λ x port h. absurd (none x h.0 h.1);
  one_client = λ x y port h g. absurd (none x h.0 h.1);
  talks_near = λ x talk server e f. absurd (none x talk e);
  faults_near = λ x fault taker e f. absurd (unfaulted x fault e);
  one_service = λ server x y h g. absurd (idle server x h);
  one_each = each;
}
  where
    good : (x : Path) → all_in (is_good (kind_there first_world) x) (first_world.body x) ≡ true
    good [] = refl
    good (k ∷ x) = refl

    apart : (x y : Path) (birth : ℕ) → birth_at first_world x ≡ Some birth → birth_at first_world y ≡ Some birth → x ≡ y
    apart [] [] birth h g = refl
    apart [] (k ∷ y) birth h g = absurd (cc)
    apart (k ∷ x) y birth h g = absurd (cc)

    born : (x : Path) (birth : ℕ) → birth_at first_world x ≡ Some birth → birth < 1
    born [] birth h = let same : 0 ≡ birth = cc in omega arith
    born (k ∷ x) birth h = absurd (cc)

    none : (x : Path) (talk : Talk) → talk_at first_world x ≡ Some talk → ⊥
    none [] talk h = cc
    none (k ∷ x) talk h = cc

    unfaulted : (x : Path) (fault : Fault) → fault_at first_world x ≡ Some fault → ⊥
    unfaulted [] fault h = cc
    unfaulted (k ∷ x) fault h = cc

    idle : (server x : Path) → 0 < services first_world server x → ⊥
    idle server [] h = omega (arith, h)
    idle server (k ∷ x) h = omega (arith, h)

    each : (server x : Path) → services first_world server x ≤ 1
    each server [] = omega arith
    each server (k ∷ x) = omega arith

first-rooted : IsRooted first_world
unfolding kind_there
first-rooted = record { root = refl; slots = λ k x h. absurd (cc) }

first-paged : IsPaged first_world
first-paged s page h = absurd (cc)

-- ---- the spaces

pub spaces-safe : (programs : List Program) (done ss : List SpaceEntry) (w : World) → HasSpaces w done → EachAfter (KeepsSpace programs) done ss
    → AreSafe w (flat_map (space_changes programs) ss) × HasSpaces (apply_all (flat_map (space_changes programs) ss) w) (done ++ ss)
unfolding apply_all
spaces-safe programs done [] w stands each = (tt, rw append-nil stands)
spaces-safe programs done (s ∷ ss) w stands each =
    let here = entry-safe programs done s w stands each.0 in
    let v = apply_all (space_changes programs s) w in
    let rest = spaces-safe programs (done ++ s ∷ []) ss v (entry-stands programs done s w stands) each.1 in (
      safe-append (space_changes programs s) (flat_map (space_changes programs) ss) w here rest.0,
      rw (apply_all-append (space_changes programs s) (flat_map (space_changes programs) ss)) (rw append_assoc at rest.1),
    )

-- ---- the whole

-- where all are made, what objects may lead to is there
all-there : (ports : List (List ℕ)) (w : World) (spaces : List SpaceEntry) (objects : List ObjectEntry) → Made ports w spaces objects →
    AllThere ports (outline_at w) spaces objects
all-there ports w spaces objects made = record {
  kept = λ path has.
      let birth = some (birth_at w (reverse path)) (made.stands.births path ∙ or_right (length path == 0) (has_space spaces path) has) in
      sym (kind-at w (reverse path)) ∙ birth-space w (reverse path) birth;
  made = made.as_made;
}

-- porters are made safely, one after the other
porters-safe : (ss : List SpaceEntry) (w : World) → AreNestable w ss → AreSafe w (flat_map porter_changes ss)
porters-safe [] w nests = tt
porters-safe (s ∷ ss) w nests =
    safe-append (porter_changes s) (flat_map porter_changes ss) w (by s.nester) (porters-safe ss (apply_all (porter_changes s) w) nests.1)
  where
    by : (nests : Bool) → AreSafe w (if nests then Make (LAST_PORTER_SLOT ∷ reverse s.path) porter ∷ [] else [])
    by true = (record { place = record { slot = omega arith; space = (nests.0).space; empty = (nests.0).empty }; plain = refl; good = refl }, tt)
    by false = tt

pub boot-safe : (s : Scenario) → KeepsScenario s → AreSafe first_world (boot_changes s)
boot-safe s keeps =
    let ports = served_ports s.servers in
    let spaces = spaces-safe s.programs [] s.spaces first_world first-stands keeps.spaces in
    let w = apply_all (flat_map (space_changes s.programs) s.spaces) first_world in
    let begin : Made ports w s.spaces [] = record { stands = spaces-stand w s.spaces spaces.1; as_made = All-nil (IsAsMade ports (outline_at w)) } in
    let objects = objects-safe ports s.spaces [] s.objects w begin keeps.objects in
    let v = apply_all (flat_map (object_changes ports) s.objects) w in
    let there = all-there ports v s.spaces s.objects objects.1 in
    let aims = all-safe ports v s.spaces s.objects s.objects there there.made
    (all-inside s.spaces [] s.objects keeps.objects) (each-aims s.spaces s.objects 0 s.objects keeps.aims) in
    let u = apply_all (flat_map aim_changes s.objects) v in
    let nests = nestable s.programs v u s.spaces s.objects keeps.spaces keeps.objects (objects.1).stands (aims-kinds v s.objects) in
    safe-append (flat_map (space_changes s.programs) s.spaces)
    (flat_map (object_changes ports) s.objects ++ (flat_map aim_changes s.objects ++ flat_map porter_changes s.spaces)) first_world spaces.0
    (safe-append (flat_map (object_changes ports) s.objects) (flat_map aim_changes s.objects ++ flat_map porter_changes s.spaces) w objects.0
    (safe-append (flat_map aim_changes s.objects) (flat_map porter_changes s.spaces) v aims (porters-safe s.spaces u nests)))

pub booted-valid : (s : Scenario) → KeepsScenario s → IsValid (booted s)
unfolding booted
booted-valid s keeps =
    let safe = boot-safe s keeps in
    record {
      consistent = valid-apply_all (boot_changes s) first_world first-consistent safe;
      rooted = rooted-apply_all (boot_changes s) first_world first-rooted safe;
      paged = paged-apply_all (boot_changes s) first_world first-paged safe;
    }
