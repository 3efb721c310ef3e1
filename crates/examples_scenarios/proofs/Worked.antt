-- The worked document says its scenario.
use Rattle.std.proofs.Common.{◌≡◌, ◌≢◌, ◌≤◌, ◌+◌, inl, inr, ℕ, pos, true, false, List, [], ◌∷◌, map, All, Option, Some, None, Ok, codes, decimal, refl}
use Rattle.std.proofs.Common.{sym, ap, ◌∙◌, arith, true≢false, suc-ne-zero}
use Rattle.std.proofs.lemmas.List.Elements.{All-from_recursion}
use Rattle.toml.specs.Data.{Data, no_items, item, Members, no_members, member, string, integer, array, table}
use Rattle.fk_scenario.specs.declared.scenario.scenario.Scenario.{Scenario}
use Rattle.fk_scenario.specs.declared.entries.types.ObjectEntry.{ObjectEntry}
use Rattle.fk_model.specs.Numbers.{number_up_to}
use Rattle.fk_scenario.specs.declared.entries.types.Spec.{Spec}
use Rattle.fk_scenario.specs.declared.entries.types.Spec.TheVariants.{Thread}
use Rattle.fk_scenario.specs.Scenario.Aims.{aims_well, entry_space}
use Rattle.fk_scenario.specs.Scenario.Reading.{scenario_of}
use Rattle.laws_scenario_faults.specs.Tables.{has_only, items}
use Rattle.laws_scenario_faults.specs.Keys.{path_text, IsPath}
use Rattle.laws_scenario_faults.specs.Scenarios.{SaysThread, SaysReference, SaysObject, SaysSpace, Says}
use Rattle.examples_scenarios.specs.Worked.{space_table, thread_table, reference_table, document, space_entry, thread_entry, reference_entry, scenario}
use Rattle.examples_scenarios.specs.Worked.{SaysDefaults, SaysNoOther, SaysNone}
use Rattle.laws_scenario_faults.proofs.Paths.{path-written}
use Rattle.laws_scenario_faults.proofs.Scenarios.{said-document}

path-1 : IsPath (string (codes "/1")) (1 ∷ [])
unfolding number_up_to
path-1 = let (same, slots) = path-written (codes "/1") refl in (ap string same, slots)

path-1-0 : IsPath (string (codes "/1/0")) (1 ∷ 0 ∷ [])
unfolding number_up_to
path-1-0 = let (same, slots) = path-written (codes "/1/0") refl in (ap string same, slots)

path-1-3 : IsPath (string (codes "/1/3")) (1 ∷ 3 ∷ [])
unfolding number_up_to
path-1-3 = let (same, slots) = path-written (codes "/1/3") refl in (ap string same, slots)

says-space : SaysSpace [] [] space_table space_entry
unfolding has_only items
says-space = record {
  keys = refl;
  path = (string (codes "/1"), refl, path-1);
  program = refl;
  pages = inl (array (item (integer (pos 2)) no_items), refl, (item (integer (pos 2)) no_items, refl, ((refl, omega arith, omega arith), tt)));
  nester = inr (refl, refl);
  stands = refl;
  few = omega arith;
}

says-thread : SaysObject (space_entry ∷ []) [] thread_table (thread_entry 0)
unfolding has_only items
says-thread = record {
  path = (string (codes "/1/0"), refl, path-1-0);
  spec = (
    (string (codes "thread"), refl, refl),
    record {
      keys = refl;
      entry_at = inr (refl, refl);
      regs_at = inl (array (item (integer (pos 7)) no_items), refl, (item (integer (pos 7)) no_items, refl, ((refl, omega arith, omega arith), tt)));
      few = omega arith;
      stops_at = inr (refl, refl);
    },
  );
  inside = omega arith;
  in_space = refl;
  no_space = refl;
  no_object = refl;
}

says-reference : SaysObject (space_entry ∷ []) (thread_entry 0 ∷ []) reference_table reference_entry
unfolding has_only
says-reference = record {
  path = (string (codes "/1/3"), refl, path-1-3);
  spec = ((string (codes "reference"), refl, refl), record { keys = refl; to_at = (string (codes "/1/0"), refl, path-1-0) });
  inside = omega arith;
  in_space = refl;
  no_space = refl;
  no_object = refl;
}

pub says-defaults : SaysDefaults
unfolding has_only items
says-defaults = record {
  keys = refl;
  budget = (integer (pos 100), refl, (refl, omega arith, omega arith));
  workers = inr (refl, refl);
  programs = ([], inr (refl, refl), tt);
  spaces = (
    table space_table ∷ [],
    inl (array (item (table space_table) no_items), refl, (item (table space_table) no_items, refl, refl)),
    ((space_table, refl, says-space), tt),
  );
  objects = (
    table thread_table ∷ table reference_table ∷ [],
    inl (
      array (item (table thread_table) (item (table reference_table) no_items)),
      refl,
      (item (table thread_table) (item (table reference_table) no_items), refl, refl),
    ),
    ((thread_table, refl, says-thread), ((reference_table, refl, says-reference), tt)),
  );
  aims = All-from_recursion (λ (o : ObjectEntry). aims_well (space_entry ∷ []) (thread_entry 0 ∷ reference_entry ∷ []) (entry_space o) o.spec ≡ true)
      (thread_entry 0 ∷ reference_entry ∷ []) (refl, (refl, tt));
  servers = ([], inr (refl, refl), tt);
  serving = tt;
  jobs = ([], ([], inr (refl, refl), tt), tt);
}

-- how often the first object, a thread, is stopped
abbrev stops_of : Spec → ℕ
stops_of (Thread entry regs stops) = stops
stops_of _ = 0

abbrev stops_in : List ObjectEntry → ℕ
stops_in [] = 0
stops_in (o ∷ os) = stops_of o.spec

pub says-no-other : SaysNoOther
says-no-other say =
    let zero : scenario_of [] (document no_members) ≡ Ok (scenario 0) = said-document [] (document no_members) (scenario 0) says-defaults in
    let one : scenario_of [] (document no_members) ≡ Ok (scenario 1) = said-document [] (document no_members) (scenario 1) say in
    let same : scenario 0 ≡ scenario 1 = cc in
    let stops : 0 ≡ 1 = ap (λ (s : Scenario). stops_in s.objects) same in
    absurd (suc-ne-zero 0 (sym stops))

pub says-none : SaysNone
unfolding has_only
says-none s say = absurd (true≢false (sym say.keys))
