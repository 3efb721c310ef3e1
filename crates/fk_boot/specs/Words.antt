-- The numbers of a scenario that come into its first world are words.
use Rattle.std.specs.Prelude.{◌≡◌, Bool, true}
use Rattle.std.specs.List.{list_all}
use Rattle.fk_model.specs.Whole.{are_words}
use Rattle.fk_scenario.specs.declared.entries.types.ObjectEntry.{ObjectEntry}
use Rattle.fk_scenario.specs.declared.entries.types.Program.{Program}
use Rattle.fk_scenario.specs.declared.entries.types.Spec.{Spec}
use Rattle.fk_scenario.specs.declared.entries.types.Spec.TheVariants.{Thread}
use Rattle.fk_scenario.specs.declared.scenario.scenario.Scenario.{Scenario}

-- a thread's first registers
abbrev pub has_words : Spec → Bool
has_words (Thread entry regs stops) = are_words regs
has_words other = true

-- those of its programs, and of its threads
pub record HasWords (s : Scenario) : Type 0 where
  pub programs : list_all (λ (p : Program). are_words p.words) s.programs ≡ true
  pub objects : list_all (λ (o : ObjectEntry). has_words o.spec) s.objects ≡ true
