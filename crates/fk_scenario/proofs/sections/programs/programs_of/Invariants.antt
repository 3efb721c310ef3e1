use Rattle.std.proofs.Common.{◌≡◌, []}
use Rattle.toml.specs.View.{members_view, table_view}
use Rattle.fk_scenario.specs.Sections.Programs as spec
use Rattle.fk_scenario.proofs.sections.programs.programs_of.Given as goal

abbrev pub invariant-loop-name : goal.invariant-loop-name
invariant-loop-name l = spec.programs_from l.programs (members_view l.name-iterator) ≡ spec.programs_from [] (table_view l.table)
