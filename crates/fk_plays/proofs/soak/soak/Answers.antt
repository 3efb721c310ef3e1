use Rattle.std.proofs.Common.{◌≡◌, Ok, map, string_bytes}
use Rattle.fk_commands.proofs.Comes.{comes-also}
use Rattle.fk_gen.specs.Soak.{scenario}
use Rattle.fk_plays.specs.Play.{IsSoak}
use Rattle.fk_runs.specs.Runs.Runs.{IsSoakFrom}
use Rattle.fk_scenario.specs.Scenario.Reading.{scenario_reading}
use Rattle.fk_plays.proofs.soak.soak.Goals as goal

pub returns-clause-comes : goal.returns-clause-comes
returns-clause-comes g c =
    let table = map (λ r. (string_bytes r.name, r.rule)) c.args.table.now.list.items in
    let s = c.in_ok-scenario.scenario in
    let reading : scenario_reading table (scenario c.args.count) ≡ Ok s = rw (c.deref.ensures.value, c.in_ok-text.ensures) at c.in_ok-scenario.ensures.read in
    comes-also (IsSoakFrom c.args.count s) (IsSoak c.args.count (scenario_reading table (scenario c.args.count)))
    (λ outcome text ran. rw reading ran) c.soak_first.result c.soak_first.ensures.comes
