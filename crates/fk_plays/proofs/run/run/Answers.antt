use Rattle.std.proofs.Common.{◌≡◌, Ok, map, string_bytes}
use Rattle.fk_plays.specs.Play.{IsWholeRun}
use Rattle.fk_runs.specs.Runs.Runs.{IsRunFrom}
use Rattle.fk_commands.proofs.Comes.{comes-also}
use Rattle.fk_scenario.specs.Scenario.Reading.{scenario_reading}
use Rattle.fk_plays.proofs.run.run.Goals as goal

pub returns-clause-comes : goal.returns-clause-comes
returns-clause-comes g c =
    let table = map (λ r. (string_bytes r.name, r.rule)) c.args.table.now.list.items in
    let s = c.in_ok-scenario.scenario in
    let images = c.in_ok-images.images in
    let files = g.H.Shelf.files c.args.shelf.now in
    let reading : scenario_reading table c.args.text.now ≡ Ok s = c.in_ok-scenario.ensures.read in
    comes-also (IsRunFrom s images) (IsWholeRun files (scenario_reading table c.args.text.now))
    (λ outcome text ran. rw reading (record { found = Ok images; finds = rw c.as_slice.ensures at c.in_ok-images.ensures.found; is = ran }))
    c.run_first.result (rw (← c.as_slice-2.ensures) c.run_first.ensures.comes)
