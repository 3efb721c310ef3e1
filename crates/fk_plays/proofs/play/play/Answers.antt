use Rattle.std.proofs.Common.{◌≡◌, Ok, map, string_bytes}
use Rattle.fk_commands.proofs.Comes.{comes-also}
use Rattle.fk_plays.specs.Play.{IsPlay, IsPlayedBy, IsScenario}
use Rattle.fk_plays.proofs.Found.{refused-with}
use Rattle.fk_scenario.specs.Scenario.Reading.{scenario_reading}
use Rattle.fk_plays.proofs.play.play.Goals as goal

pub returns-clause-comes : goal.returns-clause-comes
returns-clause-comes g c =
    let table = map (λ r. (string_bytes r.name, r.rule)) c.args.table.now.list.items in
    let s = c.in_ok-scenario.scenario in
    let images = c.in_ok-images.images in
    let files = g.H.Shelf.files c.args.shelf.now in
    let reading : scenario_reading table c.args.text.now ≡ Ok s = c.in_ok-scenario.ensures.read in
    comes-also (IsPlayedBy c.args.name.now files s images) (IsPlay c.args.name.now files (scenario_reading table c.args.text.now))
    (λ outcome text played. rw reading (record { found = Ok images; finds = rw c.as_slice.ensures at c.in_ok-images.ensures.found; is = played }))
    c.play_with.result (rw (← c.in_ok-images.ensures.same_files, ← c.as_slice-2.ensures) c.play_with.ensures.comes)

pub returns-clause-refusal : goal.returns-clause-refusal
returns-clause-refusal g c =
    let table = map (λ r. (string_bytes r.name, r.rule)) c.args.table.now.list.items in
    refused-with (g.H.Shelf.failed_gets c.args.shelf.now) _ (g.H.Shelf.failed_gets c.play_with.new.shelf) (IsScenario (scenario_reading table c.args.text.now))
    c.in_ok-images.ensures.later (c.in_ok-scenario.scenario, c.in_ok-scenario.ensures.read) c.play_with.result c.play_with.ensures.refusal
