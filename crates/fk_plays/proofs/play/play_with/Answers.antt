use Rattle.std.proofs.Common.{◌≡◌, Some, rules}
use Rattle.fk_causes.specs.Shelf.{HasAt}
use Rattle.fk_commands.specs.Files.{trace_name}
use Rattle.fk_commands.proofs.Comes.{comes-also}
use Rattle.fk_plays.specs.Play.{IsPlayedBy}
use Rattle.fk_runs.specs.Runs.Runs.{IsPlayedFrom}
use Rattle.fk_plays.proofs.play.play_with.Goals as goal

pub returns-clause-comes : goal.returns-clause-comes
returns-clause-comes g c =
    let s = c.args.scenario.now in
    let images = c.args.images.now in
    let files = g.H.Shelf.files c.args.shelf.now in
    let trace = c.in_ok-trace.trace.items in
    let found : HasAt files (trace_name c.args.name.now) (Some trace) = search rules in
    comes-also (IsPlayedFrom s images trace) (IsPlayedBy c.args.name.now files s images) (λ outcome text played. (Some trace, found, played))
    c.play_first.result (rw (← c.deref.ensures.value) c.play_first.ensures.comes)
