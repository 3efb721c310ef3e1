use Rattle.std.proofs.Common.{◌≡◌, ℕ, List, Ok, Some, rules}
use Rattle.fk_causes.specs.Shelf.{HasAt}
use Rattle.fk_image.specs.Format.Reading.{image_reading}
use Rattle.fk_commands.specs.Files.{image_name}
use Rattle.fk_commands.specs.Show.{IsShow, IsShown}
use Rattle.fk_commands.proofs.Comes.{comes-also}
use Rattle.fk_commands.proofs.show.show.Goals as goal

pub returns-clause-comes : goal.returns-clause-comes
returns-clause-comes g c =
    let found : HasAt (g.H.Shelf.files c.args.shelf.now) (image_name c.args.name.now) (Some c.in_ok-bytes.bytes.items) = search rules in
    comes-also (IsShown c.args.name.now (image_reading c.in_ok-bytes.bytes.items)) (IsShow c.args.name.now (g.H.Shelf.files c.args.shelf.now))
    (λ outcome text shown. (Some c.in_ok-bytes.bytes.items, found, shown)) c.show_image.result (rw (← c.deref.ensures.value) c.show_image.ensures.comes)
