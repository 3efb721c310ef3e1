use Rattle.std.proofs.Common.{ap}
use Rattle.fk_store.specs.Store.Paths.{path}
use Rattle.fk_store.specs.Store.World.{world}
use Rattle.fk_stretch.proofs.Steps.{found}
use Rattle.fk_stretch.proofs.stretch.page_of.Goals as goal

pub returns-in-Some : goal.returns-in-Some
returns-in-Some c =
    let m = c.args.store.now in
    found c.page.result _ _ c.page.ensures (ap ((world m).page (path m c.args.space)) c.in-Some.ensures)
