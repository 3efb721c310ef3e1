use Rattle.std.proofs.Common.{◌∙◌, refl}
use Rattle.fk_model.specs.World.{apply_all}
use Rattle.fk_model.specs.Searches.{slots}
use Rattle.fk_store.specs.Store.Paths.{path}
use Rattle.fk_boot.proofs.Changes.{more-parts}
use Rattle.fk_boot.proofs.pages.put_program.Goals as goal

pub loop-page-init : goal.loop-page-init
unfolding apply_all slots
loop-page-init c = record { world = refl; path = refl; space = c.requires }

pub loop-page-preserved : goal.loop-page-preserved
loop-page-preserved c =
    let kept = c.loop-page.invariant in
    let put = c.in_ok-put_part.ensures in
    record {
      world = more-parts (path c.args.store.now c.args.space) c.args.words.now c.loop-page.page _ _ _ kept.world (rw (← kept.path) put.world);
      path = put.path ∙ kept.path;
      space = put.space;
    }
