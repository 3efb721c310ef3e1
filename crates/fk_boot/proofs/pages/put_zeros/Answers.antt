use Rattle.std.proofs.Common.{◌∙◌, [], get_or}
use Rattle.fk_boot.specs.FirstWorld.{page_words}
use Rattle.fk_store.specs.Store.Paths.{path}
use Rattle.fk_boot.proofs.Changes.{more-zeros, no-zeros, space-put}
use Rattle.fk_boot.proofs.pages.put_zeros.Goals as goal

pub loop-page-preserved : goal.loop-page-preserved
loop-page-preserved c =
    let kept = c.loop-page.invariant in
    let pages = c.args.pages.now in
    let i = c.loop-page.page-index in
    let put = c.in_ok-put_page.ensures in
    record {
      rest = more-zeros (path c.args.store.now c.args.space) pages i _ _ _ c.loop-page-test.true (rw (← kept.path) put.world) kept.rest;
      path = put.paths ∙ kept.path;
      space = space-put _ _ c.args.space (get_or pages i 0) c.args.space (page_words []) put.world put.paths kept.space;
    }

pub returns-clause-world : goal.returns-clause-world
returns-clause-world c = no-zeros _ c.args.pages.now c.loop-page.page-index _ _ c.loop-page-test.false c.loop-page.invariant.rest
