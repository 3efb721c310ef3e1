use Rattle.std.proofs.Common.{◌∙◌}
use Rattle.fk_lone.proofs.Filled.{filled-none, filled-root, filled-put}
use Rattle.fk_lone.proofs.machine.filled.Goals as goal

pub loop-page-init : goal.loop-page-init
loop-page-init c = c.in_ok-store.ensures ∙ filled-none c.args.words.now

pub put_page-requires : goal.put_page-requires
put_page-requires c = filled-root _ _ _ c.loop-page.invariant

pub loop-page-preserved : goal.loop-page-preserved
loop-page-preserved c = filled-put _ _ _ _ _ c.loop-page.invariant c.page_of.ensures c.in_ok-put_page.ensures.world
