use Rattle.std.proofs.Common.{arith, sym, ◌∙◌}
use Rattle.fk_store.specs.Store.Paths.{path}
use Rattle.fk_store.specs.Store.World.{world}
use Rattle.fk_store.proofs.InStore.finding.ReachLaws.{lowest-none}
use Rattle.fk_spaces.proofs.NextPages.{none_below, none_there, next-first, next-none}
use Rattle.fk_spaces.proofs.finding.next_page.Goals as goal

pub loop-page-init : goal.loop-page-init
loop-page-init c =
    none_below (world c.args.store.now) (path c.args.store.now c.args.space) c.args.from c.first_page-page.result c.first_page-page.ensures.low

pub returns-then-is_some : goal.returns-then-is_some
returns-then-is_some c =
    next-first _ _ _ c.loop-page.page c.loop-page.invariant _ c.page_from-found.ensures (sym c.is_some.ensures ∙ c.if-is_some.true) (omega arith)

pub loop-page-preserved : goal.loop-page-preserved
loop-page-preserved c =
    lowest-none c.loop-page.page _ c.loop-page.invariant (sym c.page_from-found.ensures ∙ none_there _ (sym c.is_some.ensures ∙ c.if-is_some.false))

pub returns : goal.returns
returns c = next-none _ _ _ c.loop-page.page c.loop-page.invariant (omega arith) (omega arith)
