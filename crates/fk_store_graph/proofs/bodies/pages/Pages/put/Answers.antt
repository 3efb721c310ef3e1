use Rattle.std.proofs.Common.{sym, ◌∙◌}
use Rattle.fk_store_graph.proofs.InLinked.TabledLaws.{relaid_rows, same_rows, untaken}
use Rattle.fk_store_graph.proofs.InLinked.NameLaws.{page_naming}
use Rattle.fk_store_graph.proofs.InBodies.Results.{any_err}
use Rattle.fk_store_graph.proofs.InBodies.ScanLaws.{page_not_gone}
use Rattle.fk_store_graph.proofs.bodies.pages.Pages.put.Goals as goal

-- the page is there, and is written over
pub returns-in-Some-clause-ok : goal.returns-in-Some-clause-ok
returns-in-Some-clause-ok c =
    let laid = rw c.write.ensures at c.lay_value.ensures.laid in
    rw (← c.self.view_is) (relaid_rows page_naming _ _ _ c.args.space c.args.page c.args.words.now c.take_value.ensures.left laid)

-- the page is new
pub returns-in_ok-put_value-in-None-clause-ok : goal.returns-in_ok-put_value-in-None-clause-ok
returns-in_ok-put_value-in-None-clause-ok c =
    let put = rw c.in_ok-new-in-None.ensures at c.in_ok-put_value-in-None.ensures.ok in
    rw (← c.self.view_is) (relaid_rows page_naming _ _ _ c.args.space c.args.page c.args.words.now c.take_value.ensures.left put)

pub returns-in_err-new-in-None-clause-err : goal.returns-in_err-new-in-None-clause-err
returns-in_err-new-in-None-clause-err c = any_err c.from_residual.result _ (rw (← c.self.view_is) (same_rows page_naming _ _
    (untaken page_naming _ _ c.args.space c.args.page (sym c.in-None.ensures.taken) c.take_value.ensures.left)))

pub returns-in_err-new-in-None-clause-there : goal.returns-in_err-new-in-None-clause-there
returns-in_err-new-in-None-clause-there c there =
    absurd (page_not_gone _ c.args.space c.args.page c.in-None.ensures.taken (rw (← c.self.view_is) at there))

pub returns-in_err-put_value-in-None-clause-err : goal.returns-in_err-put_value-in-None-clause-err
returns-in_err-put_value-in-None-clause-err c = any_err c.from_residual-in_err-put_value-in-None.result _ (rw (← c.self.view_is) (same_rows page_naming _ _
    (λ s k. c.in_err-put_value-in-None.ensures.err s k
    ∙ untaken page_naming _ _ c.args.space c.args.page (sym c.in-None.ensures.taken) c.take_value.ensures.left s k)))

pub returns-in_err-put_value-in-None-clause-there : goal.returns-in_err-put_value-in-None-clause-there
returns-in_err-put_value-in-None-clause-there c there =
    absurd (page_not_gone _ c.args.space c.args.page c.in-None.ensures.taken (rw (← c.self.view_is) at there))
