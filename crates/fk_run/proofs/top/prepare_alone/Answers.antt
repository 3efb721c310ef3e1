use Rattle.fk_commands.specs.Tables.{rules_of}
use Rattle.fk_run.proofs.Due.{show-due, show-refused}
use Rattle.fk_run.proofs.top.prepare_alone.Goals as goal

pub returns-in-Show-clause-comes : goal.returns-in-Show-clause-comes
returns-in-Show-clause-comes g c =
    rw c.in-Show.is (show-due (rules_of c.args.table.now) c.in-Show.name.now (g.R.Source.left c.args.source.now)
    (g.H.Shelf.files c.args.shelf.now) c.show.result c.show.ensures.comes)

pub returns-in-Show-clause-refusal : goal.returns-in-Show-clause-refusal
returns-in-Show-clause-refusal g c =
    rw c.in-Show.is (show-refused (rules_of c.args.table.now) _ _ c.in-Show.name.now
    (g.R.Source.left c.args.source.now) c.show.result c.show.ensures.refusal)
