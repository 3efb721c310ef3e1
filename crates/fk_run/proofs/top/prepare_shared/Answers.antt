use Rattle.fk_commands.specs.Tables.{rules_of}
use Rattle.fk_run.proofs.Due.{soak-due}
use Rattle.fk_run.proofs.top.prepare_shared.Goals as goal

pub returns-in-Soak-clause-comes : goal.returns-in-Soak-clause-comes
returns-in-Soak-clause-comes g c =
    rw c.in-Soak.is (soak-due (rules_of c.args.table.now) c.in-Soak.count (g.R.Source.left c.args.source.now)
    (g.H.Shelf.files c.args.shelf.now) c.soak.result c.soak.ensures.comes)
