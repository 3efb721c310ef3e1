use Rattle.std.proofs.Common.{Some}
use Rattle.fk_words.specs.Commands.{seen}
use Rattle.fk_run.proofs.Again.{again_by}
use Rattle.fk_run.proofs.top.put_all.Goals as goal

pub returns-clause-again : goal.returns-clause-again
returns-clause-again g c = λ rules.
    again_by rules c.put_files.result (Some (seen c.args.command)) c.args.report.now (g.H.Shelf.files c.args.shelf.now) (g.H.Shelf.files c.put_files.new.shelf)
    c.put_files.ensures.put c.put_files.ensures.small
