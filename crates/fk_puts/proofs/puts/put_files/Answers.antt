use Rattle.std.proofs.Common.{Some}
use Rattle.fk_words.specs.Commands.{leaves, seen}
use Rattle.fk_puts.proofs.Kept.{kept_by}
use Rattle.fk_puts.proofs.puts.put_files.Goals as goal

pub returns-clause-others : goal.returns-clause-others
returns-clause-others g c =
    kept_by c.put_of.result (leaves (Some (seen c.args.command))) c.args.report.now (g.H.Shelf.files c.args.shelf.now) (g.H.Shelf.files c.put_of.new.shelf)
    c.put_of.ensures.put c.put_of.ensures.some
