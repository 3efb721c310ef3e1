use Rattle.fk_commands.proofs.Rises.{rises}
use Rattle.fk_puts.proofs.puts.put_run.Goals as goal

pub returns-clause-cause : goal.returns-clause-cause
returns-clause-cause g c = λ failed.
    rises (g.H.Shelf.failed_puts c.args.shelf.now) (g.H.Shelf.failed_puts c.put_images.new.shelf) (g.H.Shelf.failed_puts c.put_named.new.shelf)
    c.put_images.ensures.later (c.put_named.ensures.cause failed)
