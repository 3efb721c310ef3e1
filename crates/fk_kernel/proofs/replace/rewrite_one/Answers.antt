use Rattle.fk_kernel.proofs.Replacing.{ok-so}
use Rattle.fk_kernel.proofs.replace.rewrite_one.Goals as goal

pub returns-clause-world : goal.returns-clause-world
returns-clause-world c = ok-so _ _ (c.put_page-done.ensures.there c.requires.1) c.put_page-done.ensures.world
