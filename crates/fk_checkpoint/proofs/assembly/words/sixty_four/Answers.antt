use Rattle.std.proofs.Common.{rules}
use Rattle.fk_checkpoint.proofs.InAssembly.Loops.{filled}
use Rattle.fk_checkpoint.proofs.assembly.words.sixty_four.Goals as goal

pub returns : goal.returns
returns c = filled c.args.words.now _ _ c.min-count.ensures (search rules)
