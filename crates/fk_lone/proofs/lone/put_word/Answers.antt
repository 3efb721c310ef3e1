use Rattle.std.proofs.Common.{arith}
use Rattle.fk_lone.proofs.Lones.{root_there, page_there, written}
use Rattle.fk_lone.proofs.lone.put_word.Goals as goal

pub put_word-requires-clause-space : goal.put_word-requires-clause-space
put_word-requires-clause-space c = root_there _ c.requires.alone

pub put_word-requires-clause-there : goal.put_word-requires-clause-there
put_word-requires-clause-there c = page_there _ c.requires.alone _ (omega arith)

pub returns-clause-alone : goal.returns-clause-alone
returns-clause-alone c = (written _ c.requires.alone _ c.args.address c.args.value c.requires.low c.put_word.ensures.world).0

pub returns-clause-memory : goal.returns-clause-memory
returns-clause-memory c = (written _ c.requires.alone _ c.args.address c.args.value c.requires.low c.put_word.ensures.world).1
