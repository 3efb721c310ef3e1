use Rattle.std.proofs.Common.{rules}
use Rattle.fk_restore.proofs.positions.parts.talk_part.Goals as goal

pub returns-in-0 : goal.returns-in-0
returns-in-0 c bind s = search (rules, c.walks_to.ensures bind c.args.number s)

pub returns-in-1 : goal.returns-in-1
returns-in-1 c bind s = search (rules, c.walks_to-in-1.ensures bind c.args.number s)
