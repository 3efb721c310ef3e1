use Rattle.laws_waits.proofs.Chains.{joins_last_lem}
use Rattle.laws_waits.proofs.a_node_joins_last.Goals as goal

pub returns : goal.returns
returns c = joins_last_lem
