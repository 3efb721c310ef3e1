use Rattle.laws_waits.proofs.Chains.{leaves_lem}
use Rattle.laws_waits.proofs.a_node_leaves.Goals as goal

pub returns : goal.returns
returns c = leaves_lem
