use Rattle.laws_checkpoint.proofs.Ended.{checkpoint_meets_contract}
use Rattle.laws_checkpoint.proofs.a_checkpoint_meets_the_contract.Goals as goal

pub returns : goal.returns
returns c = checkpoint_meets_contract
