use Rattle.laws_restore.proofs.InRestore.Owing.{meets_contract}
use Rattle.laws_restore.proofs.restore.a_restore_meets_the_contract.Goals as goal

pub returns : goal.returns
returns c = meets_contract
