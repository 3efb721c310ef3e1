use Rattle.laws_restore.proofs.InRestore.Example.{one_script_is}
use Rattle.laws_restore.proofs.restore.the_script_of_one_reference.Goals as goal

pub returns : goal.returns
returns c = one_script_is
