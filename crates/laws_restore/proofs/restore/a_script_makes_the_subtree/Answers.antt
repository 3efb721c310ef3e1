use Rattle.laws_restore.proofs.InRestore.Scripted.{script_makes}
use Rattle.laws_restore.proofs.restore.a_script_makes_the_subtree.Goals as goal

pub returns : goal.returns
returns c = script_makes
