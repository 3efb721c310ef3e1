use Rattle.laws_restore.proofs.InRestore.Scripted.{restores_picture}
use Rattle.laws_restore.proofs.restore.a_restorer_makes_the_subtree.Goals as goal

pub returns : goal.returns
returns c = restores_picture
