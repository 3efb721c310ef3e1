use Rattle.laws_restore.proofs.InRestore.Lasting.{occupied_is_exact}
use Rattle.laws_restore.proofs.restore.a_taken_slot_is_told_exactly.Goals as goal

pub returns : goal.returns
returns c = occupied_is_exact
