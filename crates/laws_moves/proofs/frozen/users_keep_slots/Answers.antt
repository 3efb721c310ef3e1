use Rattle.laws_moves.proofs.InFrozen.Slots.{users_keep_slots}
use Rattle.laws_moves.proofs.frozen.users_keep_slots.Goals as goal

pub returns : goal.returns
returns c = users_keep_slots
