use Rattle.laws_moves.proofs.InFrozen.once.Moves.{users_touch_once}
use Rattle.laws_moves.proofs.frozen.users_touch_pointers_once.Goals as goal

pub returns : goal.returns
returns c = users_touch_once
