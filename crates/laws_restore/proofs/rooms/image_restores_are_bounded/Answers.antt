use Rattle.laws_restore.proofs.InRooms.Restored.{image_restore_is_bounded}
use Rattle.laws_restore.proofs.rooms.image_restores_are_bounded.Goals as goal

pub returns : goal.returns
returns c = image_restore_is_bounded
