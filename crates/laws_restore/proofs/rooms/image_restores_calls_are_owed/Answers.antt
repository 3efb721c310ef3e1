use Rattle.laws_restore.proofs.InRooms.Restored.{image_restore_is_owed}
use Rattle.laws_restore.proofs.rooms.image_restores_calls_are_owed.Goals as goal

pub returns : goal.returns
returns c = image_restore_is_owed
