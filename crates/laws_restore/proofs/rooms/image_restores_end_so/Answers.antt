use Rattle.laws_restore.proofs.InRooms.Restored.{image_restore_ends_so}
use Rattle.laws_restore.proofs.rooms.image_restores_end_so.Goals as goal

pub returns : goal.returns
returns c = image_restore_ends_so
