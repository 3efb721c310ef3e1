use Rattle.laws_restore.proofs.InRooms.Restored.{image_is_restored}
use Rattle.laws_restore.proofs.rooms.images_are_restored.Goals as goal

pub returns : goal.returns
returns c = image_is_restored
