use Rattle.laws_restore.proofs.InRooms.Roomed.{valid_is_roomed}
use Rattle.laws_restore.proofs.rooms.valid_images_are_roomed.Goals as goal

pub returns : goal.returns
returns c = valid_is_roomed
