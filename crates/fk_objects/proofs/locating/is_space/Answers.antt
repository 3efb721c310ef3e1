use Rattle.fk_objects.proofs.Ways.{root_apart, is_root}
use Rattle.fk_objects.proofs.locating.is_space.Goals as goal

pub returns-in-None : goal.returns-in-None
returns-in-None c = root_apart _ _ _ (is_root _ _ (rw c.in-None.is at c.home.ensures.some) c.requires.space)
