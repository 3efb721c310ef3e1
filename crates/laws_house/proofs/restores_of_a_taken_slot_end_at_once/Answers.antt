use Rattle.laws_house.proofs.Once.{occupied_at_once}
use Rattle.laws_house.proofs.restores_of_a_taken_slot_end_at_once.Goals as goal

pub returns : goal.returns
returns g c = occupied_at_once
