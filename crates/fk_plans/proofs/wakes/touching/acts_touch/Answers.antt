use Rattle.fk_plans.proofs.InWakes.Acts.{acts_touch}
use Rattle.fk_plans.proofs.wakes.touching.acts_touch.Goals as goal

pub returns : goal.returns
returns c p touched w port pick = acts_touch p touched w port pick
