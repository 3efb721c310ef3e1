use Rattle.laws_migrate.proofs.Starts.{sound_starts_may_migrate}
use Rattle.laws_migrate.proofs.sound_starts_may_migrate.Goals as goal

pub returns : goal.returns
returns c = sound_starts_may_migrate
