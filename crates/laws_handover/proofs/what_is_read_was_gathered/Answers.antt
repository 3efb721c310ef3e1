use Rattle.laws_handover.proofs.Meets.{same_image}
use Rattle.laws_handover.proofs.what_is_read_was_gathered.Goals as goal

pub returns : goal.returns
returns g c = λ k nothing w v es i all e. same_image k nothing w v es i all e
