use Rattle.std.proofs.Common.{◌≡◌, drop}
use Rattle.fk_model.specs.Places.{same_path}
use Rattle.fk_checkpoint.proofs.assembly.links.are_slots_same.Given as goal

-- what is left decides
abbrev pub invariant-loop-at : goal.invariant-loop-at
invariant-loop-at l = same_path (drop l.at l.place) (drop l.at l.path) ≡ same_path l.place l.path
