use Rattle.laws_moves.proofs.InUsers.Named.{spaces_stay}
use Rattle.laws_moves.proofs.users.spaces_stay.Goals as goal

pub returns : goal.returns
returns c = spaces_stay
