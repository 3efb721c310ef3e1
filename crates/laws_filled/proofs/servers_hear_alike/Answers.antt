use Rattle.laws_filled.proofs.Heard.{servers_hear_alike_lem}
use Rattle.laws_filled.proofs.servers_hear_alike.Goals as goal

pub returns : goal.returns
returns c = servers_hear_alike_lem
