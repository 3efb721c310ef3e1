use Rattle.fk_served.proofs.Hearing.{servers_hear_by_names}
use Rattle.fk_served.proofs.servers_hear_by_names.Goals as goal

pub returns : goal.returns
returns c = servers_hear_by_names
