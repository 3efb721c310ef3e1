use Rattle.fk_served.proofs.Acts.{servers_ask_as_users}
use Rattle.fk_served.proofs.servers_ask_as_users.Goals as goal

pub returns : goal.returns
returns c = servers_ask_as_users
