use Rattle.laws_first.proofs.Users.{servers_ask_as_users}
use Rattle.laws_first.proofs.servers_ask_as_users.Goals as goal

pub returns : goal.returns
returns c = servers_ask_as_users
