use Rattle.std.proofs.Common.{◌≡◌, ◌++◌, drop}
use Rattle.fk_store.specs.Store.World.{world}
use Rattle.fk_boot.specs.Services.{first_services, by_paths}
use Rattle.fk_boot.proofs.services.services_of.Given as goal

abbrev pub invariant-loop-server : goal.invariant-loop-server
invariant-loop-server l = by_paths (world l.store) l.services.items ++ first_services (drop l.server-index l.servers) ≡ first_services l.servers
