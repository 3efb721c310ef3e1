use Rattle.fk_embed.proofs.Making.{fit-others}
use Rattle.fk_served.specs.Kernels.{world_of as world}
use Rattle.fk_embed.proofs.moves.make.Goals as goal

pub turn-requires-clause-fit : goal.turn-requires-clause-fit
turn-requires-clause-fit g c = let host = c.args.host.now in fit-others host.services.list (world host.kernel) c.args.m.now
