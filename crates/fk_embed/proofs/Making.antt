-- What a user or a server asks is fit for its turn.
use Rattle.std.proofs.Common.{◌≡◌, Option, Some, None, refl}
use Rattle.fk_host.proofs.Acts.{fit-asked}
use Rattle.fk_host.specs.Hosts.{IsFitFor}
use Rattle.fk_host.specs.Served.{Services, asked}
use Rattle.fk_model.specs.World.{World}
use Rattle.fk_model.specs.Who.{named}
use Rattle.fk_model.specs.declared.moves.Ask.{Ask}
use Rattle.fk_model.specs.declared.moves.Move.{Move}

pub fit-others : (services : Services) (w : World) (m : Move) → IsFitFor w m (asked services w m.who)
fit-others services w m = by (asked services w m.who) refl
  where
    by : (o : Option Ask) → asked services w m.who ≡ o → IsFitFor w m o
    by None e = tt
    by (Some ask) e = fit-asked services w m.who ask (named w m.who) e
