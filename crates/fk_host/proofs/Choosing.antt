-- Choosing: where no user moves and no server acts, nobody's move is ready.
use Rattle.std.proofs.Common.{◌≡◌, false, length, None, option_map, refl}
use Rattle.fk_model.specs.declared.moves.Ask.TheVariants as asks
use Rattle.fk_model.specs.declared.moves.Move.{Move}
use Rattle.fk_model.specs.Who.{named, event_of}
use Rattle.fk_model.specs.World.{World}
use Rattle.fk_served.specs.Events.{IsAnyReady}
use Rattle.fk_served.specs.Acts.{HaveNoActs, IsReadyAsked, IsReadyFor}
use Rattle.fk_served.specs.Served.{Services, asked}
use Rattle.fk_served.proofs.Acts.{runs}
use Rattle.fk_served.proofs.Idle.{no-asked}
use Rattle.laws_jobs.specs.Machines.{IsReadyAt}

pub none-ready : (services : Services) (w : World) → (IsAnyReady w → ⊥) → HaveNoActs services w None 0 (length services) → (m : Move)
    → IsReadyAsked services w m → ⊥
none-ready services w idle acts m ready =
    no-asked services w None (λ n other runs-now. idle (named w n.who, option_map (named w) n.pick, runs-now)) acts m refl ready

-- who is ready to run asks to
pub runs-asked : (services : Services) (w : World) (m : Move) → IsReadyAt w (event_of w asks.Run m) → IsReadyAsked services w m
runs-asked services w m ready = rw (runs services w m.who (option_map (named w) m.pick) ready) ready
