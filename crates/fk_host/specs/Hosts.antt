-- Hosts: what whoever moves asks for, and what a turn makes of a kernel and its servers.
use Rattle.std.specs.Prelude.{◌≡◌, ℕ, zero, suc, ◌≤◌, true, map, Option, Some, None}
use Rattle.fk_model.specs.declared.moves.Ask.{Ask}
use Rattle.fk_model.specs.declared.moves.Ask.TheVariants as asks
use Rattle.fk_model.specs.declared.moves.Move.{Move}
use Rattle.fk_model.specs.declared.moves.Said.{Said}
use Rattle.fk_model.specs.declared.names.Who.{Who}
use Rattle.fk_model.specs.Runs.{Event, after}
use Rattle.fk_model.specs.Searches.{depth}
use Rattle.fk_model.specs.Valid.{IsValid}
use Rattle.fk_model.specs.Who.{event_of}
use Rattle.fk_model.specs.World.{World}
use Rattle.fk_served.specs.Kernels.{Kept}
use Rattle.fk_served.specs.Kernels.{path_of as path}
use Rattle.fk_served.specs.Kernels.{world_of as world}
use Rattle.fk_served.specs.Events.{is_fit_event, step_of}
use Rattle.fk_store.specs.Store.Moves.{said_by}
use Rattle.fk_served.specs.Acts.{IsReadyFor}
use Rattle.laws_jobs.specs.Machines.{IsReadyAt}
use Rattle.fk_served.specs.Served.{Services, asked, hears_of}

-- a porter asks for the call that is handed in; whatever else is handed in, a mover asks for what its port's server does, or runs
abbrev pub asked_with : Services → World → Who → Ask → Option Ask
asked_with services w who (asks.Call stage words) = Some (asks.Call stage words)
asked_with services w who asks.Run = asked services w who
asked_with services w who asks.Accept = asked services w who
asked_with services w who (asks.Give words len) = asked services w who
asked_with services w who asks.Over = asked services w who

-- a move is ready with what is handed in
abbrev pub IsReadyWith : Services → World → Move → Ask → Type 0
IsReadyWith services w m ask = IsReadyFor w m (asked_with services w m.who ask)

-- and fit
abbrev pub IsFitFor : World → Move → Option Ask → Type 0
IsFitFor w m None = Unit {0}
IsFitFor w m (Some ask) = is_fit_event w (event_of w ask m) ≡ true

-- a move is fit with what is handed in
abbrev pub IsFitWith : Services → World → Move → Ask → Type 0
IsFitWith services w m ask = IsFitFor w m (asked_with services w m.who ask)

-- a kernel and its servers after an event: the machine's step, of which this is told, and what each server hears of it
pub record IsStepped (m : Kept) (services : Services) (e : Event) (said : Said) (n : Kept) (new : Services) : Type 0 where
  pub step : step_of (world m) e ≡ record { world = world n; said = said_by (path n) said }
  pub hears : new ≡ map (hears_of (world m) e) services

-- a turn: that of the event for which its mover asks
abbrev pub IsTurnFor : Kept → Services → Move → Option Ask → Said → Kept → Services → Type 0
IsTurnFor m services move None said n new = ⊥
IsTurnFor m services move (Some ask) said n new = IsStepped m services (event_of (world m) ask move) said n new

-- a turn: that of the event for which its mover asks
abbrev pub IsTurn : Kept → Services → Move → Ask → Said → Kept → Services → Type 0
IsTurn m services move ask said n new = IsTurnFor m services move (asked_with services (world m) move.who ask) said n new

-- a quiet turn: its mover runs, its move is ready and leads there, and no server hears of it
pub record IsQuietTurn (services : Services) (m : Move) (w v : World) : Type 0 where
  pub runs : asked services w m.who ≡ Some asks.Run
  pub valid : IsValid w
  pub few : w.next ≤ depth
  pub ready : IsReadyAt w (event_of w asks.Run m)
  pub goes : after w (event_of w asks.Run m) ≡ v
  pub hears : map (hears_of w (event_of w asks.Run m)) services ≡ services

-- so many of them, one after the other
abbrev pub AreQuietTurns : Services → Move → ℕ → World → World → Type 0
AreQuietTurns services m zero w v = w ≡ v
AreQuietTurns services m (suc n) w v = (u : World) × AreQuietTurns services m n w u × IsQuietTurn services m u v
