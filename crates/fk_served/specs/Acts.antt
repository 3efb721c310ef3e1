-- Acts: which moves of users and servers are ready, and which servers can't act.
use Rattle.std.specs.Prelude.{◌≡◌, ℕ, ◌<◌, ◌≤◌, true, false, Option, Some, None}
use Rattle.std.specs.List.{slice_get}
use Rattle.fk_model.specs.declared.moves.Ask.{Ask}
use Rattle.fk_model.specs.declared.moves.Move.{Move}
use Rattle.fk_model.specs.declared.names.Who.{Who}
use Rattle.fk_model.specs.Who.{event_of}
use Rattle.fk_model.specs.World.{World}
use Rattle.laws_jobs.specs.Machines.{IsReadyAt}
use Rattle.fk_kernel.specs.Events.{is_who}
use Rattle.fk_natives.specs.Natives.{State}
use Rattle.fk_served.specs.Served.{Services, asked}
pub use Rattle.fk_model.specs.Moves.{is_act}

-- a move is ready for what its mover asks for; who asks for nothing has none
abbrev pub IsReadyFor : World → Move → Option Ask → Type 0
IsReadyFor w m None = ⊥
IsReadyFor w m (Some ask) = IsReadyAt w (event_of w ask m)

-- a move of a user or a server is ready
abbrev pub IsReadyAsked : Services → World → Move → Type 0
IsReadyAsked services w m = IsReadyFor w m (asked services w m.who)

-- the server of a port has no ready act
abbrev pub HasNoAct : Services → World → Who → Type 0
HasNoAct services w port = (m : Move) (ask : Ask) → m.who ≡ port → asked services w port ≡ Some ask → is_act ask ≡ true
    → IsReadyAt w (event_of w ask m) → ⊥

-- nor have those from a place up to another, but one that stands by a name
abbrev pub HaveNoActs : Services → World → Option Who → ℕ → ℕ → Type 0
HaveNoActs services w but from to = (k : ℕ) (served : Who × State) → from ≤ k → k < to → slice_get services k ≡ Some served →
    is_who but served.0 ≡ false → HasNoAct services w served.0
