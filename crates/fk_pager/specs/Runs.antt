-- Runs of a kernel with its native servers and a pager: who moves, and what comes of it.
use Rattle.std.specs.Prelude.{◌≡◌, ℕ, ◌+◌, ◌≤◌, Bool, true, false, not, ◌&&◌, List, [], ◌∷◌, ◌++◌, map, option_map, Some, if◌then◌else◌}
use Rattle.fk_model.specs.declared.limits.TheConstants.{LAST_PORTER_SLOT}
use Rattle.fk_model.specs.declared.moves.Ask.{Ask}
use Rattle.fk_model.specs.declared.moves.Move.{Move}
use Rattle.fk_model.specs.Runs.{Event, after}
use Rattle.fk_model.specs.Searches.{depth}
use Rattle.fk_model.specs.Valid.{IsValid}
use Rattle.fk_model.specs.Moves.{IsReady}
use Rattle.fk_model.specs.Who.{named, event_of}
use Rattle.fk_model.specs.World.{World}
use Rattle.fk_host.specs.Served.{Services, asked, hears_of}
use Rattle.laws_filled.specs.Filled.{peeks, raises}
use Rattle.laws_filled.specs.Pager.{Desk, State, paging, is_opening, call_of, said_of, hears, IsOwn}

-- the world, the native servers and the pager between two moves; and how many moves its opening has made
pub record Moment : Type 0 where
  pub world : World
  pub services : Services
  pub state : State
  pub opened : ℕ

-- what becomes of servers by an event
abbrev pub heard_by : World → Event → Services → Services
heard_by w e services = map (hears_of w e) services

-- ---- moves of users and of native servers

-- one is ready, for what its mover asks; and the pager's opening is done
pub record IsOthersMove (at : Moment) (m : Move) (ask : Ask) : Type 0 where
  pub opened : is_opening at.state.phase ≡ false
  pub asks : asked at.services at.world m.who ≡ Some ask
  pub valid : IsValid at.world
  pub few : at.world.next ≤ depth
  pub ready : IsReady at.world (named at.world m.who) (option_map (named at.world) m.pick) ask

abbrev pub by_others : Moment → Move → Ask → Moment
by_others at m ask = record {
  world = after at.world (event_of at.world ask m);
  services = heard_by at.world (event_of at.world ask m) at.services;
  state = at.state;
  opened = at.opened;
}

-- ---- moves of the pager

-- its porter moves: the call that it asks for is ready, and a wait picks a fault of its own
pub record IsPagersMove (d : Desk) (at : Moment) (m : Move) : Type 0 where
  pub porter : named at.world m.who ≡ LAST_PORTER_SLOT ∷ d.nester
  pub own : IsOwn d at.world at.state (option_map (named at.world) m.pick)

abbrev pub pagers_event : Desk → Moment → Move → Event
pagers_event d at m = call_of d at.state (option_map (named at.world) m.pick)

abbrev pub by_pager : Desk → Moment → Move → Moment
by_pager d at m = record {
  world = after at.world (pagers_event d at m);
  services = heard_by at.world (pagers_event d at m) at.services;
  state = hears d at.state (said_of at.world (pagers_event d at m));
  opened = at.opened + (if is_opening at.state.phase then 1 else 0);
}

-- ---- runs

-- moves one after the other, each ready at its place
pub data IsRun (d : Desk) (first : Moment) : List Move → Moment → Type 0 where
  Begins : IsRun d first [] first
  Others : (past : List Move) (at : Moment) (m : Move) (ask : Ask) → IsRun d first past at → IsOthersMove at m ask →
      IsRun d first (past ++ m ∷ []) (by_others at m ask)
  Own : (past : List Move) (at : Moment) (m : Move) → IsRun d first past at → IsPagersMove d at m → IsRun d first (past ++ m ∷ []) (by_pager d at m)

-- what was a run of some moves is now one of these
abbrev pub GoesOn : Desk → List Move → Moment → List Move → Moment → Type 0
GoesOn d past at moves next = (first : Moment) → IsRun d first past at → IsRun d first moves next

-- ---- what peeks and what is struck

abbrev pub peeks_now : Desk → Moment → Move → Ask → Bool
peeks_now d at m ask = peeks (paging d at.state) at.world (named at.world m.who) ask

abbrev pub raises_now : Desk → Moment → Move → Ask → Bool
raises_now d at m ask = raises (paging d at.state) at.world (named at.world m.who) (option_map (named at.world) m.pick) ask

-- no move of a run peeks
unfoldable pub is_dark : {d : Desk} {first : Moment} {moves : List Move} {at : Moment} → IsRun d first moves at → Bool
is_dark Begins = true
is_dark {d = d} (Others past at m ask run move) = is_dark run && not (peeks_now d at m ask)
is_dark (Own past at m run move) = is_dark run

abbrev pub unless_raised : Bool → List Move → Move → List Move
unless_raised true moves m = moves
unless_raised false moves m = moves ++ m ∷ []

-- its moves, without the pager's and without those that raise a fault of its own
unfoldable pub struck : {d : Desk} {first : Moment} {moves : List Move} {at : Moment} → IsRun d first moves at → List Move
struck Begins = []
struck {d = d} (Others past at m ask run move) = unless_raised (raises_now d at m ask) (struck run) m
struck (Own past at m run move) = struck run

-- ---- runs without a pager

-- a world with its native servers
pub record Scene : Type 0 where
  pub world : World
  pub services : Services

-- moves of users and of native servers one after the other, each ready at its place
pub data IsPlainRun (first : Scene) : List Move → Scene → Type 0 where
  Starts : IsPlainRun first [] first
  Goes : (past : List Move) (at : Scene) (m : Move) (ask : Ask) → IsPlainRun first past at → asked at.services at.world m.who ≡ Some ask →
      IsReady at.world (named at.world m.who) (option_map (named at.world) m.pick) ask →
      IsPlainRun first (past ++ m ∷ [])
      (record { world = after at.world (event_of at.world ask m); services = heard_by at.world (event_of at.world ask m) at.services })
