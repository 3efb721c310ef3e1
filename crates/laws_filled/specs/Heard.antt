-- What native servers hear along a run: the same with a pager and without.
use Rattle.std.specs.Prelude.{◌≡◌, ◌≤◌, ℕ, Bool, true, false, nat_le, List, [], ◌∷◌}
use Rattle.fk_model.specs.declared.limits.TheConstants.{LAST_USER_SLOT}
use Rattle.fk_model.specs.declared.names.Who.{Who}
use Rattle.fk_model.specs.Endings.{has_ended}
use Rattle.fk_model.specs.Who.{named}
use Rattle.fk_model.specs.Places.{Path}
use Rattle.fk_model.specs.World.{World}
use Rattle.fk_model.specs.Outcomes.{Said}
use Rattle.fk_model.specs.Outcomes.Said.{Nothing, Answered, Taken, Words, Given, Full, Passed, Ended}
use Rattle.fk_model.specs.Runs.{Event, after}
use Rattle.laws_filled.specs.Filled.{filled}
use Rattle.laws_filled.specs.Pager.{Desk, State, paging, said_of, IsPaged, struck, IsGood}

-- all that a move tells native servers: what it says, at which ports a talk has ended, and where the names of ports lead
pub record Heard : Type 0 where
  pub said : Said
  pub ended : Path → Bool
  pub place : Who → Path

abbrev pub heard_of : World → Event → Heard
heard_of w e = record { said = said_of w e; ended = has_ended w (after w e); place = named w }

abbrev pub heard_in : World → List Event → List Heard
heard_in w [] = []
heard_in w (e ∷ es) = heard_of w e ∷ heard_in (after w e) es

-- it says nothing, or answers a porter's call
abbrev pub is_for_nobody : Said → Bool
is_for_nobody Nothing = true
is_for_nobody (Answered status words) = true
is_for_nobody (Taken to client resumed turn moved) = false
is_for_nobody (Words to words) = false
is_for_nobody (Given to count) = false
is_for_nobody (Full to) = false
is_for_nobody (Passed to) = false
is_for_nobody (Ended to) = false

-- no native server hears anything
pub record IsSilent (heard : Heard) : Type 0 where
  pub said : is_for_nobody heard.said ≡ true
  pub ended : (port : Path) → heard.ended port ≡ false

-- of two lists the second is the first without some at which nobody hears anything
pub data HearAlike : List Heard → List Heard → Type 0 where
  Neither : HearAlike [] []
  Both : (heard : Heard) (hs ks : List Heard) → HearAlike hs ks → HearAlike (heard ∷ hs) (heard ∷ ks)
  First_alone : (heard : Heard) (hs ks : List Heard) → IsSilent heard → HearAlike hs ks → HearAlike (heard ∷ hs) ks

-- along a pager's run native servers hear what they hear along the run without it in the filled world; besides, nothing
abbrev pub ServersHearAlike : Type 0
ServersHearAlike = (d : Desk) (w : World) (s : State) (es : List Event) (v : World) (t : State) → nat_le d.slot LAST_USER_SLOT ≡ true → 1 ≤ d.room →
    IsGood d w s → (moves : IsPaged d w s es v t) → HearAlike (heard_in w es) (heard_in (filled (paging d s) w) (struck moves))
