-- How many calls a pager makes along one run, whoever else moves.
use Rattle.std.specs.Prelude.{◌≡◌, ℕ, ◌+◌, ◌*◌, ◌≤◌, false, true, nat_le, ◌∷◌, Option, is_some}
use Rattle.fk_model.specs.declared.limits.TheConstants.{LAST_PORTER_SLOT, LAST_USER_SLOT, PAGES}
use Rattle.fk_model.specs.declared.moves.Ask.{Ask}
use Rattle.fk_model.specs.Places.{Path, same_path}
use Rattle.fk_model.specs.World.{World}
use Rattle.fk_model.specs.Outcomes.{listed}
use Rattle.fk_model.specs.Moves.{outcome}
use Rattle.fk_model.specs.Runs.{Event, after}
use Rattle.fk_model.specs.Seen.{changes_of}
use Rattle.laws_filled.specs.Pager.{Desk, State, first, hears, is_opening, call_of, said_of, spent_by, IsOwn, IsFirst, homes}
use Rattle.laws_filled_bounds.specs.Taken.{raised_in, AreSparing}

abbrev pub port_at : Desk → Path
port_at d = d.port ∷ d.nester

abbrev pub porter_at : Desk → Path
porter_at d = LAST_PORTER_SLOT ∷ d.nester

-- moves of a pager, and of anybody else once the opening is done, with how many calls it made that weren't refused HELD, and how many faults were raised at its
-- port. Others may peek. Neither its port nor its porter is destroyed or renamed, and what the porter takes is at the port
pub data IsDriven (d : Desk) : World → State → World → State → ℕ → ℕ → Type 0 where
  Here : (w : World) (s : State) → IsDriven d w s w s 0 0
  Another : (w : World) (s : State) (e : Event) (v : World) (t : State) (calls raised : ℕ) → is_opening s.phase ≡ false →
      same_path (porter_at d) e.mover ≡ false → AreSparing (port_at d) (porter_at d) w (changes_of w e) → IsDriven d (after w e) s v t calls raised →
      IsDriven d w s v t calls (raised_in (port_at d) (changes_of w e) + raised)
  Own : (w : World) (s : State) (pick : Option Path) (v : World) (t : State) (calls raised : ℕ) → IsOwn d w s pick →
      AreSparing (port_at d) (porter_at d) w (changes_of w (call_of d s pick)) →
      IsDriven d (after w (call_of d s pick)) (hears d s (said_of w (call_of d s pick))) v t calls raised →
      IsDriven d w s v t (spent_by (said_of w (call_of d s pick)) + calls) (raised_in (port_at d) (changes_of w (call_of d s pick)) + raised)

-- at most ten for each page that was home, for each fault that was raised, and for the run
abbrev pub CallsAreBounded : Type 0
CallsAreBounded = (d : Desk) (w v : World) (t : State) (calls raised : ℕ) → nat_le d.slot LAST_USER_SLOT ≡ true → 1 ≤ d.room → IsFirst d w →
    is_some (w.body (port_at d)) ≡ true → is_some (w.body (porter_at d)) ≡ true → IsDriven d w first v t calls raised →
    calls ≤ 10 * (homes w (d.slot ∷ d.nester) PAGES + raised + 1)

-- a move raises one fault at most
abbrev pub MovesRaiseOnce : Type 0
MovesRaiseOnce = (port : Path) (w : World) (x : Path) (pick : Option Path) (ask : Ask) → raised_in port (listed (outcome w x pick ask)) ≤ 1
