-- Turns and places of a history: a job that ends before it is due, or doesn't once it is, and a history whose worlds are shifted.
use Rattle.std.specs.Prelude.{◌≡◌, ℕ, Bool, false, List, [], ◌∷◌, Some, None}
use Rattle.fk_model.specs.declared.moves.Ask.{Ask}
use Rattle.fk_model.specs.declared.moves.Ask.TheVariants as asks
use Rattle.fk_model.specs.declared.moves.Move.{Move}
use Rattle.fk_model.specs.World.{World}
use Rattle.fk_model.specs.Who.{event_of}
use Rattle.laws_jobs.specs.Machines.{Machine, IsReadyAt}
use Rattle.laws_jobs.specs.Machines.Head.{Stops}
use Rattle.laws_runs.specs.Cores.{House, Servers, Core, Unmoved, is_porter_of, IsReadyIn, moved, with_end, Settles, IsRun, world_at}
use Rattle.laws_runs.specs.Cores.Unmoved.{NoImage}
use Rattle.laws_runs.specs.Cores.IsRun.{Begins, Goes}

-- who is asked runs, and nobody hears
abbrev pub nobody_serves : Servers ℕ
nobody_serves = record { asks = λ v w who. Some asks.Run; hears = λ v w e. v }

abbrev pub at_end : Machine ℕ ℕ
at_end = record { head = λ s. Stops s; next = λ s status words. s }

-- one job, from event 5 on, that has no image
abbrev pub late : House ℕ ℕ ℕ ℕ
late = record { jobs = 5 ∷ []; machine = at_end; nester = λ j. 0; at = λ (j : ℕ). j; begins = λ j ends. None; servers = nobody_serves }

abbrev pub after_events : World → ℕ → Core ℕ ℕ ℕ
after_events w events = record { world = w; servers = 0; ends = []; work = None; events = events }

-- while a move of another is ready it doesn't end before its time
abbrev pub NotYetEnded : Type 0
NotYetEnded = (w : World) (m : Move) (d : Core ℕ ℕ ℕ) → is_porter_of 0 m.who ≡ false → IsReadyAt w (event_of w asks.Run m) → Settles late (after_events w 4) d
    → d ≡ after_events w 4

-- from its time on it ends, for want of an image, and nothing else ends
abbrev pub EndedInTime : Type 0
EndedInTime = (w : World) (d : Core ℕ ℕ ℕ) → Settles late (after_events w 5) d → d ≡ with_end (after_events w 5) NoImage

-- the move with index 0 is taken from the first world, and what comes of it is the world after one move
abbrev pub OneMove : Type 0
OneMove = (h : House ℕ ℕ ℕ ℕ) (first d : Core ℕ ℕ ℕ) (m : Move) (ready : IsReadyIn h first m) (settles : Settles h (moved h first m) d) →
    (world_at (Goes [] first m d Begins ready settles) 0 ≡ first.world) × (world_at (Goes [] first m d Begins ready settles) 1 ≡ d.world)
