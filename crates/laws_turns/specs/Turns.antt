-- Turns: quiet moves of one thread, one after the other, in a run.
use Rattle.std.specs.Prelude.{◌≡◌, ℕ, zero, suc, ◌+◌, List, replicate, Option}
use Rattle.fk_model.specs.declared.moves.Ask.TheVariants as asks
use Rattle.fk_model.specs.declared.moves.Move.{Move}
use Rattle.fk_model.specs.Runs.{after}
use Rattle.fk_model.specs.Who.{event_of}
use Rattle.fk_model.specs.World.{World}
use Rattle.laws_jobs.specs.Machines.{IsReadyAt}
use Rattle.laws_runs.specs.Cores.{JobEnd, Work, House, Core, IsGone, asker, Settles, IsRun}
use Rattle.laws_runs.specs.Cores.Asker.{Others}

module _ {J S A V : Type 0} (h : House J S A V) (servers : V) (m : Move) where
  -- a core with these servers
  abbrev pub core_in : World → List (JobEnd A) → Option (Work S) → ℕ → Core S A V
  core_in w ends work events = record { world = w; servers = servers; ends = ends; work = work; events = events }

  -- the move leads from one world to another: its mover runs, whatever has become of the jobs, it is ready, no server hears of it, and
  -- no space comes or goes
  pub record IsUnheard (w v : World) : Type 0 where
    pub runs : (ends : List (JobEnd A)) (work : Option (Work S)) (events : ℕ) → asker h (core_in w ends work events) m.who ≡ Others asks.Run
    pub ready : IsReadyAt w (event_of w asks.Run m)
    pub goes : after w (event_of w asks.Run m) ≡ v
    pub unheard : h.servers.hears servers w (event_of w asks.Run m) ≡ servers
    pub gone : (birth : ℕ) → IsGone w birth → IsGone v birth
    pub comes : (birth : ℕ) → IsGone v birth → IsGone w birth

  -- and so many of them do, one after the other
  abbrev pub AreUnheard : ℕ → World → World → Type 0
  AreUnheard zero w v = w ≡ v
  AreUnheard (suc n) w v = (u : World) × AreUnheard n w u × IsUnheard u v

-- so many quiet moves, at least one, and then the ends of jobs that need no move, are so many turns
abbrev pub UnheardMovesAreTurns : Type 0 → Type 0 → Type 0 → Type 0 → Type 0
UnheardMovesAreTurns J S A V = (h : House J S A V) (servers : V) (m : Move) (n : ℕ) (w v : World) (ends : List (JobEnd A)) (work : Option (Work S))
    (events : ℕ) (d : Core S A V) → AreUnheard h servers m (suc n) w v → Settles h (core_in h servers m v ends work (events + suc n)) d →
    IsRun h (core_in h servers m w ends work events) (replicate (suc n) m) d
