-- Bursts: what a function that makes moves of a thread at once does to a kernel, and what comes of several moves of one mover.
use Rattle.std.specs.Prelude.{◌≡◌, ℕ, ◌+◌, ◌%◌, ◌<◌, ◌≤◌, Bool, true, false, List, replicate, Option, Some, None, option_map}
use Rattle.fk_model.specs.declared.moves.Move.{Move}
use Rattle.fk_model.specs.declared.names.Who.{Who}
use Rattle.fk_core.specs.Rounds.Kernels.{Kept}
use Rattle.fk_core.specs.Rounds.Kernels.{world_of as world}
use Rattle.fk_core.specs.Rounds.Moments.{RunCore, house}
use Rattle.laws_house.specs.Houses.{Job}
use Rattle.laws_runs.specs.Cores.{IsRun}
use Rattle.laws_turns.specs.Quiet.{LeadRunning}

-- it makes so many ready moves of a thread in running mode, or leaves the kernel as it is
abbrev pub MakesMoves : Who → ℕ → Kept → Bool → Kept → Type 0
MakesMoves thread count k true n = LeadRunning (record { who = thread; pick = None }) count (world k) (world n)
MakesMoves thread count k false n = n ≡ k

-- so many moves of one mover are made, at least one, at most so many and none past the end of the round of 64, within the budget
pub record AreMade (jobs : List Job) (budget most : ℕ) (c : RunCore) (m : Move) (times : ℕ) (d : RunCore) : Type 0 where
  pub some : 0 < times
  pub few : times ≤ most
  pub round : c.events % 64 + times ≤ 64
  pub within : c.events + times ≤ budget
  pub events : d.events ≡ c.events + times
  pub run : IsRun (house jobs) c (replicate times m) d

-- what comes of moves that are made, or of none
abbrev pub IsAdvancedSo : List Job → ℕ → ℕ → RunCore → Option (Move × ℕ) → RunCore → Type 0
IsAdvancedSo jobs budget most c None d = d ≡ c
IsAdvancedSo jobs budget most c (Some made) d = AreMade jobs budget most c made.0 made.1 d

-- whose they are
abbrev pub mover_of : Option (Move × ℕ) → Option Move
mover_of made = option_map (λ r. r.0) made
