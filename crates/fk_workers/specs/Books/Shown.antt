-- What contracts see of a core in which moves are made, and of a run from one such core to another.
use Rattle.std.specs.Prelude.{◌≡◌, ℕ, ◌+◌, ◌-◌, ◌<◌, ◌≤◌, ◌%◌, Bool, true, List, Option, Some, None, IfSome, length, replicate}
use Rattle.std.specs.List.{slice_get}
use Rattle.fk_model.specs.declared.moves.Move.{Move}
use Rattle.fk_model.specs.declared.names.Who.{Who}
use Rattle.fk_burst.specs.Burst.Commits.{MayCommit}
use Rattle.fk_burst.specs.Burst.Lease.{Lease}
use Rattle.laws_house.specs.Houses.{Job}
use Rattle.laws_runs.specs.Cores.{IsRun}
use Rattle.fk_core.specs.Cores.Events.{is_who}
pub use Rattle.fk_core.specs.Cores.Bursts.{mover_of}
use Rattle.fk_core.specs.Cores.Cores.{RunCore, house, may_lack, porter_of, IsReadyMove, IsTurned, IsOver}
use Rattle.fk_core.specs.Cores.Goings.{IsFirstCore, HasCome}

-- the scenario's jobs, the most moves of a run, and what they have come to
pub record Shown : Type 0 where
  pub jobs : List Job
  pub budget : ℕ
  pub core : RunCore

-- ---- moves

-- a move is ready, and the budget has one more
abbrev pub MayMove : Shown → Move → Type 0
MayMove s m = (s.core.events < s.budget) × IsReadyMove s.jobs s.core m

-- it may be made, and may lack memory: it makes an object or a page, or a server grows by what it tells, or a job by the answer
abbrev pub MayLack : Shown → Move → Type 0
MayLack s m = MayMove s m × (may_lack s.jobs s.core m ≡ true)

-- some move may
abbrev pub SomeMayLack : Shown → Type 0
SomeMayLack s = (m : Move) × MayLack s m

-- no move is left: none is ready, or the budget is used
abbrev pub HasEnded : Shown → Type 0
HasEnded s = IsOver s.jobs s.budget s.core

-- a move that may be made leads from one to the other
pub record Moves (s : Shown) (m : Move) (t : Shown) : Type 0 where
  pub may : MayMove s m
  pub turned : IsTurned s.jobs s.core m t.core
  pub events : t.core.events ≡ s.core.events + 1
  pub jobs : t.jobs ≡ s.jobs
  pub budget : t.budget ≡ s.budget

-- what comes of a move that is made, or of none
abbrev pub Comes : Shown → Option Move → Shown → Type 0
Comes s None t = t ≡ s
Comes s (Some m) t = Moves s m t

-- ---- several moves at once

-- so many moves of a run lead from one to the other, within the budget
pub record MovesSo (s : Shown) (ms : List Move) (t : Shown) : Type 0 where
  pub run : IsRun (house s.jobs) s.core ms t.core
  pub events : t.core.events ≡ s.core.events + length ms
  pub within : t.core.events ≤ s.budget
  pub jobs : t.jobs ≡ s.jobs
  pub budget : t.budget ≡ s.budget

-- what comes of so many moves of one mover, at least one and at most so many, or of none
abbrev pub ComesBy : Shown → ℕ → Option (Move × ℕ) → Shown → Type 0
ComesBy s most None t = t ≡ s
ComesBy s most (Some made) t = (0 < made.1) × (made.1 ≤ most) × MovesSo s (replicate made.1 made.0) t

-- the moves of a lease
abbrev pub moves_of : Lease → List Move
moves_of l = replicate l.count (record { who = l.thread; pick = None })

-- it may be committed here
abbrev pub MayBurst : Shown → Lease → Type 0
MayBurst s l = MayCommit s.core.world l (s.budget - s.core.events)

-- ---- runs

-- a run may begin so
abbrev pub IsSound : Shown → Type 0
IsSound s = IsFirstCore s.jobs s.budget s.core

-- these moves are a legal history from the first to the last one, within the budget
pub record HasRun (first : Shown) (history : List Move) (last : Shown) : Type 0 where
  pub sound : IsSound first
  pub jobs : last.jobs ≡ first.jobs
  pub budget : last.budget ≡ first.budget
  pub run : IsRun (house first.jobs) first.core history last.core
  pub events : last.core.events ≡ length history
  pub within : length history ≤ first.budget

-- ---- whose move is made

-- the porter of the job whose turn it is
abbrev pub is_porter : Shown → Who → Bool
is_porter s who = is_who (porter_of (slice_get s.jobs (length s.core.ends))) who

-- at an even number of moves the move that is made is a job's, where one is due and ready
abbrev pub IsFirstDue : Shown → Option Move → Type 0
IsFirstDue s made = s.core.events % 2 ≡ 0 → (m : Move) → is_porter s m.who ≡ true → MayMove s m → IfSome made (λ m. is_porter s m.who ≡ true)

-- some run has come to it
abbrev pub HasComeTo : Shown → Type 0
HasComeTo s = HasCome s.jobs s.budget s.core
