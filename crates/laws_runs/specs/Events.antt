-- A history as its events: each ready at its place, and the worlds and cores between them.
use Rattle.std.specs.Prelude.{◌≡◌, ℕ, ◌≤◌, nat_le, List, length, take, Some, if◌then◌else◌}
use Rattle.std.specs.List.{slice_get}
use Rattle.fk_model.specs.declared.moves.Move.{Move}
use Rattle.fk_model.specs.Runs.{IsLegal, run as world_after}
use Rattle.laws_runs.specs.Cores.{House, Core, IsRun, Asker, asker, IsReadyIn, moved, Settles, world_at}
use Rattle.laws_runs.specs.Cores.IsRun.{Begins, Goes}
use Rattle.laws_runs.specs.Onwards.{events_of}

-- the core after its first k moves
abbrev pub core_at : {J S A V : Type 0} {h : House J S A V} {first c : Core S A V} {past : List Move} → IsRun h first past c → ℕ → Core S A V
core_at {first = first} Begins k = first
core_at (Goes past c m d run ready settles) k = if nat_le k (length past) then core_at run k else d

-- one event a move, each ready in the world that those before it leave
pub record IsItsEvents {J S A V : Type 0} {h : House J S A V} {first c : Core S A V} {past : List Move} (run : IsRun h first past c) : Type 0 where
  pub legal : IsLegal first.world (events_of run)
  pub long : length (events_of run) ≡ length past
  pub worlds : (k : ℕ) → k ≤ length past → world_after first.world (take k (events_of run)) ≡ world_at run k
  pub last : world_at run (length past) ≡ c.world

-- a history is one event a move, each ready in the world that those before it leave, and these worlds are the run's
abbrev pub HistoryIsEvents : Type 0 → Type 0 → Type 0 → Type 0 → Type 0
HistoryIsEvents J S A V = (h : House J S A V) (first c : Core S A V) (past : List Move) (run : IsRun h first past c) → IsItsEvents run

-- a turn from one core to the next, by the move of a list with an index, for whom it was made
pub record IsTurn {J S A V : Type 0} (h : House J S A V) (past : List Move) (k : ℕ) (c d : Core S A V) (a : Asker S) : Type 0 where
  pub move : Move
  pub its : slice_get past k ≡ Some move
  pub asks : a ≡ asker h c move.who
  pub ready : IsReadyIn h c move
  pub settles : Settles h (moved h c move) d
