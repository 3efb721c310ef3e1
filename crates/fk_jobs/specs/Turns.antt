-- What jobs in code are in a run's core.
use Rattle.std.specs.Prelude.{◌≡◌, ℕ, ◌+◌, List}
use Rattle.fk_model.specs.declared.moves.Ask.TheVariants as asks
use Rattle.fk_model.specs.declared.moves.Move.{Move}
use Rattle.fk_model.specs.declared.stage.Stage.{Stage}
use Rattle.fk_model.specs.Runs.{after}
use Rattle.fk_model.specs.Who.{event_of}
use Rattle.fk_model.specs.World.{World}
use Rattle.laws_jobs.specs.Machines.{reply_of, said_of}
use Rattle.laws_house.specs.Houses.{State, End, house}
use Rattle.laws_runs.specs.Cores.{Core, Servers, Unmoved, asker, moved, with_end}
use Rattle.laws_runs.specs.Cores.Asker.{Job as OfJob}
use Rattle.fk_jobs.specs.Jobs.{Queue, hears, with_idle}

-- a world with its native servers and its jobs after so many moves
abbrev pub core_of : {V : Type 0} → World → V → Queue → ℕ → Core State End V
core_of w v q events = record { world = w; servers = v; ends = q.ends; work = q.work; events = events }

-- a job's move in a run is what its jobs hear of it
abbrev pub JobMovesSo : Type 0 → Type 0
JobMovesSo V = (servers : Servers V) (w : World) (v : V) (q : Queue) (events : ℕ) (m : Move)
    (begun : ℕ) (s : State) (stage : Stage) (words : List ℕ) →
    asker (house q.jobs servers) (core_of w v q events) m.who ≡ OfJob begun s stage words →
    let e = event_of w (asks.Call stage words) m in
    let reply = reply_of (said_of w e) in
    moved (house q.jobs servers) (core_of w v q events) m
    ≡ core_of (after w e) (servers.hears v w e) (hears q events reply.status reply.words) (events + 1)

-- and so is an end without a move
abbrev pub JobEndsSo : Type 0 → Type 0
JobEndsSo V = (w : World) (v : V) (q : Queue) (events : ℕ) (why : Unmoved) → with_end (core_of w v q events) why ≡ core_of w v (with_idle q why) events
