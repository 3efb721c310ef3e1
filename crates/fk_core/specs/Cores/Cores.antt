-- Cores: the run's core that a core in code has come to, and what its moves come to.
use Rattle.std.specs.Prelude.{◌≡◌, ℕ, ◌+◌, ◌<◌, Bool, true, false, List, [], take, Option, Some, None, Result, Ok, Err}
use Rattle.fk_model.specs.declared.moves.Move.{Move}
use Rattle.fk_model.specs.declared.moves.Said as says_of
use Rattle.fk_model.specs.declared.moves.Said.TheVariants as says
use Rattle.fk_jobs.specs.Jobs.{Queue}
use Rattle.laws_house.specs.Houses.{Job}
use Rattle.laws_jobs.specs.Machines.{Reply}
use Rattle.laws_runs.specs.Cores.{moved, Settles}
use Rattle.fk_core.specs.declared.cores.turns.Core as cores
pub use Rattle.fk_core.specs.Rounds.Moments.{house, RunCore, core_at, porter_of, is_porter, is_timely, has_come}
pub use Rattle.fk_core.specs.Cores.Memory.{may_lack, may_lack_asked, may_lack_called, IsLacking}
pub use Rattle.fk_core.specs.Rounds.Moments.{IsReadyMove, IsAnyMove, IsAskedMove, IsCalledMove, IsOthersMove, IsDue, IsFirstDue, IsOver}

-- what a core in code has come to
abbrev pub run_core : {S W : Type 0} → cores.Core S W → RunCore
run_core c = core_at c.kernel c.services.list c.jobs c.events

-- what a turn comes to: the step, what its servers or its jobs hear, and then the jobs that end without a move
abbrev pub IsTurned : List Job → RunCore → Move → RunCore → Type 0
IsTurned jobs c m d = Settles (house jobs) (moved (house jobs) c m) d

-- what a job is told by a move of its own
abbrev pub reply_to : says_of.Said → Reply
reply_to (says.Answer answer) = record { status = answer.status; words = take answer.len answer.words }
reply_to says.Nothing = record { status = 0; words = [] }
reply_to (says.Taken port client resumed turn count) = record { status = 0; words = [] }
reply_to (says.Words port words len) = record { status = 0; words = [] }
reply_to (says.Given port len) = record { status = 0; words = [] }
reply_to (says.Full port) = record { status = 0; words = [] }
reply_to (says.Over port) = record { status = 0; words = [] }
reply_to (says.Ended port) = record { status = 0; words = [] }

-- what comes of an advance: a move that was ready and is made, while the budget had one more; or nothing
abbrev pub IsAdvanced : List Job → ℕ → RunCore → Option Move → RunCore → Type 0
IsAdvanced jobs budget c None d = d ≡ c
IsAdvanced jobs budget c (Some m) d = (c.events < budget) × IsReadyMove jobs c m × IsTurned jobs c m d × (d.events ≡ c.events + 1)

-- a legal choice of the move that is made next: one that is ready, while the budget has one more, and at an even number of moves a due job's where one is
-- ready; none only where no move is left
abbrev pub IsChoice : Queue → ℕ → RunCore → Option Move → Type 0
IsChoice q budget c None = IsOver q.jobs budget c
IsChoice q budget c (Some m) = (c.events < budget) × IsReadyMove q.jobs c m × IsFirstDue q budget c (Some m)

-- what comes of a move that is tried, which is ready in this sense, and may lack memory in that: it is made where it is ready, or lacks memory; and
-- where it isn't made all is as before
abbrev pub IsTried : {E : Type 0} → Type 0 → Type 0 → List Job → RunCore → Move → RunCore → Result Bool E → Type 0
IsTried ready lacks jobs c m d (Ok true) = ready × IsTurned jobs c m d × (d.events ≡ c.events + 1)
IsTried ready lacks jobs c m d (Ok false) = (ready → ⊥) × (d ≡ c)
IsTried ready lacks jobs c m d (Err lacking) = ready × lacks × (d ≡ c)

-- the same of one that may lack memory: only where a ready move may, and then all is as before
abbrev pub IsAdvancedBy : {E : Type 0} → List Job → ℕ → RunCore → RunCore → Result (Option Move) E → Type 0
IsAdvancedBy jobs budget c d (Ok made) = IsAdvanced jobs budget c made d
IsAdvancedBy jobs budget c d (Err lacking) = IsLacking jobs budget c × (d ≡ c)

-- the same of one that makes nothing only where no move is left
abbrev pub IsAdvancedOrOver : {E : Type 0} → List Job → ℕ → RunCore → RunCore → Result (Option Move) E → Type 0
IsAdvancedOrOver jobs budget c d (Ok (Some m)) = IsAdvanced jobs budget c (Some m) d
IsAdvancedOrOver jobs budget c d (Ok None) = IsOver jobs budget c × (d ≡ c)
IsAdvancedOrOver jobs budget c d (Err lacking) = IsLacking jobs budget c × (d ≡ c)
