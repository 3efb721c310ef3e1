-- Memory: which moves may lack it.
use Rattle.std.specs.Prelude.{◌≡◌, ◌<◌, ◌≤◌, ◌||◌, ℕ, Bool, true, false, List, Option, Some, None}
use Rattle.fk_model.specs.declared.moves.Ask.{Ask}
use Rattle.fk_model.specs.declared.moves.Ask.TheVariants as asks
use Rattle.fk_model.specs.declared.moves.Move.{Move}
use Rattle.fk_model.specs.Runs.{Event, after}
use Rattle.fk_model.specs.Searches.{depth}
use Rattle.fk_model.specs.Valid.{IsValid}
use Rattle.fk_model.specs.World.{World}
use Rattle.fk_model.specs.Who.{event_of}
use Rattle.fk_jobs.specs.Jobs.{Queue, asked_by, grows, grows_by, state_of}
use Rattle.laws_house.specs.Houses as houses
use Rattle.laws_house.specs.Houses.{Job}
use Rattle.laws_runs.specs.Cores.{Asker, asker, others_ask}
use Rattle.laws_runs.specs.Cores.Asker.{Nobody, Others, Job as OfJob}
use Rattle.fk_core.specs.Rounds.Events as events
use Rattle.fk_core.specs.Rounds.Moments.{RunCore, house, IsReadyMove}
use Rattle.fk_core.specs.Rounds.Served.{Services, asked, some_grow}

-- what a move does may lack memory: it makes an object or a page, or some server grows by what it tells
abbrev pub does_lack : RunCore → Event → Bool
does_lack c e = events.may_lack c.world e || some_grow c.world e c.servers

-- so may a move, by who asks for it; a job's also where its memory grows by the answer
abbrev pub may_lack_by : RunCore → Move → Asker houses.State → Bool
may_lack_by c m Nobody = false
may_lack_by c m (Others ask) = does_lack c (event_of c.world ask m)
may_lack_by c m (OfJob begun s stage words) = grows s || does_lack c (event_of c.world (asks.Call stage words) m)

-- a move may lack memory
abbrev pub may_lack : List Job → RunCore → Move → Bool
may_lack jobs c m = may_lack_by c m (asker (house jobs) c m.who)

-- a ready move may, and the budget has one more
abbrev pub IsLacking : List Job → ℕ → RunCore → Type 0
IsLacking jobs budget c = (m : Move) × (c.events < budget) × IsReadyMove jobs c m × (may_lack jobs c m ≡ true)

-- ---- the same as the code has it

-- no server grows by a move, where it is ready and leaves a valid world
abbrev pub IsStill : World → Event → Services → Type 0
IsStill w e services = events.IsReadyEvent w e → IsValid (after w e) → (after w e).next ≤ depth → some_grow w e services ≡ false

-- a move of a user or a server, were its name no porter's
abbrev pub may_lack_asked : RunCore → Move → Bool
may_lack_asked c m = may_lack_by c m (others_ask (asked c.servers c.world m.who))

-- the call that the job asks for whose turn it is, were it due
abbrev pub may_lack_call : Queue → RunCore → Move → Option Ask → Bool
may_lack_call q c m None = false
may_lack_call q c m (Some ask) = grows_by (state_of q) || does_lack c (event_of c.world ask m)

abbrev pub may_lack_called : Queue → RunCore → Move → Bool
may_lack_called q c m = may_lack_call q c m (asked_by (state_of q))
