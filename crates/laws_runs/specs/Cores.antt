-- Cores: a world with what its native servers and its jobs have come to; turns; and runs, which are turns one after the other.
use Rattle.std.specs.Prelude.{◌≡◌, ℕ, ◌+◌, ◌≤◌, Bool, ◌&&◌, ◌==◌, nat_le, List, [], ◌∷◌, ◌++◌, length, Option, Some, None, ◌⊎◌, if◌then◌else◌}
use Rattle.std.specs.List.{slice_get}
use Rattle.fk_model.specs.declared.limits.TheConstants.{LAST_PORTER_SLOT}
use Rattle.fk_model.specs.declared.moves.Ask.{Ask}
use Rattle.fk_model.specs.declared.moves.Ask.TheVariants as asks
use Rattle.fk_model.specs.declared.moves.Move.{Move}
use Rattle.fk_model.specs.declared.names.Who.{Who}
use Rattle.fk_model.specs.declared.stage.Stage.{Stage}
use Rattle.fk_model.specs.Places.{Path}
use Rattle.fk_model.specs.World.{World}
use Rattle.fk_model.specs.Valid.{birth_at}
use Rattle.fk_model.specs.Runs.{Event, after}
use Rattle.fk_model.specs.Who.{event_of}
use Rattle.laws_moves.specs.Whole.Runnable.{has_all_words}
use Rattle.laws_jobs.specs.Machines.{Head, Machine, heard, said_of, IsReadyAt}
use Rattle.laws_jobs.specs.Machines.Head.{Stops, Asks}

-- ---- what a run is made of

-- why a job ends without a move
pub data Unmoved : Type 0 where
  NoImage : Unmoved
  Dead : Unmoved

-- how a job has ended: by its own moves, the first and the last of which stand at these places of the history; or without any
pub data JobEnd (A : Type 0) : Type 0 where
  Worked : (end : A) (begun last : ℕ) → JobEnd A
  Idle : (why : Unmoved) → JobEnd A

-- the native servers, all together: who is asked in a world gives what it asks for, None where it has nothing to ask; and what becomes of them
pub record Servers (V : Type 0) : Type 0 where
  pub asks : V → World → Who → Option Ask
  pub hears : V → World → Event → V

-- a scenario's jobs, each by its entry: J; and its native servers
pub record House (J S A V : Type 0) : Type 0 where
  pub jobs : List J
  pub machine : Machine S A
  -- the nester's birth number, and from when on it may begin
  pub nester : J → ℕ
  pub at : J → ℕ
  -- its first state, by how the jobs before it have ended; None where it has no image
  pub begins : J → List (JobEnd A) → Option S
  pub servers : Servers V

-- a job that has made a move: the first one's place in the history, and its state
pub record Work (S : Type 0) : Type 0 where
  pub begun : ℕ
  pub state : S

-- jobs end one after the other, so what has ended is a list
pub record Core (S A V : Type 0) : Type 0 where
  pub world : World
  pub servers : V
  pub ends : List (JobEnd A)
  pub work : Option (Work S)
  pub events : ℕ

-- ---- who asks for what

-- the porter of a birth number's space
abbrev pub is_porter_of : ℕ → Who → Bool
is_porter_of nester who = who.space == nester && who.slot == LAST_PORTER_SLOT

pub data Asker (S : Type 0) : Type 0 where
  Nobody : Asker S
  Others : (ask : Ask) → Asker S
  Job : (begun : ℕ) (state : S) (stage : Stage) (words : List ℕ) → Asker S

-- (who asks to give what isn't words asks for nothing)
abbrev pub others_ask : {S : Type 0} → Option Ask → Asker S
others_ask None = Nobody
others_ask (Some ask) = if has_all_words ask then Others ask else Nobody

abbrev pub job_asks : {S A : Type 0} → ℕ → S → Head A → Asker S
job_asks begun s (Stops end) = Nobody
job_asks begun s (Asks stage words) = Job begun s stage words

-- the state of a job that is at work, or its first one
abbrev pub work_of : {S : Type 0} → ℕ → Option (Work S) → Option S → Option (Work S)
work_of events (Some k) first = Some k
work_of events None (Some s) = Some (record { begun = events; state = s })
work_of events None None = None

abbrev pub work_asks : {S A : Type 0} → Machine S A → Option (Work S) → Asker S
work_asks m None = Nobody
work_asks m (Some k) = job_asks k.begun k.state (m.head k.state)

-- no space has this birth number
abbrev pub IsGone : World → ℕ → Type 0
IsGone w birth = (x : Path) → birth_at w x ≡ Some birth → ⊥

abbrev pub with_end : {S A V : Type 0} → Core S A V → Unmoved → Core S A V
with_end c why = record { world = c.world; servers = c.servers; ends = c.ends ++ Idle why ∷ []; work = c.work; events = c.events }

module _ {J S A V : Type 0} where
  abbrev pub current : House J S A V → Core S A V → Option J
  current h c = slice_get h.jobs (length c.ends)

  abbrev pub asks_of_job : House J S A V → Core S A V → Who → Option J → Asker S
  asks_of_job h c who None = others_ask (h.servers.asks c.servers c.world who)
  asks_of_job h c who (Some j) =
      if is_porter_of (h.nester j) who then work_asks h.machine (work_of c.events c.work (h.begins j c.ends))
      else others_ask (h.servers.asks c.servers c.world who)

  abbrev pub asker : House J S A V → Core S A V → Who → Asker S
  asker h c who = asks_of_job h c who (current h c)

  -- ---- a turn

  -- a move of a user or a native server is ready
  abbrev pub IsOtherReady : House J S A V → Core S A V → Type 0
  IsOtherReady h c = (m : Move) × (ask : Ask) × (asker h c m.who ≡ Others ask) × IsReadyAt c.world (event_of c.world ask m)

  -- a job is due that has made a move, or from its time on, or where nobody else can move
  abbrev pub IsDueNow : House J S A V → Core S A V → J → Type 0
  IsDueNow h c j = ((k : Work S) × (c.work ≡ Some k)) ⊎ ((h.at j ≤ c.events) ⊎ (IsOtherReady h c → ⊥))

  abbrev pub IsDueJob : House J S A V → Core S A V → Type 0
  IsDueJob h c = (j : J) × (current h c ≡ Some j) × IsDueNow h c j

  abbrev pub IsReadyBy : House J S A V → Core S A V → Move → Asker S → Type 0
  IsReadyBy h c m Nobody = ⊥
  IsReadyBy h c m (Others ask) = IsReadyAt c.world (event_of c.world ask m)
  IsReadyBy h c m (Job begun s stage words) = IsDueJob h c × IsReadyAt c.world (event_of c.world (asks.Call stage words) m)

  -- a move is ready in a core
  abbrev pub IsReadyIn : House J S A V → Core S A V → Move → Type 0
  IsReadyIn h c m = IsReadyBy h c m (asker h c m.who)

  -- one move more is made, and the jobs have come to this
  abbrev pub one_more : House J S A V → Core S A V → Event → List (JobEnd A) → Option (Work S) → Core S A V
  one_more h c e ends work = record { world = after c.world e; servers = h.servers.hears c.servers c.world e; ends = ends; work = work; events = c.events + 1 }

  abbrev pub others_moved : House J S A V → Core S A V → Event → Core S A V
  others_moved h c e = one_more h c e c.ends c.work

  -- the job goes on, or has ended with this move
  abbrev pub job_moved : House J S A V → Core S A V → Event → ℕ → S → Head A → Core S A V
  job_moved h c e begun s (Asks stage words) = one_more h c e c.ends (Some (record { begun = begun; state = s }))
  job_moved h c e begun s (Stops end) = one_more h c e (c.ends ++ Worked end begun c.events ∷ []) None

  abbrev pub job_hears : House J S A V → Core S A V → Event → ℕ → S → Core S A V
  job_hears h c e begun s = let t = heard h.machine s (said_of c.world e) in job_moved h c e begun t (h.machine.head t)

  abbrev pub moved_by : House J S A V → Core S A V → Move → Asker S → Core S A V
  moved_by h c m Nobody = c
  moved_by h c m (Others ask) = others_moved h c (event_of c.world ask m)
  moved_by h c m (Job begun s stage words) = job_hears h c (event_of c.world (asks.Call stage words) m) begun s

  -- the core after a move, before jobs end that need none
  abbrev pub moved : House J S A V → Core S A V → Move → Core S A V
  moved h c m = moved_by h c m (asker h c m.who)

  -- ---- ends without a move

  -- the current job is due, has made no move, and can't begin
  abbrev pub EndsFor : House J S A V → Core S A V → J → Unmoved → Type 0
  EndsFor h c j NoImage = h.begins j c.ends ≡ None
  EndsFor h c j Dead = (s : S) × (h.begins j c.ends ≡ Some s) × IsGone c.world (h.nester j)

  pub record EndsNow (h : House J S A V) (c : Core S A V) (why : Unmoved) : Type 0 where
    pub job : J
    pub its : current h c ≡ Some job
    pub due : IsDueNow h c job
    pub unmoved : c.work ≡ None
    pub ends : EndsFor h c job why

  -- each due job that can end without a move has ended
  pub data Settles (h : House J S A V) : Core S A V → Core S A V → Type 0 where
    Stays : (c : Core S A V) → ((why : Unmoved) → EndsNow h c why → ⊥) → Settles h c c
    Ends : (c d : Core S A V) (why : Unmoved) → EndsNow h c why → Settles h (with_end c why) d → Settles h c d

-- ---- runs

-- moves one after the other, each ready at its place
pub data IsRun {J S A V : Type 0} (h : House J S A V) (first : Core S A V) : List Move → Core S A V → Type 0 where
  Begins : IsRun h first [] first
  Goes : (past : List Move) (c : Core S A V) (m : Move) (d : Core S A V) → IsRun h first past c → IsReadyIn h c m → Settles h (moved h c m) d →
      IsRun h first (past ++ m ∷ []) d

-- the world after its first k moves
abbrev pub world_at : {J S A V : Type 0} {h : House J S A V} {first c : Core S A V} {past : List Move} → IsRun h first past c → ℕ → World
world_at {first = first} Begins k = first.world
world_at (Goes past c m d run ready settles) k = if nat_le k (length past) then world_at run k else d.world
