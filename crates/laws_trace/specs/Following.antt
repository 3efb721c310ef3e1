-- Other servers in the same run: what servers are told of in a run, and what makes its moves a run with other servers.
use Rattle.std.specs.Prelude.{◌≡◌, ℕ, List, [], ◌∷◌, ◌++◌}
use Rattle.fk_model.specs.declared.moves.Ask.TheVariants as asks
use Rattle.fk_model.specs.declared.moves.Move.{Move}
use Rattle.fk_model.specs.declared.names.Who.{Who}
use Rattle.fk_model.specs.World.{World}
use Rattle.fk_model.specs.Runs.{Event}
use Rattle.fk_model.specs.Who.{event_of}
use Rattle.laws_runs.specs.Cores.{Servers, House, Core, Asker, asker, IsReadyIn, IsRun, world_at}
use Rattle.laws_runs.specs.Cores.Asker.{Nobody, Others, Job}
use Rattle.laws_runs.specs.Cores.IsRun.{Begins, Goes}

-- ---- what servers are told

-- a move tells them of its event and of the world before it; a move that nobody makes tells nothing
abbrev pub Told : Type 0
Told = World × Event

abbrev pub told_by : {S : Type 0} → World → Move → Asker S → List Told
told_by w m Nobody = []
told_by w m (Others ask) = (w, event_of w ask m) ∷ []
told_by w m (Job begun s stage words) = (w, event_of w (asks.Call stage words) m) ∷ []

-- what a run tells them, move by move
abbrev pub told_in : {J S A V : Type 0} {h : House J S A V} {first c : Core S A V} {past : List Move} → IsRun h first past c → List Told
told_in Begins = []
told_in {h = h} (Goes past c m d run ready settles) = told_in run ++ told_by c.world m (asker h c m.who)

-- what servers become once they are told all this
unfoldable pub hears_all : {V : Type 0} → Servers V → V → List Told → V
hears_all s v [] = v
hears_all s v (t ∷ ts) = hears_all s (s.hears v t.0 t.1) ts

-- ---- a house and a core with other servers

abbrev pub house_with : {J S A V U : Type 0} → House J S A V → Servers U → House J S A U
house_with h s = record { jobs = h.jobs; machine = h.machine; nester = h.nester; at = h.at; begins = h.begins; servers = s }

abbrev pub core_with : {S A V U : Type 0} → Core S A V → U → Core S A U
core_with c u = record { world = c.world; servers = u; ends = c.ends; work = c.work; events = c.events }

-- the same moves are a run with other servers, by the same worlds, to a core that differs in its servers alone; the same moves are ready in both
pub record IsRunWith {J S A V U : Type 0} {h : House J S A V} {first c : Core S A V} {past : List Move} (run : IsRun h first past c)
    (s : Servers U) (u v : U) : Type 0 where
  pub same : IsRun (house_with h s) (core_with first u) past (core_with c v)
  pub told : told_in same ≡ told_in run
  pub worlds : (k : ℕ) → world_at same k ≡ world_at run k
  pub ready : (m : Move) → IsReadyIn h c m → IsReadyIn (house_with h s) (core_with c v) m
  pub as_ready : (m : Move) → IsReadyIn (house_with h s) (core_with c v) m → IsReadyIn h c m

-- ---- laws

-- the servers of a run are told of each of its moves, and of nothing else
abbrev pub ServersHear : Type 0 → Type 0 → Type 0 → Type 0 → Type 0
ServersHear J S A V = (h : House J S A V) (first c : Core S A V) (past : List Move) (run : IsRun h first past c)
    → c.servers ≡ hears_all h.servers first.servers (told_in run)

-- servers are seen as others: they ask for the same, and what they become is seen as what the others become
pub record AreSeenAs {V U : Type 0} (s : Servers V) (t : Servers U) (seen : V → U) : Type 0 where
  pub asks : (v : V) (w : World) (who : Who) → s.asks v w who ≡ t.asks (seen v) w who
  pub hears : (v : V) (w : World) (e : Event) → seen (s.hears v w e) ≡ t.hears (seen v) w e

-- a run with these servers is one with the servers as which they are seen
abbrev pub SeenServersRun : Type 0 → Type 0 → Type 0 → Type 0 → Type 0 → Type 0
SeenServersRun J S A V U = (h : House J S A V) (t : Servers U) (seen : V → U) → AreSeenAs h.servers t seen →
    (first c : Core S A V) (past : List Move) (run : IsRun h first past c) → IsRunWith run t (seen first.servers) (seen c.servers)

-- and a run with those is one with these
abbrev pub ServersRunSeen : Type 0 → Type 0 → Type 0 → Type 0 → Type 0 → Type 0
ServersRunSeen J S A V U = (h : House J S A U) (s : Servers V) (seen : V → U) → AreSeenAs s h.servers seen →
    (first c : Core S A U) (past : List Move) (run : IsRun h first past c) (v : V) → seen v ≡ first.servers →
    (w : V) × IsRunWith run s v w × (seen w ≡ c.servers)
