-- Bursting: a burst that is put into the kernel is so many turns.
use Rattle.std.proofs.Common.{◌≡◌, ℕ, zero, suc, ◌+◌, ◌<◌, ◌≤◌, ◌&&◌, ◌==◌, Bool, true, false, cond, List, [], ◌∷◌, length, map, replicate, Option, Some, None}
use Rattle.std.proofs.Common.{refl, ap, subst, ◌∙◌, arith, eqb-true}
use Rattle.fk_model.specs.declared.moves.Ask.TheVariants as asks
use Rattle.fk_model.specs.declared.moves.Move.{Move}
use Rattle.fk_model.specs.declared.names.Who.{Who}
use Rattle.fk_model.specs.Endings.{has_ended}
use Rattle.fk_model.specs.Moves.{step}
use Rattle.fk_model.specs.Objects.{Thread, Body, thread_of, and_then}
use Rattle.fk_model.specs.Objects.Body.{Port, Thread_of}
use Rattle.fk_model.specs.Objects.Mode.{Running}
use Rattle.fk_model.specs.Holds.{is_porter}
use Rattle.fk_model.specs.StateRows.{is_native}
use Rattle.fk_model.specs.Whole.{stands_in}
use Rattle.fk_model.specs.Outcomes.Said.{Nothing}
use Rattle.fk_model.specs.Places.{Path}
use Rattle.fk_model.specs.Runs.{Event, after}
use Rattle.fk_model.specs.Searches.{thread_at}
use Rattle.fk_model.specs.Who.{named}
use Rattle.fk_model.specs.World.{World}
use Rattle.fk_core.specs.Rounds.Kernels.{Kept}
use Rattle.fk_core.specs.Rounds.Kernels.{world_of as world}
use Rattle.laws_house.specs.Houses.{Job}
use Rattle.laws_runs.specs.Cores.{IsRun, Settles, is_porter_of}
use Rattle.laws_runs.specs.Cores.IsRun.{Begins, Goes}
use Rattle.laws_moves.specs.Savable.Savable.{IsSound}
use Rattle.laws_turns.specs.Quiet.{LeadRunning}
use Rattle.laws_turns.proofs.Running.{first-runs, running_moves_are_quiet_lem}
use Rattle.laws_turns.proofs.Settling.{quiet_moves_are_turns_lem}
use Rattle.fk_jobs.specs.Jobs.{Queue}
use Rattle.fk_core.specs.Rounds.Served.{Services, asked, hears_of, news_at, after_news, said_at}
use Rattle.fk_core.specs.Cores.Bursts.{MakesMoves}
use Rattle.fk_core.specs.Cores.Cores.{RunCore, house, core_at}
use Rattle.fk_core.specs.Cores.Goings.{HasCome}
use Rattle.fk_core.proofs.InCores.Starts.{gives}
use Rattle.fk_natives.specs.Natives as natives
use Rattle.fk_core.specs.Rounds.Served.{servers}
use Rattle.fk_core.proofs.InRounds.Acts.{servers_ask_as_users}
use Rattle.laws_house.proofs.House.{jobs_meet_contract}
use Rattle.laws_runs.proofs.Composing.{stands}
use Rattle.fk_core.proofs.InCores.Going.{counted, goes_on}

-- servers hear nothing of what tells nothing and ends no talk
unheard : (w : World) (e : Event) (services : Services) → (step w e.mover e.pick e.ask).said ≡ Nothing →
    ((port : Path) → has_ended w (after w e) port ≡ false) → map (hears_of w e) services ≡ services
unheard w e [] quiet ends = refl
unheard w e (s ∷ ss) quiet ends =
    ap (λ x. x ∷ map (hears_of w e) ss) here ∙ ap (λ xs. s ∷ xs) (unheard w e ss quiet ends)
  where
    none : (port : Path) → news_at w e port ≡ None
    none port = ap (λ t. cond t (Some natives.Ended) (said_at (step w e.mover e.pick e.ask).said port)) (ends port) ∙ ap (λ said. said_at said port) quiet

    here : hears_of w e s ≡ s
    here = ap (λ news. (s.0, after_news news s.1)) (none (named w s.0))

-- a thread asks to run
runs : (w : World) (services : Services) (who : Who) (t : Thread) → thread_at w (named w who) ≡ Some t → asked services w who ≡ Some asks.Run
runs w services who t there = by (w.body (named w who)) refl there
  where
    by : (o : Option Body) → w.body (named w who) ≡ o → and_then thread_of o ≡ Some t → asked services w who ≡ Some asks.Run
    by (Some (Thread_of own)) e h = rw e refl
    by (Some (Port set served)) e h = absurd (cc)
    by (Some b) e h = rw e refl
    by None e h = rw e refl

body-thread : (o : Option Body) (t : Thread) → and_then thread_of o ≡ Some t → o ≡ Some (Thread_of t)
body-thread None t h = cc
body-thread (Some (Thread_of own)) t h = cc
body-thread (Some b) t h = cc

-- who runs in a sound world stands in no porter's slot
no-porter : (w : World) (slot : ℕ) (space : Path) (t : Thread) (g : List ℕ) → IsSound w → thread_at w (slot ∷ space) ≡ Some t → t.mode ≡ Running g →
    slot == 255 ≡ false
no-porter w slot space t g sound there runs = by (slot == 255) refl
  where
    kept : stands_in slot (Thread_of t) ≡ true
    kept = sound.savable.slots_kept slot space (Thread_of t) (body-thread (w.body (slot ∷ space)) t there)

    by : (same : Bool) → slot == 255 ≡ same → same ≡ false
    by false e = refl
    by true e =
        let last : stands_in 255 (Thread_of t) ≡ true = subst (λ (k : ℕ). stands_in k (Thread_of t) ≡ true) (eqb-true slot 255 e) kept in
        let native : is_native (Thread_of t) ≡ false = ap is_porter runs in
        absurd (cc)

-- the world to which a run has come is sound
pub come_sound : (jobs : List Job) (budget : ℕ) (c : RunCore) → HasCome jobs budget c → c.events ≤ budget → IsSound c.world
come_sound jobs budget c come below =
    let its = gives jobs budget come.first come.begins in
    let long : c.events ≡ length come.past = counted jobs come.first c come.past come.run its.start.events in
    let few = its.few in
    let stand = stands (house jobs) come.first servers_ask_as_users (jobs_meet_contract jobs servers its.slots) its.start come.run
    (omega (arith, few, long, below)) in
    subst IsSound stand.last (stand.sound (length come.past) (omega arith))

-- a run of turns keeps what a run has come to
pub comes_along : (jobs : List Job) (budget : ℕ) (c d : RunCore) (past : List Move) → HasCome jobs budget c → IsRun (house jobs) c past d →
    HasCome jobs budget d
comes_along jobs budget c _ _ come Begins = come
comes_along jobs budget c _ _ come (Goes past e m d run ready turned) = goes_on jobs budget e d m (comes_along jobs budget c e past come run) ready turned

-- so many moves, at least one, and what settles behind them are so many turns
pub moves_turn : (m n : Kept) (services : Services) (q : Queue) (events count : ℕ) (who : Who) (d : RunCore) → IsSound (world m) →
    LeadRunning (record { who = who; pick = None }) (suc count) (world m) (world n) →
    Settles (house q.jobs) (core_at n services q (events + suc count)) d →
    IsRun (house q.jobs) (core_at m services q events) (replicate (suc count) (record { who = who; pick = None })) d
moves_turn m n services q events count who d sound led settles =
    quiet_moves_are_turns_lem (house q.jobs) services move count (world m) (world n) q.ends q.work events d
    (running_moves_are_quiet_lem (house q.jobs) services move (suc count) (world m) (world n)
    (λ w e. unheard w e services) (λ w mv t. runs w services mv.who t) free refl led) settles
  where
    move : Move
    move = record { who = who; pick = None }

    first : (t : Thread) × (g : List ℕ) × (thread_at (world m) (named (world m) who) ≡ Some t) × (t.mode ≡ Running g)
    first = first-runs move count (world m) (world n) led

    free : (j : Job) → is_porter_of j.nester who ≡ false
    free j = by (who.space == j.nester) (no-porter (world m) who.slot _ first.0 first.1 sound first.2 first.3)
      where
        by : (same : Bool) → who.slot == 255 ≡ false → (same && who.slot == 255) ≡ false
        by true other = other
        by false other = refl

-- the same where at least one is made
pub burst_made : (m n : Kept) (services : Services) (q : Queue) (budget events count : ℕ) (who : Who) (d : RunCore) →
    HasCome q.jobs budget (core_at m services q events) → events + count ≤ budget → MakesMoves who count m true n → 0 < count →
    Settles (house q.jobs) (core_at n services q (events + count)) d →
    IsRun (house q.jobs) (core_at m services q events) (replicate count (record { who = who; pick = None })) d
burst_made m n services q budget events zero who d come few led some settles = absurd (omega (arith, some))
burst_made m n services q budget events (suc count) who d come few led some settles =
    moves_turn m n services q events count who d (come_sound q.jobs budget (core_at m services q events) come (omega (arith, few))) led settles

-- and where none is made the world is as it was
pub burst_none : (m n : Kept) (services : Services) (q : Queue) (events count : ℕ) (who : Who) → MakesMoves who count m true n → count ≡ 0 →
    IsRun (house q.jobs) (core_at m services q events) (replicate count (record { who = who; pick = None })) (core_at n services q events)
burst_none m n services q events zero who led none =
    subst (λ (w : World). IsRun (house q.jobs) (core_at m services q events) [] (record (core_at m services q events) { world = w })) led Begins
burst_none m n services q events (suc count) who led none = absurd (cc)
