-- A turn: what a move tells by names is what the machine tells by paths.
use Rattle.std.proofs.Common.{◌≡◌, ℕ, ◌+◌, true, List, length, map, Option, Some, None, refl, sym, ap, subst, ◌∙◌}
use Rattle.fk_model.specs.declared.moves.Ask.{Ask}
use Rattle.fk_model.specs.declared.moves.Ask.TheVariants as asks
use Rattle.fk_model.specs.declared.moves.Move.{Move}
use Rattle.fk_model.specs.declared.moves.Said as says_of
use Rattle.fk_model.specs.declared.moves.Said.TheVariants as says
use Rattle.fk_model.specs.declared.names.Who.{Who}
use Rattle.fk_model.specs.Endings.{has_ended}
use Rattle.fk_model.specs.Moves.{Step}
use Rattle.fk_model.specs.Places.{Path}
use Rattle.fk_model.specs.Runs.{after}
use Rattle.fk_model.specs.Who.{named, event_of}
use Rattle.fk_core.specs.Rounds.Kernels.{Kept}
use Rattle.fk_store.specs.Store.Moves.{said_by}
use Rattle.fk_core.specs.Rounds.Kernels.{path_of as path}
use Rattle.fk_core.specs.Rounds.Kernels.{world_of as world}
use Rattle.laws_house.specs.Houses.{End, machine}
use Rattle.laws_house.specs.Houses.{State as State_of}
use Rattle.laws_jobs.specs.Machines.{Head, Reply, reply_of, said_of}
use Rattle.laws_jobs.specs.Machines.Head.{Stops, Asks}
use Rattle.laws_runs.specs.Cores.{Settles, Work, asker, moved, moved_by, others_moved, work_of}
use Rattle.laws_runs.specs.Cores.Asker.{Others}
use Rattle.std.specs.List.{slice_get}
use Rattle.laws_jobs.specs.Machines.{IsReadyAt}
use Rattle.fk_jobs.specs.Jobs.{Queue, current, first_of, state_from, state_of, asked_by, goes_on, hears_by}
use Rattle.fk_jobs.specs.Jobs.{hears as jobs_hear}
use Rattle.fk_jobs.specs.Turns.{core_of}
use Rattle.fk_jobs.proofs.Turns.{job_moves}
use Rattle.fk_core.specs.Rounds.Events.{step_of, is_who}
use Rattle.fk_plans.specs.Plans.Hearers.{says_to, says_to_who}
use Rattle.fk_core.specs.Rounds.Served.{Services, servers, hears_of, told}
use Rattle.fk_core.specs.Cores.Cores.{RunCore, house, core_at, reply_to, porter_of, is_porter, IsTurned, IsCalledMove}
use Rattle.fk_served.specs.Acts.{IsReadyFor}
use Rattle.fk_core.proofs.InRounds.Hearing.{goes, hears-alike}
use Rattle.fk_core.proofs.InRounds.Asking.{AsksFor}
use Rattle.fk_core.proofs.InRounds.Asking.{asks_for as job_asks_for}

-- a move of a user or a server, and then jobs that end without one
pub turned : (m n : Kept) (services new : Services) (q : Queue) (events : ℕ) (mv : Move) (ask : Ask) (said : says_of.Said) (ended : Option Who)
    (d : RunCore) →
    asker (house q.jobs) (core_at m services q events) mv.who ≡ Others ask
    → step_of (world m) (event_of (world m) ask mv) ≡ record { world = world n; said = said_by (path n) said }
    → ((port : Who) → has_ended (world m) (world n) (named (world m) port) ≡ is_who ended port)
    → ((port : Who) → says_to (step_of (world m) (event_of (world m) ask mv)).said (named (world m) port) ≡ says_to_who said port)
    → new ≡ map (told said ended) services
    → Settles (house q.jobs) (core_at n new q (events + 1)) d
    → IsTurned q.jobs (core_at m services q events) mv d
turned m n services new q events mv ask said ended d asks made ends tells heard settles =
    let e = event_of (world m) ask mv in
    let worlds = goes m n e said ended made ends tells in
    let servers = hears-alike m n e said ended made ends tells services ∙ sym heard in
    let at_world : others_moved (house q.jobs) (core_at m services q events) e ≡ core_of (world n) (map (hears_of (world m) e) services) q (events + 1) =
    ap (λ w. core_of w (map (hears_of (world m) e) services) q (events + 1)) worlds in
    let comes : moved (house q.jobs) (core_at m services q events) mv ≡ core_at n new q (events + 1) =
    ap (moved_by (house q.jobs) (core_at m services q events) mv) asks ∙ at_world ∙ ap (λ v. core_of (world n) v q (events + 1)) servers in
    subst (λ c. Settles (house q.jobs) c d) (sym comes) settles

-- what a job hears of its move is what the machine tells
replied : (p : ℕ → Path) (said : says_of.Said) → reply_of (said_by p said) ≡ reply_to said
replied p says.Nothing = refl
replied p (says.Answer answer) = refl
replied p (says.Taken port client resumed turn count) = refl
replied p (says.Words port words len) = refl
replied p (says.Given port len) = refl
replied p (says.Full port) = refl
replied p (says.Over port) = refl
replied p (says.Ended port) = refl

hears-jobs-at : (q : Queue) (begun events : ℕ) (s : State_of) (h : Head End) → (goes_on q begun events s h).jobs ≡ q.jobs
hears-jobs-at q begun events s (Asks stage words) = refl
hears-jobs-at q begun events s (Stops end) = refl

hears-jobs-by : (q : Queue) (events status : ℕ) (words : List ℕ) (work : Option (Work State_of)) → (hears_by q events status words work).jobs ≡ q.jobs
hears-jobs-by q events status words None = refl
hears-jobs-by q events status words (Some k) = hears-jobs-at q k.begun events (machine.next k.state status words) _

pub hears-jobs : (q : Queue) (events status : ℕ) (words : List ℕ) → (jobs_hear q events status words).jobs ≡ q.jobs
hears-jobs q events status words = hears-jobs-by q events status words (work_of events q.work (first_of q.ends (current q)))

-- a job's move
pub job-turned : (m n : Kept) (services new : Services) (q r : Queue) (events : ℕ) (mv : Move) (ask : Ask) (said : says_of.Said) (ended : Option Who)
    (d : RunCore) →
    AsksFor ask (asker (house q.jobs) (core_at m services q events) mv.who)
    → step_of (world m) (event_of (world m) ask mv) ≡ record { world = world n; said = said_by (path n) said }
    → ((port : Who) → has_ended (world m) (world n) (named (world m) port) ≡ is_who ended port)
    → ((port : Who) → says_to (step_of (world m) (event_of (world m) ask mv)).said (named (world m) port) ≡ says_to_who said port)
    → new ≡ map (told said ended) services
    → r ≡ jobs_hear q events (reply_to said).status (reply_to said).words
    → Settles (house r.jobs) (core_at n new r (events + 1)) d
    → IsTurned q.jobs (core_at m services q events) mv d
job-turned m n services new q r events mv ask said ended d found made ends tells heard hears_it settles =
    let e = event_of (world m) ask mv in
    let call = event_of (world m) (asks.Call found.stage found.words) mv in
    let same : call ≡ e = ap (λ a. event_of (world m) a mv) (sym found.is) in
    let worlds = goes m n e said ended made ends tells in
    let its_servers = hears-alike m n e said ended made ends tells services ∙ sym heard in
    let reply : reply_of (said_of (world m) e) ≡ reply_to said = ap (λ (s : Step). reply_of s.said) made ∙ replied (path n) said in
    let moves : moved (house q.jobs) (core_at m services q events) mv
    ≡ core_of (after (world m) call) (map (hears_of (world m) call) services)
    (jobs_hear q events (reply_of (said_of (world m) call)).status (reply_of (said_of (world m) call)).words) (events + 1) =
    job_moves Services servers (world m) services q events mv found.begun found.state found.stage found.words found.asks in
    let at_event = ap (λ e. core_of (after (world m) e) (map (hears_of (world m) e) services)
    (jobs_hear q events (reply_of (said_of (world m) e)).status (reply_of (said_of (world m) e)).words) (events + 1)) same in
    let at_world = ap (λ w. core_of w (map (hears_of (world m) e) services)
    (jobs_hear q events (reply_of (said_of (world m) e)).status (reply_of (said_of (world m) e)).words) (events + 1)) worlds in
    let at_servers = ap (λ v. core_of (world n) v (jobs_hear q events (reply_of (said_of (world m) e)).status (reply_of (said_of (world m) e)).words)
    (events + 1)) its_servers in
    let at_reply = ap (λ (a : Reply). core_of (world n) new (jobs_hear q events a.status a.words) (events + 1)) reply in
    let comes : moved (house q.jobs) (core_at m services q events) mv ≡ core_at n new r (events + 1) =
    moves ∙ at_event ∙ at_world ∙ at_servers ∙ at_reply ∙ ap (λ r. core_of (world n) new r (events + 1)) (sym hears_it) in
    let jobs : r.jobs ≡ q.jobs = ap (λ (r : Queue). r.jobs) hears_it ∙ hears-jobs q events (reply_to said).status (reply_to said).words in
    subst (λ c. Settles (house q.jobs) c d) (sym comes) (subst (λ j. Settles (house j) (core_at n new r (events + 1)) d) jobs settles)

-- the same of jobs in which room was made before
pub hears-same : (m n : Kept) (services new : Services) (q r s : Queue) (events : ℕ) (mv : Move) (ask : Ask) (said : says_of.Said) (ended : Option Who)
    (d : RunCore) →
    r.jobs ≡ q.jobs → r.ends ≡ q.ends → r.work ≡ q.work → is_porter q mv.who ≡ true → asked_by (state_of r) ≡ Some ask
    → IsReadyAt (world m) (event_of (world m) ask mv)
    → step_of (world m) (event_of (world m) ask mv) ≡ record { world = world n; said = said_by (path n) said }
    → ((port : Who) → has_ended (world m) (world n) (named (world m) port) ≡ is_who ended port)
    → ((port : Who) → says_to (step_of (world m) (event_of (world m) ask mv)).said (named (world m) port) ≡ says_to_who said port)
    → new ≡ map (told said ended) services
    → s ≡ jobs_hear r events (reply_to said).status (reply_to said).words
    → Settles (house s.jobs) (core_at n new s (events + 1)) d
    → IsCalledMove q (core_at m services q events) mv × IsTurned q.jobs (core_at m services q events) mv d
hears-same m n services new q r s events mv ask said ended d jobs ends work porter next ready made over tells heard hears_it settles =
    let there : is_porter r mv.who ≡ true = (λ i. is_who (porter_of (slice_get (jobs i) (length (ends i)))) mv.who) ∙ porter in
    let call : IsCalledMove r (core_at m services r events) mv = subst (IsReadyFor (core_at m services r events).world mv) (sym next) ready in
    let turn : IsTurned r.jobs (core_at m services r events) mv d =
    job-turned m n services new r s events mv ask said ended d
    (job_asks_for r (world m) services events mv.who ask there next) made over tells heard hears_it settles in
    let is_state : state_of r ≡ state_of q = λ i. state_from (work i) (first_of (ends i) (slice_get (jobs i) (length (ends i)))) in
    let is_core : core_at m services r events ≡ core_at m services q events =
    λ i. record { world = world m; servers = services; ends = ends i; work = work i; events = events } in (
      subst (IsReadyFor (core_at m services q events).world mv) (ap asked_by is_state) call,
      subst (λ c. IsTurned q.jobs c mv d) is_core (subst (λ j. IsTurned j (core_at m services r events) mv d) jobs turn),
    )
