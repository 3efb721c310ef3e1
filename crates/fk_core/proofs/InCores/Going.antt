-- Going on: a core that a run has come to goes on by a move, and what its jobs ask for is fit.
use Rattle.std.proofs.Common.{◌≡◌, ℕ, ◌+◌, ◌<◌, ◌≤◌, Bool, true, false, List, [], ◌∷◌, ◌++◌, length, Option, Some, None, Result, Ok, Err, IfOk, OnErr, refl}
use Rattle.std.proofs.Common.{sym, subst, arith}
use Rattle.std.proofs.lemmas.List.{length-append}
use Rattle.fk_model.specs.declared.moves.Ask.{Ask}
use Rattle.fk_model.specs.declared.moves.Ask.TheVariants as asks
use Rattle.fk_model.specs.declared.moves.Move.{Move}
use Rattle.fk_model.specs.declared.names.Who.{Who}
use Rattle.fk_model.specs.declared.stage.Stage.{Stage}
use Rattle.fk_model.specs.Runs.{Event}
use Rattle.fk_model.specs.Searches.{depth}
use Rattle.fk_model.specs.Valid.{is_fit}
use Rattle.fk_model.specs.Who.{event_of, named}
use Rattle.fk_model.specs.World.{World}
use Rattle.laws_house.specs.Houses.{Job, State, End, machine}
use Rattle.laws_house.proofs.Fitting.{jobs_ask_fitly}
use Rattle.laws_jobs.specs.Machines.{Head, heard, said_of}
use Rattle.laws_jobs.specs.Machines.Head.{Stops, Asks}
use Rattle.laws_runs.specs.Cores.{Asker, IsRun, IsReadyBy, Settles, asker, job_moved, moved_by, with_end}
use Rattle.laws_runs.specs.Cores.Asker.{Nobody, Others, Job as OfJob}
use Rattle.laws_runs.specs.Cores.IsRun.{Begins, Goes}
use Rattle.laws_runs.specs.Cores.Settles.{Stays, Ends}
use Rattle.fk_jobs.specs.Jobs.{Queue, asked_by, state_of}
use Rattle.fk_jobs.specs.Turns.{core_of}
use Rattle.fk_core.specs.Rounds.Served.{Services, servers}
use Rattle.fk_core.proofs.InRounds.Acts.{servers_ask_as_users}
use Rattle.fk_core.specs.Rounds.Kernels.{Kept}
use Rattle.fk_core.specs.Cores.Cores.{RunCore, house, core_at, is_porter, IsReadyMove, IsTurned, IsTried, IsAdvanced}
use Rattle.fk_core.specs.Cores.Goings.{HasCome}
use Rattle.fk_core.proofs.InCores.Starts.{gives}
use Rattle.fk_core.proofs.InRounds.Asking.{asks_for}

settled_events : (jobs : List Job) (c d : RunCore) → Settles (house jobs) c d → d.events ≡ c.events
settled_events jobs _ _ (Stays c none) = refl
settled_events jobs _ _ (Ends c d why now rest) = settled_events jobs (with_end c why) d rest

job_events : (jobs : List Job) (c : RunCore) (e : Event) (begun : ℕ) (t : State) (h : Head End) → (job_moved (house jobs) c e begun t h).events ≡ c.events + 1
job_events jobs c e begun t (Asks stage words) = refl
job_events jobs c e begun t (Stops end) = refl

moved_events : (jobs : List Job) (c : RunCore) (m : Move) (a : Asker State) → IsReadyBy (house jobs) c m a → (moved_by (house jobs) c m a).events ≡ c.events + 1
moved_events jobs c m Nobody ready = absurd ready
moved_events jobs c m (Others ask) ready = refl
moved_events jobs c m (OfJob begun s stage words) ready =
    let e = event_of c.world (asks.Call stage words) m in
    let t = heard machine s (said_of c.world e) in
    job_events jobs c e begun t (machine.head t)

pub counted : (jobs : List Job) (first c : RunCore) (past : List Move) → IsRun (house jobs) first past c → first.events ≡ 0 → c.events ≡ length past
counted jobs first _ _ Begins none = none
counted jobs first _ _ (Goes past c m d run ready settles) none =
    let before = counted jobs first c past run none in
    let one = moved_events jobs c m (asker (house jobs) c m.who) ready in
    let same = settled_events jobs _ d settles in
    let longer : length (past ++ m ∷ []) ≡ length past + 1 = length-append past (m ∷ []) in
    omega (arith, before, one, same, longer)

pub goes_on : (jobs : List Job) (budget : ℕ) (c d : RunCore) (m : Move) → HasCome jobs budget c → IsReadyMove jobs c m → IsTurned jobs c m d
    → HasCome jobs budget d
goes_on jobs budget c d m come ready turned = record {
  first = come.first;
  past = come.past ++ m ∷ [];
  run = Goes come.past c m d come.run ready turned;
  begins = come.begins;
}

-- what a job asks for is fit
pub job_fits : (jobs : List Job) (budget : ℕ) (c : RunCore) → HasCome jobs budget c → c.events < budget → (who : Who) (begun : ℕ) (s : State) (stage : Stage)
    (words : List ℕ) → asker (house jobs) c who ≡ OfJob begun s stage words → is_fit c.world (named c.world who) (asks.Call stage words) ≡ true
job_fits jobs budget c come below who begun s stage words asks =
    let its = gives jobs budget come.first come.begins in
    let long = counted jobs come.first c come.past come.run its.start.events in
    let few : come.first.world.next + length come.past ≤ depth = (let enough = its.few in omega (arith, long, enough, below)) in
    (jobs_ask_fitly jobs servers come.first c come.past come.run servers_ask_as_users its.slots its.start few who begun s stage words asks).0

pub call_fits : (q : Queue) (w : World) (services : Services) (events budget : ℕ) (who : Who) (ask : Ask)
    → HasCome q.jobs budget (core_of w services q events) →
    events < budget → is_porter q who ≡ true → asked_by (state_of q) ≡ Some ask → is_fit w (named w who) ask ≡ true
call_fits q w services events budget who ask come below porter next =
    let found = asks_for q w services events who ask porter next in
    subst (λ a. is_fit w (named w who) a ≡ true) (sym found.is)
    (job_fits q.jobs budget (core_of w services q events) come below who found.begun found.state found.stage found.words found.asks)

-- ---- it goes on, whatever comes of what was tried

pub come_same : (jobs more : List Job) (budget other : ℕ) (c d : RunCore) → more ≡ jobs → other ≡ budget → d ≡ c → HasCome jobs budget c → HasCome more other d
come_same jobs more budget other c d same_jobs same_budget same come =
    subst (λ j. HasCome j other d) (sym same_jobs) (subst (λ b. HasCome jobs b d) (sym same_budget) (subst (HasCome jobs budget) (sym same) come))

pub come_plain : (m n : Kept) (services new : Services) (q r : Queue) (events later budget other : ℕ) → n ≡ m → new ≡ services → r ≡ q →
    later ≡ events → other ≡ budget → HasCome q.jobs budget (core_at m services q events) → HasCome r.jobs other (core_at n new r later)
come_plain m n services new q r events later budget other kernel list queue count same come =
    subst (λ n. HasCome r.jobs other (core_at n new r later)) (sym kernel)
    (subst (λ v. HasCome r.jobs other (core_at m v r later)) (sym list)
    (subst (λ k. HasCome r.jobs other (core_at m services r k)) (sym count)
    (subst (λ r. HasCome r.jobs other (core_at m services r events)) (sym queue)
    (subst (λ b. HasCome q.jobs b (core_at m services q events)) (sym same) come))))

pub goes_same : (jobs more : List Job) (budget other : ℕ) (c d : RunCore) (m : Move) → more ≡ jobs → other ≡ budget → HasCome jobs budget c →
    IsReadyMove jobs c m → IsTurned jobs c m d → HasCome more other d
goes_same jobs more budget other c d m same_jobs same_budget come ready turned =
    come_same jobs more budget other d d same_jobs same_budget refl (goes_on jobs budget c d m come ready turned)

come_tried : {E : Type 0} (r : Result Bool E) (L : Type 0) (jobs : List Job) (budget : ℕ) (c : RunCore) (m : Move) (d : RunCore) → HasCome jobs budget c →
    IsTried (IsReadyMove jobs c m) L jobs c m d r → HasCome jobs budget d
come_tried (Ok true) L jobs budget c m d come tried = goes_on jobs budget c d m come tried.0 tried.1
come_tried (Ok false) L jobs budget c m d come tried = subst (HasCome jobs budget) (sym tried.1) come
come_tried (Err e) L jobs budget c m d come tried = subst (HasCome jobs budget) (sym tried.2) come

pub tried_goes : {E : Type 0} (r : Result Bool E) (L : Type 0) (jobs more : List Job) (budget other : ℕ) (c : RunCore) (m : Move) (d : RunCore) → more ≡ jobs
    → other ≡ budget →
    HasCome jobs budget c → IsTried (IsReadyMove jobs c m) L jobs c m d r → HasCome more other d
tried_goes r L jobs more budget other c m d same_jobs same_budget come tried =
    come_same jobs more budget other d d same_jobs same_budget refl (come_tried r L jobs budget c m d come tried)

come_made : (made : Option Move) (jobs : List Job) (budget : ℕ) (c d : RunCore) → HasCome jobs budget c → IsAdvanced jobs budget c made d
    → HasCome jobs budget d
come_made None jobs budget c d come same = subst (HasCome jobs budget) (sym same) come
come_made (Some m) jobs budget c d come made = goes_on jobs budget c d m come made.1 made.2

come_advanced : {E : Type 0} (r : Result (Option Move) E) (jobs : List Job) (budget : ℕ) (c d : RunCore) → HasCome jobs budget c →
    IfOk r (λ made. IsAdvanced jobs budget c made d) → OnErr r (d ≡ c) → HasCome jobs budget d
come_advanced (Ok made) jobs budget c d come advanced lacking = come_made made jobs budget c d come advanced
come_advanced (Err e) jobs budget c d come advanced lacking = subst (HasCome jobs budget) (sym lacking) come

pub advanced_goes : {E : Type 0} (r : Result (Option Move) E) (jobs more : List Job) (budget other : ℕ) (c d : RunCore) → more ≡ jobs → other ≡ budget →
    HasCome jobs budget c → IfOk r (λ made. IsAdvanced jobs budget c made d) → OnErr r (d ≡ c) → HasCome more other d
advanced_goes r jobs more budget other c d same_jobs same_budget come advanced lacking =
    come_same jobs more budget other d d same_jobs same_budget refl (come_advanced r jobs budget c d come advanced lacking)
