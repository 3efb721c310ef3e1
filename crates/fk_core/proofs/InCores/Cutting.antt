-- Cutting: what a turn does to plain subtrees.
use Rattle.std.proofs.Common.{◌≡◌, ℕ, ◌<◌, Bool, true, false, List, [], ◌∷◌, Ok, inl, inr, refl, sym, subst, ◌∙◌, arith}
use Rattle.fk_model.specs.declared.moves.Ask.TheVariants as asks
use Rattle.fk_model.specs.declared.moves.Move.{Move}
use Rattle.fk_model.specs.Cut.{cut, IsPlain}
use Rattle.fk_model.specs.Further.{Told, IsOnward}
use Rattle.fk_model.specs.Moves.{IsReady}
use Rattle.fk_model.specs.Places.{Path}
use Rattle.fk_model.specs.Runs.{Event, after}
use Rattle.fk_model.specs.Seen.{Seen, IsSeen}
use Rattle.fk_model.specs.Seen.Seen.{Onwards, Unseen, Other}
use Rattle.fk_model.specs.Valid.{is_fit}
use Rattle.fk_model.specs.Who.{event_of, named}
use Rattle.fk_model.specs.Whole.{IsWhole}
use Rattle.fk_model.specs.World.{World}
use Rattle.laws_subtrees.specs.Cut.CutLaws.{HasDone as HasMoved}
use Rattle.laws_subtrees.proofs.InCut.joined.Every.{event_keeps}
use Rattle.laws_subtrees.proofs.InFurther.strangers.Laws.{strangers_move_unseen, strangers_act_unseen}
use Rattle.laws_house.specs.Houses.{Job, State, End, machine}
use Rattle.laws_jobs.specs.Machines.{Head, heard, said_of}
use Rattle.laws_jobs.specs.Machines.Head.{Stops, Asks}
use Rattle.laws_runs.specs.Cores.{Asker, IsReadyBy, asker, job_moved, moved_by, Settles, with_end}
use Rattle.laws_runs.specs.Cores.Asker.{Nobody, Others, Job as OfJob}
use Rattle.laws_runs.specs.Cores.Settles.{Stays, Ends}
use Rattle.laws_runs.specs.Onwards.{event_by}
use Rattle.fk_jobs.specs.Jobs.{Queue}
use Rattle.fk_jobs.specs.Turns.{core_of}
use Rattle.fk_core.specs.Rounds.Served.{Services}
use Rattle.fk_core.specs.Cores.Cores.{RunCore, house, IsReadyMove, IsTurned, IsTried}
use Rattle.fk_core.specs.Cores.Cuts.{IsEvent, HasDone, KeepsCuts, LeavesStrangers, IsOfStranger}
use Rattle.fk_core.specs.Cores.Goings.{HasCome}
use Rattle.fk_core.proofs.InRounds.Asking.{asked_other}
use Rattle.fk_core.proofs.InCores.Bursting.{come_sound}
use Rattle.fk_core.proofs.InCores.Going.{job_fits}
use Rattle.fk_core.proofs.InRounds.Acts.{fit-asked}

settled-world : (jobs : List Job) (c d : RunCore) → Settles (house jobs) c d → d.world ≡ c.world
settled-world jobs _ _ (Stays c none) = refl
settled-world jobs _ _ (Ends c d why now rest) = settled-world jobs (with_end c why) d rest

-- a turn is its event, which is fit and ready
record IsMade (c : RunCore) (d : RunCore) (e : Event) : Type 0 where
  fit : is_fit c.world e.mover e.ask ≡ true
  ready : IsReady c.world e.mover e.pick e.ask
  goes : d.world ≡ after c.world e

job-world : (jobs : List Job) (c : RunCore) (e : Event) (begun : ℕ) (t : State) (h : Head End) → (job_moved (house jobs) c e begun t h).world ≡ after c.world e
job-world jobs c e begun t (Asks stage words) = refl
job-world jobs c e begun t (Stops end) = refl

made : (q : Queue) (w : World) (services : Services) (events budget : ℕ) (m : Move) (d : RunCore) (e : Event)
    → HasCome q.jobs budget (core_of w services q events) → events < budget →
    IsReadyMove q.jobs (core_of w services q events) m → IsTurned q.jobs (core_of w services q events) m d → IsEvent q.jobs (core_of w services q events) m e →
    IsMade (core_of w services q events) d e
made q w services events budget m d e come below ready turned is = at (asker (house q.jobs) (core_of w services q events) m.who) refl ready turned is
  where
    at : (a : Asker State) → asker (house q.jobs) (core_of w services q events) m.who ≡ a → IsReadyBy (house q.jobs) (core_of w services q events) m a
        → Settles (house q.jobs) (moved_by (house q.jobs) (core_of w services q events) m a) d →
        event_by w m a ≡ e ∷ [] → IsMade (core_of w services q events) d e
    at Nobody by_whom ready settles is = absurd ready
    at (Others ask) by_whom ready settles is =
        let same : event_of w ask m ≡ e = cc in
        subst (IsMade (core_of w services q events) d) same (record {
          fit = fit-asked services w m.who ask (named w m.who) (asked_other q w services events m.who ask by_whom).is;
          ready = ready;
          goes = settled-world q.jobs _ d settles;
        })
    at (OfJob begun s stage words) by_whom ready settles is =
        let call = event_of w (asks.Call stage words) m in
        let same : call ≡ e = cc in
        let told = heard machine s (said_of w call) in
        subst (IsMade (core_of w services q events) d) same (record {
          fit = job_fits q.jobs budget (core_of w services q events) come below m.who begun s stage words by_whom;
          ready = ready.1;
          goes = settled-world q.jobs _ d settles ∙ job-world q.jobs (core_of w services q events) call begun told (machine.head told);
        })

has-done : (w v : World) (e : Event) (nester : Path) (slot : ℕ) (seen : Seen) → v ≡ after w e → IsSeen w nester slot e seen →
    HasMoved w nester slot e seen → HasDone w v nester slot seen
has-done w v e nester slot (Onwards m) goes sees done =
    subst (λ v. IsPlain v nester slot × ((told : List Told) × IsOnward (cut w nester slot) m told (cut v nester slot))) (sym goes) done
has-done w v e nester slot Unseen goes sees done = subst (λ v. IsPlain v nester slot × (cut v nester slot ≡ cut w nester slot)) (sym goes) (done, sees.1.0)
has-done w v e nester slot Other goes sees done = tt

-- the world to which a run has come is whole
is-whole : (q : Queue) (w : World) (services : Services) (events budget : ℕ) → HasCome q.jobs budget (core_of w services q events) → events < budget
    → IsWhole w
is-whole q w services events budget come below =
    (come_sound q.jobs budget (core_of w services q events) come (let few = below in omega (arith, few))).whole

pub keeps_cuts : (q : Queue) (w : World) (services : Services) (events budget : ℕ) (m : Move) (d : RunCore) →
    HasCome q.jobs budget (core_of w services q events) → events < budget →
    IsReadyMove q.jobs (core_of w services q events) m → IsTurned q.jobs (core_of w services q events) m d
    → KeepsCuts q.jobs (core_of w services q events) m d.world
keeps_cuts q w services events budget m d come below ready turned e is nester slot seen plain sees =
    let turn = made q w services events budget m d e come below ready turned is in
    has-done w d.world e nester slot seen turn.goes sees
    (event_keeps w nester slot e (is-whole q w services events budget come below) plain turn.fit turn.ready seen sees)

pub leaves_strangers : (q : Queue) (w : World) (services : Services) (events budget : ℕ) (m : Move) (d : RunCore) →
    HasCome q.jobs budget (core_of w services q events) → events < budget →
    IsReadyMove q.jobs (core_of w services q events) m → IsTurned q.jobs (core_of w services q events) m d
    → LeavesStrangers q.jobs (core_of w services q events) m d.world
leaves_strangers q w services events budget m d come below ready turned e is nester slot plain none stranger = by stranger
  where
    whole : IsWhole w
    whole = is-whole q w services events budget come below

    turn : IsMade (core_of w services q events) d e
    turn = made q w services events budget m d e come below ready turned is

    by : IsOfStranger w nester slot e → HasDone w d.world nester slot Unseen
    by (inl thread) = keeps_cuts q w services events budget m d come below ready turned e is nester slot Unseen plain
        (strangers_move_unseen w nester slot e whole plain none thread.0 thread.1 turn.fit)
    by (inr server) = keeps_cuts q w services events budget m d come below ready turned e is nester slot Unseen plain
        (strangers_act_unseen w nester slot e whole plain none server.0 server.1 turn.ready)

-- a ready move that is tried is made
pub of-ready : (b : Bool) (ready lacks : Type 0) (jobs : List Job) (c : RunCore) (m : Move) (d : RunCore) → ready →
    IsTried {E = Unit {0}} ready lacks jobs c m d (Ok b) → IsTurned jobs c m d
of-ready true ready lacks jobs c m d is tried = tried.1
of-ready false ready lacks jobs c m d is tried = absurd (tried.0 is)

pub of-unready : (b : Bool) (ready lacks : Type 0) (jobs : List Job) (c : RunCore) (m : Move) (d : RunCore) → b ≡ false →
    IsTried {E = Unit {0}} ready lacks jobs c m d (Ok b) → ready → ⊥
of-unready true ready lacks jobs c m d is tried = absurd (cc)
of-unready false ready lacks jobs c m d is tried = tried.0
