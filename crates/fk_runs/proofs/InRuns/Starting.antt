-- A core that has made no move is one with which a run may begin.
use Rattle.std.proofs.Common.{◌≡◌, ℕ, ◌+◌, ◌≤◌, List, refl, sym, subst, ◌∙◌, arith}
use Rattle.fk_model.specs.declared.moves.Move.{Move}
use Rattle.fk_model.specs.Runs.{Event}
use Rattle.fk_first.specs.Cores.{RunCore, house}
use Rattle.fk_first.specs.Goings.{IsFirstCore, HasCome}
use Rattle.fk_workers.specs.Workers.Shown.{IsSound}
use Rattle.laws_house.specs.Houses as houses
use Rattle.laws_house.specs.Houses.{Job}
use Rattle.laws_jobs.specs.Machines.{Head}
use Rattle.laws_jobs.specs.Machines.Head.{Stops, Asks}
use Rattle.laws_runs.specs.Cores.{IsRun, IsReadyBy, Asker, asker, moved_by, job_moved, with_end, Settles}
use Rattle.laws_runs.specs.Cores.Asker.{Nobody, Others, Job as OfJob}
use Rattle.laws_runs.specs.Cores.IsRun.{Begins, Goes}
use Rattle.laws_runs.specs.Cores.Settles.{Stays, Ends}

settled : (jobs : List Job) (c d : RunCore) → Settles (house jobs) c d → d.events ≡ c.events
settled jobs _ _ (Stays c none) = refl
settled jobs _ _ (Ends c d why now rest) = settled jobs (with_end c why) d rest

job_counts : (jobs : List Job) (c : RunCore) (e : Event) (begun : ℕ) (s : houses.State) (h : Head houses.End)
    → (job_moved (house jobs) c e begun s h).events ≡ c.events + 1
job_counts jobs c e begun s (Asks stage words) = refl
job_counts jobs c e begun s (Stops end) = refl

counts : (jobs : List Job) (c : RunCore) (m : Move) (a : Asker houses.State) → IsReadyBy (house jobs) c m a
    → (moved_by (house jobs) c m a).events ≡ c.events + 1
counts jobs c m Nobody ready = absurd ready
counts jobs c m (Others ask) ready = refl
counts jobs c m (OfJob begun s stage words) ready = job_counts jobs c _ begun _ _

has_made_none : (jobs : List Job) (first c : RunCore) (past : List Move) → IsRun (house jobs) first past c → c.events ≡ 0 → c ≡ first
has_made_none jobs first _ _ Begins none = refl
has_made_none jobs first _ _ (Goes past c m d run ready settles) none =
    let one : 0 ≡ c.events + 1 = sym none ∙ (settled jobs _ d settles ∙ counts jobs c m (asker (house jobs) c m.who) ready) in
    absurd (let no : 1 ≤ 0 = omega (arith, one) in omega (arith, no))

pub may_begin : (jobs : List Job) (budget : ℕ) (c : RunCore) → HasCome jobs budget c → c.events ≡ 0
    → IsSound (record { jobs = jobs; budget = budget; core = c })
may_begin jobs budget c come none =
    let same : c ≡ come.first = has_made_none jobs come.first c come.past come.run none in
    subst (λ (d : RunCore). IsFirstCore jobs budget d) (sym same) come.begins
