-- Turns: a job's move, from who asks for it to what its jobs come to.
use Rattle.std.proofs.Common.{◌≡◌, ℕ, ◌+◌, Bool, true, false, if◌then◌else◌, List, Option, Some, None, refl, sym, ap, ◌∙◌}
use Rattle.fk_model.specs.declared.moves.Ask.{Ask}
use Rattle.fk_model.specs.declared.moves.Ask.TheVariants as asks
use Rattle.fk_model.specs.declared.moves.Move.{Move}
use Rattle.fk_model.specs.declared.stage.Stage.{Stage}
use Rattle.fk_model.specs.Runs.{Event, after}
use Rattle.fk_model.specs.Who.{event_of}
use Rattle.fk_model.specs.World.{World}
use Rattle.laws_moves.specs.Whole.Runnable.{has_all_words}
use Rattle.laws_jobs.specs.Machines.{Head, reply_of, said_of}
use Rattle.laws_jobs.specs.Machines.Head.{Stops, Asks}
use Rattle.laws_house.specs.Houses.{State, End, Job, house, machine, begins}
use Rattle.laws_runs.specs.Cores.{Servers, Work, asker, asks_of_job, is_porter_of, job_asks, job_moved, moved_by}
use Rattle.laws_runs.specs.Cores.{others_ask, work_asks, work_of}
use Rattle.laws_runs.specs.Cores.Asker.{Nobody, Others, Job as OfJob}
use Rattle.fk_jobs.specs.Jobs.{Queue, current, first_of, goes_on, hears, hears_by}
use Rattle.fk_jobs.specs.Turns.{core_of, JobMovesSo, JobEndsSo}

module _ {V : Type 0} (servers : Servers V) (w : World) (v : V) (q : Queue) (events : ℕ) (m : Move)
    (begun : ℕ) (s : State) (stage : Stage) (words : List ℕ) where
  abbrev its : Work State
  its = record { begun = begun; state = s }

  no-other : (o : Option Ask) → others_ask {S = State} o ≡ OfJob begun s stage words → ⊥
  no-other None is = cc
  no-other (Some ask) is = by (has_all_words ask) is
    where
      by : (b : Bool) → (if b then Others ask else Nobody) ≡ OfJob begun s stage words → ⊥
      by true is = cc
      by false is = cc

  by-head : (k : Work State) (h : Head End) → job_asks k.begun k.state h ≡ OfJob begun s stage words → k ≡ its
  by-head k (Stops end) is = absurd (cc)
  by-head k (Asks other given) is =
      let first : k.begun ≡ begun = cc in
      let then_so : k.state ≡ s = cc in
      ap (λ b. record { begun = b; state = k.state }) first ∙ ap (λ t. record { begun = begun; state = t }) then_so

  by-work : (o : Option (Work State)) → work_asks machine o ≡ OfJob begun s stage words → o ≡ Some its
  by-work None is = absurd (cc)
  by-work (Some k) is = ap Some (by-head k (machine.head k.state) is)

  by-job : (o : Option Job) → asks_of_job (house q.jobs servers) (core_of w v q events) m.who o ≡ OfJob begun s stage words →
      work_of events q.work (first_of q.ends o) ≡ Some its
  by-job None is = absurd (no-other (servers.asks v w m.who) is)
  by-job (Some j) is = by (is_porter_of j.nester m.who) is
    where
      by : (b : Bool) →
          (if b then work_asks machine (work_of events q.work (begins j q.ends)) else others_ask (servers.asks v w m.who)) ≡ OfJob begun s stage words →
          work_of events q.work (begins j q.ends) ≡ Some its
      by true is = by-work (work_of events q.work (begins j q.ends)) is
      by false is = absurd (no-other (servers.asks v w m.who) is)

  comes : (e : Event) (t : State) (h : Head End) →
      job_moved (house q.jobs servers) (core_of w v q events) e begun t h
      ≡ core_of (after w e) (servers.hears v w e) (goes_on q begun events t h) (events + 1)
  comes e t (Asks other given) = refl
  comes e t (Stops end) = refl

  moves : asker (house q.jobs servers) (core_of w v q events) m.who ≡ OfJob begun s stage words →
      moved_by (house q.jobs servers) (core_of w v q events) m (asker (house q.jobs servers) (core_of w v q events) m.who)
      ≡ core_of (after w (event_of w (asks.Call stage words) m)) (servers.hears v w (event_of w (asks.Call stage words) m))
      (hears q events (reply_of (said_of w (event_of w (asks.Call stage words) m))).status
      (reply_of (said_of w (event_of w (asks.Call stage words) m))).words) (events + 1)
  moves is =
      let e = event_of w (asks.Call stage words) m in
      let reply = reply_of (said_of w e) in
      let t = machine.next s reply.status reply.words in
      ap (moved_by (house q.jobs servers) (core_of w v q events) m) is ∙ comes e t (machine.head t)
      ∙ ap (λ o. core_of (after w e) (servers.hears v w e) (hears_by q events reply.status reply.words o) (events + 1)) (sym (by-job (current q) is))

pub job_moves : (V : Type 0) → JobMovesSo V
job_moves V servers w v q events m begun s stage words is = moves servers w v q events m begun s stage words is

pub job_ends : (V : Type 0) → JobEndsSo V
job_ends V w v q events why = refl
