-- Asking: who asks for what, by the job whose turn it is.
use Rattle.std.proofs.Common.{◌≡◌, ℕ, Bool, true, false, not, if◌then◌else◌, List, Option, Some, None, option_map, IfSome, refl, sym, ap, subst, ◌∙◌}
use Rattle.fk_model.specs.declared.moves.Ask.{Ask}
use Rattle.fk_model.specs.declared.moves.Ask.TheVariants as asks
use Rattle.fk_model.specs.declared.moves.Move.{Move}
use Rattle.fk_model.specs.declared.names.Who.{Who}
use Rattle.fk_model.specs.declared.stage.Stage.{Stage}
use Rattle.fk_model.specs.Moves.{chooses}
use Rattle.fk_model.specs.Who.{event_of, named}
use Rattle.fk_model.specs.World.{World}
use Rattle.laws_moves.specs.Whole.Runnable.{has_all_words}
use Rattle.laws_house.specs.Houses.{Job, State, End, machine, begins}
use Rattle.laws_jobs.specs.Machines.{Head, IsReadyAt}
use Rattle.laws_jobs.specs.Machines.Head.{Stops, Asks}
use Rattle.laws_runs.specs.Cores.{Asker, Work, asker, asks_of_job, others_ask, job_asks, work_asks, work_of, IsReadyBy, IsOtherReady}
use Rattle.laws_runs.specs.Cores.Asker.{Nobody, Others, Job as OfJob}
use Rattle.laws_runs.proofs.Named.{unpicked}
use Rattle.fk_store_graph.proofs.InLeads.NameLaws.{same_who_eq}
use Rattle.fk_served.specs.Events.{is_who}
use Rattle.fk_jobs.specs.Jobs.{Queue, current, first_of, state_from, state_of, call_at, asked_by}
use Rattle.fk_jobs.specs.Fitting.{picks_nobody}
use Rattle.fk_jobs.proofs.Fitting.{pick_nobody}
use Rattle.fk_jobs.specs.Turns.{core_of}
use Rattle.fk_served.specs.Acts.{IsReadyAsked, IsReadyFor}
use Rattle.fk_served.specs.Served.{Services, asked}
use Rattle.fk_core.specs.Moment.Moments.{house, porter_of, is_porter, IsReadyMove, IsAnyMove, IsDue, IsOthersMove, IsAskedMove, IsCalledMove}

-- what an asker that stands for this call is
pub record AsksFor (ask : Ask) (a : Asker State) : Type 0 where
  pub begun : ℕ
  pub state : State
  pub stage : Stage
  pub words : List ℕ
  pub is : ask ≡ asks.Call stage words
  pub asks : a ≡ OfJob begun state stage words

by_head : (begun : ℕ) (s : State) (ask : Ask) (h : Head End) → call_at h ≡ Some ask → AsksFor ask (job_asks begun s h)
by_head begun s ask (Stops end) is = absurd (cc)
by_head begun s ask (Asks stage words) is =
    let same : asks.Call stage words ≡ ask = cc in
    record { begun = begun; state = s; stage = stage; words = words; is = sym same; asks = refl }

by_work : (events : ℕ) (ask : Ask) (work : Option (Work State)) (first : Option State) → asked_by (state_from work first) ≡ Some ask →
    AsksFor ask (work_asks machine (work_of events work first))
by_work events ask (Some k) first is = by_head k.begun k.state ask (machine.head k.state) is
by_work events ask None None is = absurd (cc)
by_work events ask None (Some s) is = by_head events s ask (machine.head s) is

idle_head : (begun : ℕ) (s : State) (h : Head End) → call_at h ≡ None → job_asks begun s h ≡ Nobody
idle_head begun s (Stops end) is = refl
idle_head begun s (Asks stage words) is = absurd (cc)

idle_work : (events : ℕ) (work : Option (Work State)) (first : Option State) → asked_by (state_from work first) ≡ None →
    work_asks machine (work_of events work first) ≡ Nobody
idle_work events (Some k) first is = idle_head k.begun k.state (machine.head k.state) is
idle_work events None None is = refl
idle_work events None (Some s) is = idle_head events s (machine.head s) is

no_others_head : (begun : ℕ) (s : State) (ask : Ask) (h : Head End) → job_asks begun s h ≡ Others ask → ⊥
no_others_head begun s ask (Stops end) is = cc
no_others_head begun s ask (Asks stage words) is = cc

no_others_work : (ask : Ask) (work : Option (Work State)) → work_asks machine work ≡ Others ask → ⊥
no_others_work ask None is = cc
no_others_work ask (Some k) is = no_others_head k.begun k.state ask (machine.head k.state) is

pub record IsAsked (o : Option Ask) (ask : Ask) : Type 0 where
  pub is : o ≡ Some ask
  pub words : has_all_words ask ≡ true

others_is : (o : Option Ask) (ask : Ask) → ◌≡◌ {A = Asker State} (others_ask o) (Others ask) → IsAsked o ask
others_is None ask is = absurd (cc)
others_is (Some other) ask is = by (has_all_words other) refl is
  where
    by : (b : Bool) → has_all_words other ≡ b → ◌≡◌ {A = Asker State} (if b then Others other else Nobody) (Others ask) → IsAsked (Some other) ask
    by true e is = let same : other ≡ ask = cc in record { is = ap Some same; words = subst (λ a. has_all_words a ≡ true) same e }
    by false e is = absurd (cc)

-- what picks nobody chooses nobody
never_chooses : (b : Bool) → not b ≡ true → b ≡ false
never_chooses true is = absurd (cc)
never_chooses false is = refl

module _ (q : Queue) (w : World) (services : Services) (events : ℕ) where
  -- the porter asks as its job
  pub as_job : (who : Who) → is_porter q who ≡ true →
      asker (house q.jobs) (core_of w services q events) who ≡ work_asks machine (work_of events q.work (first_of q.ends (current q)))
  as_job who is = by (current q) is
    where
      by : (o : Option Job) → is_who (porter_of o) who ≡ true →
          asks_of_job (house q.jobs) (core_of w services q events) who o ≡ work_asks machine (work_of events q.work (first_of q.ends o))
      by None is = absurd (cc)
      by (Some j) is =
          ap (λ (b : Bool). if b then work_asks machine (work_of events q.work (begins j q.ends)) else others_ask (asked services w who)) is

  -- everybody else as ever
  pub as_other : (who : Who) → is_porter q who ≡ false → asker (house q.jobs) (core_of w services q events) who ≡ others_ask (asked services w who)
  as_other who is = by (current q) is
    where
      by : (o : Option Job) → is_who (porter_of o) who ≡ false →
          asks_of_job (house q.jobs) (core_of w services q events) who o ≡ others_ask (asked services w who)
      by None is = refl
      by (Some j) is =
          ap (λ (b : Bool). if b then work_asks machine (work_of events q.work (begins j q.ends)) else others_ask (asked services w who)) is

  pub asks_for : (who : Who) (ask : Ask) → is_porter q who ≡ true → asked_by (state_of q) ≡ Some ask →
      AsksFor ask (asker (house q.jobs) (core_of w services q events) who)
  asks_for who ask is next =
      subst (AsksFor ask) (sym (as_job who is)) (by_work events ask q.work (first_of q.ends (current q)) next)

  pub job_ready : (m : Move) (ask : Ask) → is_porter q m.who ≡ true → asked_by (state_of q) ≡ Some ask →
      IsDue q.jobs (core_of w services q events) → IsReadyAt w (event_of w ask m) → IsReadyMove q.jobs (core_of w services q events) m
  job_ready m ask is next due ready =
      let found = asks_for m.who ask is next in
      subst (IsReadyBy (house q.jobs) (core_of w services q events) m) (sym found.asks) (due, subst (λ a. IsReadyAt w (event_of w a m)) found.is ready)

  pub ready_job : (m : Move) (ask : Ask) → is_porter q m.who ≡ true → asked_by (state_of q) ≡ Some ask →
      IsReadyMove q.jobs (core_of w services q events) m → IsDue q.jobs (core_of w services q events) × IsReadyAt w (event_of w ask m)
  ready_job m ask is next ready =
      let found = asks_for m.who ask is next in
      let both = subst (IsReadyBy (house q.jobs) (core_of w services q events) m) found.asks ready in
      (both.0, subst (λ a. IsReadyAt w (event_of w a m)) (sym found.is) both.1)

  -- with no call to make it isn't ready
  pub idle_job : (m : Move) → is_porter q m.who ≡ true → asked_by (state_of q) ≡ None → IsReadyMove q.jobs (core_of w services q events) m → ⊥
  idle_job m is none ready =
      subst (IsReadyBy (house q.jobs) (core_of w services q events) m) (as_job m.who is ∙ idle_work events q.work (first_of q.ends (current q)) none) ready

  pub undue_job : (m : Move) → is_porter q m.who ≡ true → (IsDue q.jobs (core_of w services q events) → ⊥)
      → IsReadyMove q.jobs (core_of w services q events) m → ⊥
  undue_job m is undue ready = by (asked_by (state_of q)) refl
    where
      by : (o : Option Ask) → asked_by (state_of q) ≡ o → ⊥
      by None e = idle_job m is e ready
      by (Some ask) e = undue (ready_job m ask is e ready).0

  -- its move is ready where it is due and its call is ready
  pub called_ready : (m : Move) → is_porter q m.who ≡ true → IsDue q.jobs (core_of w services q events) → IsCalledMove q (core_of w services q events) m →
      IsReadyMove q.jobs (core_of w services q events) m
  called_ready m is due called = by (asked_by (state_of q)) refl called
    where
      by : (o : Option Ask) → asked_by (state_of q) ≡ o → IsReadyFor w m o → IsReadyMove q.jobs (core_of w services q events) m
      by None e called = absurd called
      by (Some ask) e called = job_ready m ask is e due called

  pub ready_called : (m : Move) → is_porter q m.who ≡ true → IsReadyMove q.jobs (core_of w services q events) m → IsCalledMove q (core_of w services q events) m
  ready_called m is ready = by (asked_by (state_of q)) refl
    where
      by : (o : Option Ask) → asked_by (state_of q) ≡ o → IsReadyFor w m o
      by None e = absurd (idle_job m is e ready)
      by (Some ask) e = (ready_job m ask is e ready).1

  pub ready_due : (m : Move) → is_porter q m.who ≡ true → IsReadyMove q.jobs (core_of w services q events) m → IsDue q.jobs (core_of w services q events)
  ready_due m is ready = by (asked_by (state_of q)) refl
    where
      by : (o : Option Ask) → asked_by (state_of q) ≡ o → IsDue q.jobs (core_of w services q events)
      by None e = absurd (idle_job m is e ready)
      by (Some ask) e = (ready_job m ask is e ready).0

  -- it picks nobody
  pub job_unpicked : (m : Move) → is_porter q m.who ≡ true → IsReadyMove q.jobs (core_of w services q events) m → m.pick ≡ None
  job_unpicked m is ready = by (asked_by (state_of q)) refl
    where
      no_pick : (pick : Option Who) → option_map (named w) pick ≡ None → pick ≡ None
      no_pick None e = refl
      no_pick (Some p) e = absurd (cc)

      by : (o : Option Ask) → asked_by (state_of q) ≡ o → m.pick ≡ None
      by None e = absurd (idle_job m is e ready)
      by (Some ask) e =
          let found = asks_for m.who ask is e in
          let picks : picks_nobody (asks.Call found.stage found.words) ≡ true =
          subst (λ a. picks_nobody a ≡ true) found.is (subst (λ o. IfSome o (λ ask. picks_nobody ask ≡ true)) e (pick_nobody q)) in
          let call = subst (λ a. IsReadyAt w (event_of w a m)) found.is (ready_job m ask is e ready).1 in
          no_pick m.pick (unpicked w (named w m.who) found.stage found.words (never_chooses (chooses found.stage) picks) (option_map (named w) m.pick) call)

  pub none_ready : (who : Who) → porter_of (current q) ≡ Some who →
      (IsReadyMove q.jobs (core_of w services q events) (record { who = who; pick = None }) → ⊥) →
      (m : Move) → is_porter q m.who ≡ true → IsReadyMove q.jobs (core_of w services q events) m → ⊥
  none_ready who porter unready m is ready =
      let same : m.who ≡ who = same_who_eq m.who who (subst (λ o. is_who o m.who ≡ true) porter is) in
      let pick = job_unpicked m is ready in
      unready (subst (λ k. IsReadyMove q.jobs (core_of w services q events) (record { who = k; pick = None })) same
      (subst (λ p. IsReadyMove q.jobs (core_of w services q events) (record { who = m.who; pick = p })) pick ready))

  -- ---- users and servers

  pub asks_other : (who : Who) (ask : Ask) → is_porter q who ≡ false → asked services w who ≡ Some ask → has_all_words ask ≡ true →
      asker (house q.jobs) (core_of w services q events) who ≡ Others ask
  asks_other who ask other is words = as_other who other ∙ ap others_ask is ∙ ap (λ (b : Bool). if b then Others ask else Nobody) words

  -- as whom a move is ready that is none of a job
  pub asked_is : (m : Move) → is_porter q m.who ≡ false
      → IsReadyMove q.jobs (core_of w services q events) m ≡ IsAskedMove q.jobs (core_of w services q events) m
  asked_is m other = ap (IsReadyBy (house q.jobs) (core_of w services q events) m) (as_other m.who other)

  pub others_ready : (m : Move) → IsOthersMove q.jobs (core_of w services q events) m → IsReadyMove q.jobs (core_of w services q events) m
  others_ready m is = subst (IsReadyBy (house q.jobs) (core_of w services q events) m) (sym is.1) is.2

  pub ready_other : (m : Move) → is_porter q m.who ≡ false → IsReadyMove q.jobs (core_of w services q events) m
      → IsOthersMove q.jobs (core_of w services q events) m
  ready_other m other ready = by (asked services w m.who) refl
    where
      by : (o : Option Ask) → asked services w m.who ≡ o → IsOthersMove q.jobs (core_of w services q events) m
      by None e = absurd (subst (IsReadyBy (house q.jobs) (core_of w services q events) m) (as_other m.who other ∙ ap others_ask e) ready)
      by (Some ask) e = by_words (has_all_words ask) refl
        where
          by_words : (b : Bool) → has_all_words ask ≡ b → IsOthersMove q.jobs (core_of w services q events) m
          by_words true words =
              let is = asks_other m.who ask other e words in
              (ask, is, subst (IsReadyBy (house q.jobs) (core_of w services q events) m) is ready)
          by_words false words =
              absurd (subst (IsReadyBy (house q.jobs) (core_of w services q events) m)
              (as_other m.who other ∙ ap others_ask e ∙ ap (λ (b : Bool). if b then Others ask else Nobody) words) ready)

  pub ready_asked : (m : Move) → is_porter q m.who ≡ false → IsReadyMove q.jobs (core_of w services q events) m
      → IsAskedMove q.jobs (core_of w services q events) m
  ready_asked m other ready = subst (λ (T : Type 0). T) (asked_is m other) ready

  pub asked_ready : (m : Move) → is_porter q m.who ≡ false → IsAskedMove q.jobs (core_of w services q events) m
      → IsReadyMove q.jobs (core_of w services q events) m
  asked_ready m other is = subst (λ (T : Type 0). T) (sym (asked_is m other)) is

  -- where what is asked for is words it is ready as that of a user or a server exactly where it is ready for what its mover asks for
  pub as_asked : (m : Move) → IfSome (asked services w m.who) (λ ask. has_all_words ask ≡ true) →
      IsReadyAsked services w m ≡ IsAskedMove q.jobs (core_of w services q events) m
  as_asked m words = by (asked services w m.who) words
    where
      by : (o : Option Ask) → IfSome o (λ ask. has_all_words ask ≡ true) →
          IsReadyFor w m o ≡ IsReadyBy (house q.jobs) (core_of w services q events) m (others_ask o)
      by None words = refl
      by (Some ask) words = ap (λ (b : Bool). IsReadyBy (house q.jobs) (core_of w services q events) m (if b then Others ask else Nobody)) (sym words)

  -- an act that is ready for what the server of its port asks for
  pub ready_act : (act : Option Move) → IfSome act (λ m. is_porter q m.who ≡ false) →
      IfSome act (λ m. IfSome (asked services w m.who) (λ ask. has_all_words ask ≡ true)) → IfSome act (IsReadyAsked services w) →
      IfSome act (IsReadyMove q.jobs (core_of w services q events))
  ready_act None other words ready = tt
  ready_act (Some m) other words ready = asked_ready m other (subst (λ (T : Type 0). T) (as_asked m words) ready)

  pub other_act : (act : Option Move) → IfSome act (λ m. is_porter q m.who ≡ false) → IfSome act (IsReadyMove q.jobs (core_of w services q events)) →
      IfSome act (IsOthersMove q.jobs (core_of w services q events))
  other_act None other ready = tt
  other_act (Some m) other ready = ready_other m other ready

  pub runs_move : (m : Move) → is_porter q m.who ≡ false → asked services w m.who ≡ Some asks.Run → IsReadyAt w (event_of w asks.Run m) →
      IsOthersMove q.jobs (core_of w services q events) m
  runs_move m other is ready = (asks.Run, asks_other m.who asks.Run other is refl, ready)

  -- who asks as others do is no porter, and asks so
  pub other_name : (who : Who) (ask : Ask) → asker (house q.jobs) (core_of w services q events) who ≡ Others ask → is_porter q who ≡ false
  other_name who ask is = by (is_porter q who) refl
    where
      by : (b : Bool) → is_porter q who ≡ b → b ≡ false
      by true e = absurd (no_others_work ask (work_of events q.work (first_of q.ends (current q))) (sym (as_job who e) ∙ is))
      by false e = refl

  pub asked_other : (who : Who) (ask : Ask) → asker (house q.jobs) (core_of w services q events) who ≡ Others ask → IsAsked (asked services w who) ask
  asked_other who ask is = others_is (asked services w who) ask (sym (as_other who (other_name who ask is)) ∙ is)

  -- nobody's move is ready, where no job's is nor another's
  pub no_move : ((m : Move) → is_porter q m.who ≡ true → IsReadyMove q.jobs (core_of w services q events) m → ⊥) →
      (IsOtherReady (house q.jobs) (core_of w services q events) → ⊥) → IsAnyMove q.jobs (core_of w services q events) → ⊥
  no_move jobs others (m, ready) = by (is_porter q m.who) refl
    where
      by : (b : Bool) → is_porter q m.who ≡ b → ⊥
      by true e = jobs m e ready
      by false e = let as_other = ready_other m e ready in others (m, as_other.0, as_other.1, as_other.2)
