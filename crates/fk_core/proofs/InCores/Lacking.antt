-- Lacking: moves that may lack memory, and what is answered where they do.
use Rattle.std.proofs.Common.{◌≡◌, ◌↔◌, ◌||◌, ℕ, ◌≤◌, Bool, true, false, if◌then◌else◌, IsTrue, List, Option, Some, None, Result, Ok, Err, IfOk, IsOk, OnErr}
use Rattle.std.proofs.Common.{refl, sym, ap, subst, ◌∙◌}
use Rattle.fk_model.specs.declared.moves.Ask.{Ask}
use Rattle.fk_model.specs.declared.moves.Ask.TheVariants as asks
use Rattle.fk_model.specs.declared.moves.Move.{Move}
use Rattle.fk_model.specs.declared.moves.Said as says_of
use Rattle.fk_model.specs.declared.names.Who.{Who}
use Rattle.fk_model.specs.Endings.{has_ended}
use Rattle.fk_model.specs.Moves.{Step}
use Rattle.fk_model.specs.Runs.{Event, after}
use Rattle.fk_model.specs.Searches.{depth}
use Rattle.fk_model.specs.Valid.{IsValid}
use Rattle.fk_model.specs.Who.{event_of, named}
use Rattle.fk_model.specs.World.{World}
use Rattle.laws_moves.specs.Whole.Runnable.{has_all_words}
use Rattle.laws_house.specs.Houses.{Job, State, End, machine}
use Rattle.laws_jobs.specs.Machines.{Head, IsReadyAt}
use Rattle.laws_jobs.specs.Machines.Head.{Stops, Asks}
use Rattle.laws_runs.specs.Cores.{Asker, Work, IsReadyBy, job_asks, others_ask, work_asks, work_of}
use Rattle.laws_runs.specs.Cores.Asker.{Nobody, Others}
use Rattle.fk_jobs.specs.Jobs.{Queue, asked_by, call_at, current, first_of, grows, grows_by, state_from, state_of}
use Rattle.fk_jobs.specs.Turns.{core_of}
use Rattle.fk_core.specs.Rounds.Events.{is_who, step_of, IsReadyEvent}
use Rattle.fk_core.specs.Rounds.Kernels.{Kept}
use Rattle.fk_core.specs.Rounds.Kernels.{path_of as path}
use Rattle.fk_core.specs.Rounds.Kernels.{world_of as world}
use Rattle.fk_core.specs.Rounds.Served.{Services, asked, some_told}
use Rattle.fk_plans.specs.Plans.Hearers.{says_to, says_to_who}
use Rattle.fk_store.specs.Store.Moves.{said_by}
use Rattle.fk_served.proofs.Growing.{told-same}
use Rattle.fk_core.specs.Rounds.Tolds.{Told}
use Rattle.fk_core.specs.Rounds.Tried.{tried_of}
use Rattle.fk_core.specs.Cores.Cores.{RunCore, house, core_at, is_porter, IsAskedMove, IsCalledMove, IsTried}
use Rattle.fk_core.specs.Cores.Memory.{IsStill, does_lack, may_lack, may_lack_by, may_lack_asked, may_lack_call, may_lack_called}
use Rattle.fk_core.proofs.InRounds.Asking.{as_job, as_other}

-- ---- answers

-- what lacks memory only where it may
pub lacks-unless : {A E : Type 0} (r : Result A E) (b : Bool) → (b ≡ false → IsOk r) → OnErr r (b ≡ true)
lacks-unless (Ok a) b done = tt
lacks-unless (Err e) true done = refl
lacks-unless (Err e) false done = absurd (let is = done refl in cc)

-- the same of a call whose answer is laid into a room, whatever the room holds
pub lacks_tried : {E : Type 0} (r : Result Bool E) (told room : Told) (b : Bool) → (b ≡ false → IsOk (tried_of r room)) → OnErr (tried_of r told) (b ≡ true)
lacks_tried (Ok made) told room b done = tt
lacks_tried (Err e) told room true done = refl
lacks_tried (Err e) told room false done = absurd (let is = done refl in cc)

-- a move that isn't made, since it isn't ready or lacks memory
pub tried-unmade : {E : Type 0} (r : Result Bool E) (b : Bool) (ready lacks : Type 0) (jobs : List Job) (c : RunCore) (m : Move) (d : RunCore) →
    OnErr r (b ≡ true) → IfOk r (λ made. (made ≡ false) × (b ≡ false)) → (IsTrue b ↔ ready) → lacks → d ≡ c → IsTried ready lacks jobs c m d r
tried-unmade (Ok true) b ready lacks jobs c m d err ok iff lack same = absurd (let nay = ok.0 in cc)
tried-unmade (Ok false) b ready lacks jobs c m d err ok iff lack same = (λ is. (let yes = iff.1 is in let nay = ok.1 in cc), same)
tried-unmade (Err e) b ready lacks jobs c m d err ok iff lack same = (iff.0 err, lack, same)

pub same_core : (m n : Kept) (services new : Services) (q r : Queue) (events later : ℕ) → n ≡ m → new ≡ services → r ≡ q → later ≡ events →
    core_at n new r later ≡ core_at m services q events
same_core m n services new q r events later kernel list queue count = λ i. core_at (kernel i) (list i) (queue i) (count i)

pub or-right : (a b : Bool) → b ≡ true → (a || b) ≡ true
or-right true b is = refl
or-right false b is = is

pub or-left : (a b : Bool) → a ≡ true → (a || b) ≡ true
or-left true b is = refl
or-left false b is = absurd (cc)

-- where no server grows by a move that was made, none grows by what was told of it
pub still-told : (m n : Kept) (e : Event) (said : says_of.Said) (ended : Option Who) (services : Services) → IsReadyEvent (world m) e →
    step_of (world m) e ≡ record { world = world n; said = said_by (path n) said } →
    ((port : Who) → has_ended (world m) (world n) (named (world m) port) ≡ is_who ended port) →
    ((port : Who) → says_to (step_of (world m) e).said (named (world m) port) ≡ says_to_who said port) →
    IsValid (world n) → (world n).next ≤ depth → IsStill (world m) e services → some_told said ended services ≡ false
still-told m n e said ended services ready made ends tells valid few still =
    let goes : after (world m) e ≡ world n = ap (λ (t : Step). t.world) made in
    sym (told-same m n e said ended made ends tells services)
    ∙ still ready (subst IsValid (sym goes) valid) (subst (λ (w : World). w.next ≤ depth) (sym goes) few)

-- ---- who asks

lack_head : (c : RunCore) (m : Move) (begun : ℕ) (s : State) (ask : Ask) (h : Head End) → call_at h ≡ Some ask →
    may_lack_by c m (job_asks begun s h) ≡ (grows s || does_lack c (event_of c.world ask m))
lack_head c m begun s ask (Stops end) is = absurd (cc)
lack_head c m begun s ask (Asks stage words) is =
    let same : asks.Call stage words ≡ ask = cc in ap (λ a. grows s || does_lack c (event_of c.world a m)) same

lack_work : (c : RunCore) (m : Move) (events : ℕ) (ask : Ask) (work : Option (Work State)) (first : Option State) →
    asked_by (state_from work first) ≡ Some ask →
    may_lack_by c m (work_asks machine (work_of events work first)) ≡ (grows_by (state_from work first) || does_lack c (event_of c.world ask m))
lack_work c m events ask (Some k) first is = lack_head c m k.begun k.state ask (machine.head k.state) is
lack_work c m events ask None None is = absurd (cc)
lack_work c m events ask None (Some s) is = lack_head c m events s ask (machine.head s) is

module _ (q : Queue) (w : World) (services : Services) (events : ℕ) where
  -- a user or a server
  pub lacks_other : (m : Move) → is_porter q m.who ≡ false → may_lack_asked (core_of w services q events) m ≡ true →
      may_lack q.jobs (core_of w services q events) m ≡ true
  lacks_other m other lacks = ap (may_lack_by (core_of w services q events) m) (as_other q w services events m.who other) ∙ lacks

  -- a job
  pub lacks_called : (m : Move) → is_porter q m.who ≡ true → may_lack_called q (core_of w services q events) m ≡ true →
      may_lack q.jobs (core_of w services q events) m ≡ true
  lacks_called m is lacks = by (asked_by (state_of q)) refl lacks
    where
      by : (o : Option Ask) → asked_by (state_of q) ≡ o → may_lack_call q (core_of w services q events) m o ≡ true →
          may_lack q.jobs (core_of w services q events) m ≡ true
      by None e lacks = absurd (cc)
      by (Some ask) e lacks =
          ap (may_lack_by (core_of w services q events) m) (as_job q w services events m.who is)
          ∙ (lack_work (core_of w services q events) m events ask q.work (first_of q.ends (current q)) e ∙ lacks)

  -- what a user or a server asks for whose words are words
  others-as : (who : Who) (ask : Ask) → asked services w who ≡ Some ask → has_all_words ask ≡ true →
      ◌≡◌ {A = Asker State} (others_ask (asked services w who)) (Others ask)
  others-as who ask is words = ap others_ask is ∙ ap (λ (b : Bool). if b then Others ask else Nobody) words

  pub asked-iff : (m : Move) (ask : Ask) → asked services w m.who ≡ Some ask → has_all_words ask ≡ true → (b : Bool) →
      (IsTrue b ↔ IsReadyAt w (event_of w ask m)) → IsTrue b ↔ IsAskedMove q.jobs (core_of w services q events) m
  asked-iff m ask is words b iff = subst (λ (T : Type 0). IsTrue b ↔ T)
      (sym (ap (IsReadyBy (house q.jobs) (core_of w services q events) m) (others-as m.who ask is words))) iff

  pub asked-lacks : (m : Move) (ask : Ask) → asked services w m.who ≡ Some ask → has_all_words ask ≡ true →
      does_lack (core_of w services q events) (event_of w ask m) ≡ true → may_lack_asked (core_of w services q events) m ≡ true
  asked-lacks m ask is words lacks = ap (may_lack_by (core_of w services q events) m) (others-as m.who ask is words) ∙ lacks

  -- what a job asks for
  pub called-iff : (m : Move) (ask : Ask) → asked_by (state_of q) ≡ Some ask → (b : Bool) →
      (IsTrue b ↔ IsReadyAt w (event_of w ask m)) → IsTrue b ↔ IsCalledMove q (core_of w services q events) m
  called-iff m ask is b iff = rw is iff

  pub called-lacks : (m : Move) (ask : Ask) → asked_by (state_of q) ≡ Some ask →
      may_lack_call q (core_of w services q events) m (Some ask) ≡ true → may_lack_called q (core_of w services q events) m ≡ true
  called-lacks m ask is lacks = ap (may_lack_call q (core_of w services q events) m) is ∙ lacks
