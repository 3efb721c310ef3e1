-- Proceeding: an instruction is a turn, and one move after another.
use Rattle.std.proofs.Common.{◌≡◌, ℕ, ◌+◌, ◌<◌, Bool, true, false, not, length, map, is_some, Option, Some, None, refl, sym, ap, ◌∙◌}
use Rattle.std.specs.List.{slice_get}
use Rattle.std.specs.Option.{option_map}
use Rattle.fk_model.specs.declared.moves.Ask.TheVariants as asks
use Rattle.fk_model.specs.declared.moves.Move.{Move}
use Rattle.fk_model.specs.declared.moves.Said as says_of
use Rattle.fk_model.specs.declared.moves.Said.TheVariants as says
use Rattle.fk_model.specs.declared.names.Who.{Who}
use Rattle.fk_model.specs.Endings.{has_ended}
use Rattle.fk_model.specs.Moves.{Step}
use Rattle.fk_model.specs.Outcomes.Said.{Nothing}
use Rattle.fk_model.specs.Who.{named, event_of}
use Rattle.fk_core.specs.Rounds.Kernels.{Kept}
use Rattle.fk_store.specs.Store.Moves.{said_by}
use Rattle.fk_core.specs.Rounds.Kernels.{path_of as path}
use Rattle.fk_core.specs.Rounds.Kernels.{world_of as world}
use Rattle.laws_runs.specs.Cores.{Settles}
use Rattle.laws_runs.specs.Cores.Settles.{Stays}
use Rattle.fk_jobs.specs.Jobs.{Queue, current}
use Rattle.fk_core.specs.Rounds.Events.{IsReadyEvent, is_who, step_of}
use Rattle.fk_plans.specs.Plans.Hearers.{says_to, says_to_who}
use Rattle.fk_core.specs.Rounds.Served.{Services, told}
use Rattle.fk_core.specs.Cores.Cores.{RunCore, house, core_at, porter_of, is_porter, IsAdvanced}
use Rattle.fk_core.proofs.InRounds.Acts.{runs}
use Rattle.fk_core.proofs.InRounds.Asking.{asks_other, others_ready}
use Rattle.fk_core.proofs.InRounds.Lists.{untold}
use Rattle.fk_core.proofs.InCores.Turning.{turned}

-- a move of a user that tells this, and ends no talk with a native server
pub spoken_by : (m n : Kept) (services new : Services) (q : Queue) (budget events : ℕ) (who : Who) (pick : Option Who) (said : says_of.Said) (d : RunCore) →
    events < budget → is_porter q who ≡ false →
    IsReadyEvent (world m) (event_of (world m) asks.Run (record { who = who; pick = pick }))
    × (step_of (world m) (event_of (world m) asks.Run (record { who = who; pick = pick })) ≡ record { world = world n; said = said_by (path n) said }) →
    ((port : Who) → has_ended (world m) (world n) (named (world m) port) ≡ false) →
    ((port : Who) → says_to (step_of (world m) (event_of (world m) asks.Run (record { who = who; pick = pick }))).said (named (world m) port)
    ≡ says_to_who said port) →
    new ≡ map (told said None) services →
    Settles (house q.jobs) (core_at n new q (events + 1)) d → d.events ≡ events + 1 →
    IsAdvanced q.jobs budget (core_at m services q events) (Some (record { who = who; pick = pick })) d
spoken_by m n services new q budget events who pick said d few other made ends tells heard settles count =
    let mv : Move = record { who = who; pick = pick } in
    let as_others = asks_other q (world m) services events who asks.Run other
    (runs services (world m) who (option_map (named (world m)) pick) made.0) refl in (
      few,
      others_ready q (world m) services events mv (asks.Run, as_others, made.0),
      turned m n services new q events mv asks.Run said None d as_others made.1 ends tells heard settles,
      count,
    )

-- the same of its next stage, which picks nobody
pub spoken : (m n : Kept) (services new : Services) (q : Queue) (budget events : ℕ) (who : Who) (said : says_of.Said) (d : RunCore) →
    events < budget → is_porter q who ≡ false →
    IsReadyEvent (world m) (event_of (world m) asks.Run (record { who = who; pick = None }))
    × (step_of (world m) (event_of (world m) asks.Run (record { who = who; pick = None })) ≡ record { world = world n; said = said_by (path n) said }) →
    ((port : Who) → has_ended (world m) (world n) (named (world m) port) ≡ false) →
    ((port : Who) → says_to (step_of (world m) (event_of (world m) asks.Run (record { who = who; pick = None }))).said (named (world m) port)
    ≡ says_to_who said port) →
    new ≡ map (told said None) services →
    Settles (house q.jobs) (core_at n new q (events + 1)) d → d.events ≡ events + 1 →
    IsAdvanced q.jobs budget (core_at m services q events) (Some (record { who = who; pick = None })) d
spoken m n services new q budget events who said d few other made ends tells heard settles count =
    spoken_by m n services new q budget events who None said d few other made ends tells heard settles count

-- a move that tells nothing
pub proceeded_by : (m n : Kept) (services : Services) (q : Queue) (budget events : ℕ) (who : Who) (pick : Option Who) (d : RunCore) → events < budget →
    is_porter q who ≡ false →
    IsReadyEvent (world m) (event_of (world m) asks.Run (record { who = who; pick = pick }))
    × (step_of (world m) (event_of (world m) asks.Run (record { who = who; pick = pick })) ≡ record { world = world n; said = Nothing }) →
    ((port : Who) → has_ended (world m) (world n) (named (world m) port) ≡ false) →
    Settles (house q.jobs) (core_at n services q (events + 1)) d → d.events ≡ events + 1 →
    IsAdvanced q.jobs budget (core_at m services q events) (Some (record { who = who; pick = pick })) d
proceeded_by m n services q budget events who pick d few other made ends settles count =
    spoken_by m n services services q budget events who pick says.Nothing d few other made ends tells (untold says.Nothing None (λ who. refl) services)
    settles count
  where
    tells : (port : Who) → says_to (step_of (world m) (event_of (world m) asks.Run (record { who = who; pick = pick }))).said (named (world m) port)
        ≡ says_to_who says.Nothing port
    tells port = ap (λ (s : Step). says_to s.said (named (world m) port)) made.1

pub proceeded : (m n : Kept) (services : Services) (q : Queue) (budget events : ℕ) (who : Who) (d : RunCore) → events < budget → is_porter q who ≡ false →
    IsReadyEvent (world m) (event_of (world m) asks.Run (record { who = who; pick = None }))
    × (step_of (world m) (event_of (world m) asks.Run (record { who = who; pick = None })) ≡ record { world = world n; said = Nothing }) →
    ((port : Who) → has_ended (world m) (world n) (named (world m) port) ≡ false) →
    Settles (house q.jobs) (core_at n services q (events + 1)) d → d.events ≡ events + 1 →
    IsAdvanced q.jobs budget (core_at m services q events) (Some (record { who = who; pick = None })) d
proceeded m n services q budget events who d few other made ends settles count =
    proceeded_by m n services q budget events who None d few other made ends settles count

-- where no job is left nothing settles
pub none-left : (q : Queue) (c : RunCore) → c.ends ≡ q.ends → current q ≡ None → Settles (house q.jobs) c c
none-left q c same none = Stays c (λ why ends. let over : Some ends.job ≡ None = sym ends.its ∙ ap (λ e. slice_get q.jobs (length e)) same ∙ none in
    absurd (cc))

pub no-porter : (q : Queue) (who : Who) → current q ≡ None → is_porter q who ≡ false
no-porter q who none = ap (λ o. is_who (porter_of o) who) none

-- where nothing is planned of a job, nothing is asked of it
pub none-asked : {A B : Type 0} (f : A → B) (o : Option A) (is_none : Bool) → is_some o ≡ not is_none → is_none ≡ true → option_map f o ≡ None
none-asked f None is_none is so = refl
none-asked f (Some a) true is so = absurd (cc)
none-asked f (Some a) false is so = absurd (cc)

-- a move that picks nobody
pub unpicked : (who : Who) (pick : Option Who) → is_some pick ≡ false → ◌≡◌ {A = Move} (record { who = who; pick = None }) (record { who = who; pick = pick })
unpicked who None none = refl
unpicked who (Some other) none = absurd (cc)
