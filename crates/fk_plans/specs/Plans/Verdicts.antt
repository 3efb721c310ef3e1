-- Verdicts: the outcome that a verdict stands for, and what a judge promises.
use Rattle.std.specs.Prelude.{◌≡◌, ℕ, Bool, true, false, List, [], ◌∷◌, take, drop, ◌+◌, ◌≤◌, if◌then◌else◌, Option, Some, None, Result, Ok, Err, IfOk, IsSome, ⊤}
use Rattle.fk_model.specs.declared.names.Who.{Who}
use Rattle.fk_model.specs.Holds.{is_frozen_for}
use Rattle.fk_model.specs.Moves.{closed, with_pick}
use Rattle.fk_model.specs.Outcomes as outcomes
use Rattle.fk_model.specs.Outcomes.{Outcome, Said, done, ended, telling}
use Rattle.fk_model.specs.Outcomes.Outcome.{Refused, Waits, Goes}
use Rattle.fk_model.specs.Outcomes.Said.{Nothing, Passed, Ended, Words as Told_words}
use Rattle.fk_model.specs.Places.{Path}
use Rattle.fk_model.specs.Places.Ptr.{At}
use Rattle.fk_model.specs.Reach.{words_at}
use Rattle.fk_model.specs.Readers.{fault_on}
use Rattle.fk_model.specs.SyncRows.{sleepers}
use Rattle.fk_model.specs.World.{World, Change, apply_all}
use Rattle.fk_store.specs.Store.Contents.{Contents}
use Rattle.fk_store.specs.Store.Moves.{picked_by}
use Rattle.fk_store.specs.Store.Paths.{path, place}
use Rattle.fk_store.specs.Store.Threads.{todo_at}
use Rattle.fk_store.specs.Store.World.{world, IsLive}
use Rattle.fk_changes.specs.declared.threads.answers.Answers.{Answers}
use Rattle.fk_changes.specs.Threads.Answers.{all_four, listed, LeaveArguments}
pub use Rattle.fk_changes.specs.Readers.Callers.{mapped}
use Rattle.fk_changes.specs.declared.readers.caller.Caller.{Caller}
use Rattle.fk_plans.specs.declared.plans.plan.Plan.{Plan}
use Rattle.fk_plans.specs.declared.plans.plan.Verdict.{Verdict}
use Rattle.fk_plans.specs.declared.plans.plan.News.{News}
use Rattle.fk_plans.specs.declared.plans.plan.News.TheVariants as news
use Rattle.fk_plans.specs.declared.plans.plan.Words.{Words}
use Rattle.fk_plans.specs.declared.plans.plan.Verdict.TheVariants as verdicts
use Rattle.fk_plans.specs.Plans.Effects.{effect_by, of_running, is_running, registers_there, IsEffect}
use Rattle.fk_plans.specs.Plans.Destroys.{destroyed, IsDying}
use Rattle.fk_plans.specs.Plans.Plans.{caller_by, changes_by, IsGiver, IsPlan, IsSure}
use Rattle.fk_plans.specs.Plans.Recordings.{record_words, IsRecord}
use Rattle.fk_plans.specs.Plans.Renames.{renames, IsMoving}
use Rattle.fk_plans.specs.declared.plans.recording.Record.{Record}
use Rattle.fk_plans.specs.declared.plans.recording.Record.TheVariants as records
use Rattle.fk_changes.specs.Records.Settings.{record_there, sets_at}
use Rattle.fk_model.specs.Searches.{thread_at}

-- what a native server is told of words of a page
abbrev pub words_told : World → (ℕ → Path) → Words → Said
words_told w p words = Told_words (At (place p words.port)) (take words.count (drop words.at (words_at w (p words.space) words.page)))

-- what a native server is told
abbrev pub news_by : World → (ℕ → Path) → News → Said
news_by w p (news.Words words) = words_told w p words
news_by w p (news.Passed port) = Passed (At (place p port))
news_by w p (news.Ended port) = Ended (At (place p port))

-- at which port
abbrev pub port_of : News → Who
port_of (news.Words words) = words.port
port_of (news.Passed port) = port
port_of (news.Ended port) = port

-- a server that hears it. That its talk has ended it is told otherwise
abbrev pub hearer : News → Option Who
hearer (news.Words words) = Some words.port
hearer (news.Passed port) = Some port
hearer (news.Ended port) = None

-- the same of what a verdict tells
abbrev pub hearer_of : Verdict → Option Who
hearer_of (verdicts.Tells plan news last) = hearer news
hearer_of other = None

-- what a verdict tells a native server
abbrev pub news_in : Verdict → Option News
news_in (verdicts.Tells plan news last) = Some news
news_in other = None

-- and whether the stage is done then
abbrev pub tells : outcomes.Caller → List Change → Said → Bool → Outcome
tells c changes said last = if last then telling said (done c changes []) else Goes changes said

-- the outcome that a verdict on a stage stands for
abbrev pub outcome_by : World → (ℕ → Path) → outcomes.Caller → Verdict → Outcome
outcome_by w p c (verdicts.Runs e) = of_running (effect_by w p (outcomes.path_of c) e) (thread_at w (outcomes.path_of c))
outcome_by w p c (verdicts.Refused status) = Refused status
outcome_by w p c verdicts.Waits = Waits
outcome_by w p c (verdicts.Done plan answers) = done c (changes_by p c.words plan w) (listed answers)
outcome_by w p c (verdicts.Ends plan answers) = ended c (changes_by p c.words plan w) (all_four answers)
outcome_by w p c (verdicts.Shows plan space page) = done c (changes_by p c.words plan w) (words_at w (p space) page)
outcome_by w p c (verdicts.ShowsRecord object) = done c [] (record_there (w.body (place p object)))
outcome_by w p c (verdicts.Sets object from) = done c (sets_at w (p object.space) (place p object) (record_words p c.words from w)) []
outcome_by w p c (verdicts.Renames object slot) = renames c (place p object) slot
outcome_by w p c (verdicts.Destroys object last) = destroyed w c (place p object) last
outcome_by w p c (verdicts.WakesAll cond) = done c (sleepers w c.space cond) []
outcome_by w p c (verdicts.Goes plan) = Goes (changes_by p c.words plan w) Nothing
outcome_by w p c (verdicts.Tells plan news last) = tells c (changes_by p c.words plan w) (news_by w p news) last
outcome_by w p c (verdicts.Faults page write port) = Goes (fault_on (outcomes.path_of c) page write (At (place p port)) ∷ []) Nothing

-- ---- what is needed to carry it out

-- the words lie within a page that is there
abbrev pub AreWords : (ℕ → Path) → World → Words → Type 0
AreWords p w words = (words.at + words.count ≤ 64) × IsSome (w.page (p words.space) words.page)

-- the words that are told are there, and the port is
abbrev pub HasWords : (ℕ → Path) → World → News → Type 0
HasWords p w (news.Words words) = AreWords p w words
HasWords p w other = ⊤

-- what is told to a server is told to one that lives, of words that are there
abbrev pub IsNews : Contents → News → Type 0
IsNews m n = IsLive m (port_of n) × HasWords (path m) (world m) n

-- a plan that a caller can do
abbrev pub IsPlanOf : Contents → Caller → Plan → Type 0
IsPlanOf m c plan = IsGiver c plan × IsPlan (path m) (world m) plan

-- the answers leave the arguments of the caller's later stages, whatever words are given
abbrev pub AreAnswers : Contents → Caller → Plan → Answers → Type 0
AreAnswers m c plan answers = (given : List ℕ) →
    LeaveArguments answers (todo_at (apply_all (changes_by (path m) given plan (world m)) (world m)) (place (path m) c.who))

-- its words are there, and a porter alone gives words
abbrev pub IsRecordOf : Contents → Caller → Record → Type 0
IsRecordOf m c from = IsRecord (path m) (world m) from × (from ≡ records.Given → c.is_porter ≡ true)

-- a user alone has instructions and faults, wakes sleepers, and tells of words, a porter alone gets a page
abbrev pub IsVerdict : Contents → Caller → Verdict → Type 0
IsVerdict m c (verdicts.Runs e) = let thread = thread_at (world m) (place (path m) c.who) in
    (c.is_porter ≡ false) × (is_running thread ≡ true) × IsEffect (path m) (world m) (registers_there thread) e
IsVerdict m c (verdicts.Refused status) = ⊤
IsVerdict m c verdicts.Waits = ⊤
IsVerdict m c (verdicts.Done plan answers) = IsPlanOf m c plan × AreAnswers m c plan answers
IsVerdict m c (verdicts.Ends plan answers) = IsPlanOf m c plan
IsVerdict m c (verdicts.Shows plan space page) = (c.is_porter ≡ true) × IsSome ((world m).page (path m space) page) × IsPlanOf m c plan
IsVerdict m c (verdicts.ShowsRecord object) = c.is_porter ≡ true
IsVerdict m c (verdicts.Sets object from) =
    (is_frozen_for (world m) (place (path m) c.who) (place (path m) object) ≡ false) × IsRecordOf m c from
IsVerdict m c (verdicts.Renames object slot) = IsMoving m object slot
IsVerdict m c (verdicts.Destroys object last) = IsDying m object
IsVerdict m c (verdicts.WakesAll cond) = c.is_porter ≡ false
IsVerdict m c (verdicts.Goes plan) = IsPlanOf m c plan
IsVerdict m c (verdicts.Tells plan news last) = (c.is_porter ≡ false) × IsNews m news × IsPlanOf m c plan
IsVerdict m c (verdicts.Faults page write port) = (c.is_porter ≡ false) × IsLive m port

-- it takes no memory
abbrev pub IsSureVerdict : Verdict → Type 0
IsSureVerdict (verdicts.Done plan answers) = IsSure plan
IsSureVerdict (verdicts.Ends plan answers) = IsSure plan
IsSureVerdict (verdicts.Shows plan space page) = IsSure plan
IsSureVerdict (verdicts.Goes plan) = IsSure plan
IsSureVerdict (verdicts.Tells plan news last) = IsSure plan
IsSureVerdict other = ⊤

-- ---- judges

-- what a judge answers: a status is a refusal
abbrev pub outcome_of : World → (ℕ → Path) → outcomes.Caller → Result Verdict ℕ → Outcome
outcome_of w p c (Ok v) = outcome_by w p c v
outcome_of w p c (Err status) = Refused status

-- the judgement of a stage stands for the outcome of its row, whatever a porter gives, and can be carried out
pub record Judges (m : Contents) (c : Caller) (r : Result Verdict ℕ) (row : World → outcomes.Caller → Outcome) : Type 0 where
  pub outcome : (words : List ℕ) → outcome_of (world m) (path m) (caller_by (path m) c words) r ≡ row (world m) (caller_by (path m) c words)
  pub fits : IfOk r (IsVerdict m c)

-- the same where the judge reads what a porter gives
pub record JudgesGiven (m : Contents) (c : Caller) (given : List ℕ) (r : Result Verdict ℕ) (row : World → outcomes.Caller → Outcome) : Type 0 where
  pub outcome : outcome_of (world m) (path m) (caller_by (path m) c given) r ≡ row (world m) (caller_by (path m) c given)
  pub fits : IfOk r (IsVerdict m c)

-- ---- the move of a caller who is judged so

-- where its stage chooses whom it picks, or doesn't
abbrev pub move_by : Contents → Caller → List ℕ → Bool → Option Who → Verdict → Outcome
move_by m c words chooses pick v =
    let caller = caller_by (path m) c words in
    closed caller (with_pick chooses (picked_by (path m) pick) (outcome_by (world m) (path m) caller v))
