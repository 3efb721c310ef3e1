-- A row is a walk through its checks.
use Rattle.std.proofs.Common.{◌≡◌, ℕ, Bool, true, false, if◌then◌else◌, List, [], ◌∷◌, ◌++◌, replicate, ◌==◌, Option, Some, None, Result, Ok, Err, refl}
use Rattle.fk_model.specs.declared.stage.Stage.{Stage}
use Rattle.fk_model.specs.declared.statuses.status.TheConstants.{OK, BADADDRESS, ENDED}
use Rattle.fk_model.specs.Places.{Path, Ptr}
use Rattle.fk_model.specs.World.{World, Change, Edit}
use Rattle.fk_model.specs.World.Change.{Alter, Make, MakeSpace, DropPage}
use Rattle.fk_model.specs.World.Edit.{Finish, End, Replace}
use Rattle.fk_model.specs.Reach.{Reach, reach_word}
use Rattle.fk_model.specs.Reach.Reach.{Home, Missing, Bad}
use Rattle.fk_model.specs.Outcomes.{Said, Outcome, ◌>>=◌, refuse, or_refuse, when, Caller, path_of, done_at, done, ended, telling}
use Rattle.fk_model.specs.Outcomes.Said.{Nothing, Answered}
use Rattle.fk_model.specs.Outcomes.Outcome.{Refused, Waits, Goes}
use Rattle.fk_model.specs.Readers.{missed, own_page_at, own_page, their_page_at, their_page}
use Rattle.fk_model.specs.Places.Ptr.{Null}
use Rattle.fk_model.specs.Objects.Body.{Mutex, Cond, Mapping, Region, Port, Portset, Thread_of, Reference}
use Rattle.fk_model.specs.Objects.Mode.{Running}
use Rattle.fk_model.specs.ObjectRows.{new_object}
use Rattle.fk_model.specs.declared.limits.TheConstants.{SLOTS}
use Rattle.fk_model.specs.declared.stage.Stage.TheVariants.{MutexLock}
use Rattle.fk_model.specs.Searches.{slots}
use Rattle.fk_model.specs.SyncRows.{woken, asleep_on, sleepers}
use Rattle.fk_model.specs.LinkRows.{end_all}
use Rattle.std.specs.List.{flat_map}
use Rattle.laws_moves.specs.Rows.Stages.{Reads, Sets, Work, Own, Step}
use Rattle.laws_moves.specs.Rows.Stages.Work.{Looks, Edits}
use Rattle.laws_moves.specs.Rows.Stages.Own.{Stayed}
use Rattle.laws_moves.specs.Rows.Stages.Step.{Is_refused, Is_waiting, Raises, Answers, Finishes, Ends}

module _ {w : World} {c : Caller} {pick : Option Path} {stage : Stage} where
  -- ---- checks

  pub refused : {status : ℕ} → Step w c pick stage (Refused status)
  refused {status} = Is_refused status

  pub waits : Step w c pick stage Waits
  waits = Is_waiting

  pub step->>= : {A : Type 0} (r : Result A ℕ) (go : A → Outcome) → ((a : A) → r ≡ Ok a → Step w c pick stage (go a)) → Step w c pick stage (r >>= go)
  step->>= (Ok a) go step = step a refl
  step->>= (Err status) go step = Is_refused status

  pub step-refuse : (status : ℕ) (test : Bool) (go : Unit {0} → Outcome) → (test ≡ false → Step w c pick stage (go tt)) →
      Step w c pick stage (refuse status test >>= go)
  step-refuse status true go step = Is_refused status
  step-refuse status false go step = step refl

  pub step-or_refuse : {A : Type 0} (status : ℕ) (o : Option A) (go : A → Outcome) → ((a : A) → o ≡ Some a → Step w c pick stage (go a)) →
      Step w c pick stage (or_refuse status o >>= go)
  step-or_refuse status (Some a) go step = step a refl
  step-or_refuse status None go step = Is_refused status

  pub step-when : (test : Bool) (o : Outcome) → (test ≡ true → Step w c pick stage o) → Step w c pick stage (when test o)
  step-when true o step = step refl
  step-when false o step = Is_waiting

  pub step-if : (t : Bool) (a b : Outcome) → (t ≡ true → Step w c pick stage a) → (t ≡ false → Step w c pick stage b) →
      Step w c pick stage (if t then a else b)
  step-if true a b first second = first refl
  step-if false a b first second = second refl

  -- ---- ends of a stage

  pub step-done_at : (me : Path) (cs : List Change) (answers : List ℕ) → Own c cs me → Work w c pick stage cs answers →
      Step w c pick stage (done_at me c cs answers)
  step-done_at me cs answers own work = by c.is_porter refl
    where
      by : (porter : Bool) → c.is_porter ≡ porter →
          Step w c pick stage (if porter then Goes cs (Answered OK answers) else Goes (cs ++ Alter me (Finish answers) ∷ []) Nothing)
      by true e = Answers cs answers e work
      by false e = Finishes cs answers me Nothing e own work

  pub step-done : (cs : List Change) (answers : List ℕ) → Work w c pick stage cs answers → Step w c pick stage (done c cs answers)
  step-done cs answers work = step-done_at (path_of c) cs answers (Stayed cs) work

  pub step-sets : (x : Path) (edit : Edit) (answers : List ℕ) → Sets w c pick stage x edit answers →
      Step w c pick stage (done c (Alter x edit ∷ []) answers)
  step-sets x edit answers sets = step-done _ answers (Edits stage x edit answers sets)

  pub step-reads : (answers : List ℕ) → Reads w c stage answers → Step w c pick stage (done c [] answers)
  step-reads answers reads = step-done [] answers (Looks stage answers reads)

  pub step-ended : (cs : List Change) (answers : List ℕ) → Work w c pick stage cs answers → Step w c pick stage (ended c cs answers)
  step-ended cs answers work = by c.is_porter refl
    where
      by : (porter : Bool) → c.is_porter ≡ porter →
          Step w c pick stage (if porter then Goes cs (Answered OK answers) else Goes (cs ++ Alter (path_of c) (End OK answers) ∷ []) Nothing)
      by true e = Answers cs answers e work
      by false e = Ends cs answers e work

  -- a native server is told besides
  pub step-told : (said : Said) (cs : List Change) (answers : List ℕ) → Work w c pick stage cs answers →
      Step w c pick stage (telling said (done c cs answers))
  step-told said cs answers work = by c.is_porter refl
    where
      by : (porter : Bool) → c.is_porter ≡ porter → Step w c pick stage (
          telling said (if porter then Goes cs (Answered OK answers) else Goes (cs ++ Alter (path_of c) (Finish answers) ∷ []) Nothing))
      by true e = Answers cs answers e work
      by false e = Finishes cs answers (path_of c) said e (Stayed cs) work

  -- ---- memory

  pub step-own_page : (address : ℕ) (write : Bool) (go : Path → ℕ → Outcome) →
      ((s : Path) (page : ℕ) → reach_word w c.space address write ≡ Home s page → Step w c pick stage (go s page)) →
      Step w c pick stage (own_page w c address write go)
  step-own_page address write go going = by (reach_word w c.space address write) refl
    where
      missing : (s : Path) (page : ℕ) (keeper : Option Ptr) → reach_word w c.space address write ≡ Missing s page keeper →
          Step w c pick stage (missed (Refused BADADDRESS) (path_of c) page write keeper)
      missing s page (Some port) e = Raises s page address write port e
      missing s page None e = Is_refused _

      by : (r : Reach) → reach_word w c.space address write ≡ r → Step w c pick stage (own_page_at (path_of c) write go r)
      by (Home s page) e = going s page e
      by (Missing s page keeper) e = missing s page keeper e
      by Bad e = Is_refused _

  pub step-their_page : (space : Path) (address : ℕ) (go : Path → ℕ → Outcome) →
      ((s : Path) (page : ℕ) → reach_word w space address true ≡ Home s page → Step w c pick stage (go s page)) →
      Step w c pick stage (their_page w space address go)
  step-their_page space address go going = by (reach_word w space address true) refl
    where
      by : (r : Reach) → reach_word w space address true ≡ r → Step w c pick stage (their_page_at go r)
      by (Home s page) e = going s page e
      by (Missing s page keeper) e = Is_waiting
      by Bad e = Is_waiting

  pub ruleset step_row = (step->>=, step-refuse, step-or_refuse, step-when, waits, refused)

-- ---- a new object is one of nine

pub new_all : (P : Change → Type 0) (x : Path) (kind : ℕ) (made : Change) → new_object x kind ≡ Some made →
    P (Make x (Mutex false)) → P (Make x Cond) → P (Make x (Mapping (record { first = 0; count = 1; offset = 0; write = false; region = Null }))) →
    P (Make x (Region (record { first = 0; count = 1; write = false; keeper = Null }))) → P (Make x (Port None false)) → P (Make x Portset) →
    P (MakeSpace x None) →
    P (Make x (Thread_of (record { mode = Running (replicate 16 0); counter = 0; stops = 1; talk = None; fault = None }))) →
    P (Make x (Reference Null)) → P made
new_all P x kind made new mutex condition mapping region port portset space thread reference = all (new_object x kind) (
    pick (kind == 1) _ _ mutex (pick (kind == 2) _ _ condition (pick (kind == 3) _ _ mapping (pick (kind == 4) _ _ region
    (pick (kind == 5) _ _ port (pick (kind == 6) _ _ portset (pick (kind == 7) _ _ space (pick (kind == 8) _ _ thread
    (pick (kind == 9) _ None reference tt))))))))) new
  where
    IfP : Option Change → Type 0
    IfP None = Unit {0}
    IfP (Some change) = P change

    pick : (t : Bool) (change : Change) (rest : Option Change) → P change → IfP rest → IfP (if t then Some change else rest)
    pick true change rest here others = here
    pick false change rest here others = others

    all : (o : Option Change) → IfP o → o ≡ Some made → P made
    all (Some change) its e = let same : change ≡ made = cc in rw (← same) its
    all None its e = cc

-- ---- lists of which the length isn't known, for any predicate of lists

-- a page that may be dropped
pub drops-all : (P : List Change → Type 0) (space : Path) (page : ℕ) → P [] → P (DropPage space page ∷ []) → (drops : Bool) →
    P (if drops then DropPage space page ∷ [] else [])
drops-all P space page nothing one true = one
drops-all P space page nothing one false = nothing

-- threads whose calls end, and what comes behind
pub ends-then : (P : List Change → Type 0) (ds : List Change) → P ds → ((x : Path) (cs : List Change) → P cs → P (Alter x (End ENDED []) ∷ cs)) →
    (ends : List Path) → P (end_all ends ++ ds)
ends-then P ds rest one [] = rest
ends-then P ds rest one (x ∷ ends) = one x (end_all ends ++ ds) (ends-then P ds rest one ends)

pub ends-all : (P : List Change → Type 0) → P [] → ((x : Path) (cs : List Change) → P cs → P (Alter x (End ENDED []) ∷ cs)) →
    (ends : List Path) → P (end_all ends)
ends-all P nothing one [] = nothing
ends-all P nothing one (x ∷ ends) = one x (end_all ends) (ends-all P nothing one ends)

-- sleepers that are woken
module _ (P : List Change → Type 0) (w : World) (space : Path) (cond : ℕ) (nothing : P [])
    (one : (k m : ℕ) (cs : List Change) → asleep_on cond (w.body (k ∷ space)) ≡ Some m → P cs → P (Alter (k ∷ space) (Replace (MutexLock m)) ∷ cs)) where
  woken-then : (k : ℕ) (o : Option ℕ) (cs : List Change) → asleep_on cond (w.body (k ∷ space)) ≡ o → P cs → P (woken (k ∷ space) o ++ cs)
  woken-then k None cs e rest = rest
  woken-then k (Some m) cs e rest = one k m cs e rest

  each : (ks : List ℕ) → P (flat_map (λ k. woken (k ∷ space) (asleep_on cond (w.body (k ∷ space)))) ks)
  each [] = nothing
  each (k ∷ ks) = woken-then k _ _ refl (each ks)

  pub sleepers-all : P (sleepers w space cond)
  unfolding sleepers
  sleepers-all = each (slots SLOTS)
