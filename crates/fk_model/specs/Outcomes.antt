-- Outcomes: what a stage, an instruction or a native act comes to.
use Rattle.std.specs.Prelude.{ℕ, Bool, List, [], ◌∷◌, ◌++◌, take, Option, Some, None, Result, Ok, Err, if◌then◌else◌}
use Rattle.fk_model.specs.declared.limits.TheConstants.{LAST_USER_SLOT, LAST_PORTER_SLOT}
use Rattle.fk_model.specs.declared.moves.Answer.{Answer}
use Rattle.fk_model.specs.declared.statuses.status.TheConstants.{OK}
use Rattle.fk_model.specs.declared.thread.Turn.{Turn}
use Rattle.fk_model.specs.Places.{Path, Ptr}
use Rattle.fk_model.specs.World.{Change}
use Rattle.fk_model.specs.World.Change.{Alter}
use Rattle.fk_model.specs.World.Edit.{Finish, End}

-- what a move tells: to a porter its answer, to a native server what happened in the talk at its port
pub data Said : Type 0 where
  Nothing : Said
  Answered : (status : ℕ) (words : List ℕ) → Said
  Taken : (port : Ptr) (client : Path) (resumed : Bool) (turn : Turn) (moved : ℕ) → Said
  Words : (port : Ptr) (words : List ℕ) → Said
  Given : (port : Ptr) (count : ℕ) → Said
  Full : (port : Ptr) → Said
  Passed : (port : Ptr) → Said
  Ended : (port : Ptr) → Said

-- what a stage, an instruction or an act comes to
pub data Outcome : Type 0 where
  -- it is refused at once, with this status
  Refused : (status : ℕ) → Outcome
  -- it isn't ready
  Waits : Outcome
  -- it is ready where the freezing rule allows these changes, and then makes them, one after another
  Goes : (changes : List Change) (said : Said) → Outcome

-- ---- a row is a list of checks and then what it does

infixl 10 ◌>>=◌
abbrev pub ◌>>=◌ : {A : Type 0} → Result A ℕ → (A → Outcome) → Outcome
(Ok a) >>= go = go a
(Err status) >>= go = Refused status

-- refused with this status where the test holds
abbrev pub refuse : ℕ → Bool → Result (Unit {0}) ℕ
refuse status test = if test then Err status else Ok tt

abbrev pub or_refuse : {A : Type 0} → ℕ → Option A → Result A ℕ
or_refuse status None = Err status
or_refuse status (Some a) = Ok a

-- it isn't ready unless the test holds
abbrev pub when : Bool → Outcome → Outcome
when test outcome = if test then outcome else Waits

-- ---- who makes a call

-- a thread in a slot of a space. A porter is no user: it gives and gets words directly, and answers in place of its registers
pub record Caller : Type 0 where
  pub space : Path
  pub slot : ℕ
  pub is_porter : Bool
  -- what a porter gives
  pub words : List ℕ

abbrev pub path_of : Caller → Path
path_of c = c.slot ∷ c.space

-- the last slot that the caller can name
abbrev pub last_slot : Caller → ℕ
last_slot c = if c.is_porter then LAST_PORTER_SLOT else LAST_USER_SLOT

-- ---- how a stage ends

-- its stage is done, with these answers. The caller's own part comes last
abbrev pub done_at : Path → Caller → List Change → List ℕ → Outcome
done_at me c changes answers =
    if c.is_porter then Goes changes (Answered OK answers) else Goes (changes ++ Alter me (Finish answers) ∷ []) Nothing

-- a stage is done, with these changes and answers
abbrev pub done : Caller → List Change → List ℕ → Outcome
done c changes answers = done_at (path_of c) c changes answers

-- its stage is done and its whole call ends with it, with these answers
abbrev pub ended : Caller → List Change → List ℕ → Outcome
ended c changes answers =
    if c.is_porter then Goes changes (Answered OK answers) else Goes (changes ++ Alter (path_of c) (End OK answers) ∷ []) Nothing

-- the caller stays at its stage
abbrev pub stays : Caller → List Change → Outcome
stays c changes = Goes changes (if c.is_porter then Answered OK [] else Nothing)

-- a native server is told besides. A porter hears its own answer alone
abbrev pub telling : Said → Outcome → Outcome
telling said (Goes changes Nothing) = Goes changes said
telling said other = other

-- the changes that the row of a move lists
abbrev pub listed : Outcome → List Change
listed (Goes changes said) = changes
listed (Refused status) = []
listed Waits = []

-- ---- answers in code

-- the words of an answer
abbrev pub answered : Answer → List ℕ
answered a = take a.len a.words
