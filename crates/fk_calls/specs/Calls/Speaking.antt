-- Speaking: a client's stage that tells a native server something, and what came of one.
use Rattle.std.specs.Prelude.{◌≡◌, ℕ, Bool, List, [], ◌∷◌, drop, Option, Some, None, if◌then◌else◌, ⊤}
use Rattle.fk_model.specs.declared.moves.Ask.TheVariants as asks
use Rattle.fk_model.specs.declared.moves.Said.{Said}
use Rattle.fk_model.specs.declared.moves.Said.TheVariants as says
use Rattle.fk_model.specs.declared.names.Who.{Who}
use Rattle.fk_model.specs.declared.thread.Turn.TheVariants as turns
use Rattle.fk_model.specs.Outcomes.{listed}
use Rattle.fk_model.specs.Places.{Path}
use Rattle.fk_model.specs.Reach.{words_at}
use Rattle.fk_model.specs.World.{Change}
use Rattle.fk_model.specs.World.Change.{Alter}
use Rattle.fk_model.specs.World.Edit.{CountMoved, Finish, PassTurn, Shift}
use Rattle.fk_plans.specs.declared.wakes.touching.Touched.{Touched}
use Rattle.fk_plans.specs.declared.wakes.touching.Touched.TheVariants.{Few}
use Rattle.fk_plans.specs.Plans.Verdicts.{AreWords}
use Rattle.fk_store.specs.Store.Contents.{Contents}
use Rattle.fk_store.specs.Store.Paths.{path, place}
use Rattle.fk_store.specs.Store.World.{world}
pub use Rattle.fk_transfer.specs.Lines.{IsServed}
use Rattle.fk_transfer.specs.Lines.{over_on, sending}
use Rattle.fk_calls.specs.declared.calls.speaking.Spoken.{Spoken}
use Rattle.fk_calls.specs.declared.calls.speaking.Spoken.TheVariants as spokens
use Rattle.fk_calls.specs.Calls.Goings.{run_of, IsAtOrderly}
use Rattle.fk_calls.specs.Calls.Judgements.{outcome_of, IsEnded, IsHeardBy, IsReadyMove, IsStepTo, TellsTouched}

-- ---- what a server hears

-- what is told, where words stand in a page from a place on
abbrev pub said_of : Contents → Spoken → Said
said_of m (spokens.Words words) = says.Words words.port (drop words.at (words_at (world m) (path m words.space) words.page)) words.count
said_of m (spokens.Over port) = says.Over port

-- they are there
abbrev pub HasSpokenWords : Contents → Spoken → Type 0
HasSpokenWords m (spokens.Words words) = AreWords (path m) (world m) words
HasSpokenWords m (spokens.Over port) = ⊤

-- ---- what a stage did

-- so many words of a thread have moved, and the stage is done with the last of them
abbrev pub told_changes : Path → ℕ → Bool → List Change
told_changes me count last = Alter me (CountMoved count) ∷ Alter me (Shift count) ∷ (if last then Alter me (Finish []) ∷ [] else [])

-- it has handed over its turn
abbrev pub yielded_changes : Path → List Change
yielded_changes me = Alter me (PassTurn turns.Server) ∷ Alter me (Finish []) ∷ []

-- the row of a Send did that
pub record HasTold (m : Contents) (who : Who) : Type 0 where
  pub address : ℕ
  pub count : ℕ
  pub at : IsAtOrderly (world m) (place (path m) who) (sending turns.Client address count)
  pub moved : ℕ
  pub last : Bool
  pub changes : listed (outcome_of m (run_of who) asks.Run) ≡ told_changes (place (path m) who) moved last

-- the row of an Over
pub record HasYielded (m : Contents) (who : Who) : Type 0 where
  pub at : IsAtOrderly (world m) (place (path m) who) (over_on turns.Client)
  pub served : IsServed (world m) (place (path m) who)
  pub changes : listed (outcome_of m (run_of who) asks.Run) ≡ yielded_changes (place (path m) who)

-- what such a stage has done is what its row says
abbrev pub HasSpeech : Contents → Who → Spoken → Type 0
HasSpeech m who (spokens.Words words) = HasTold m who
HasSpeech m who (spokens.Over port) = HasYielded m who

-- and what it changed: its own thread
abbrev pub touched_by : Who → Spoken → Touched
touched_by who (spokens.Words words) = Few (Some who) (Some who) None
touched_by who (spokens.Over port) = Few (Some who) None None

-- ---- what came of one

-- a thread's stage was made, which told this
pub record HasSpoken (m n : Contents) (who : Who) (spoken : Spoken) : Type 0 where
  pub ready : IsReadyMove m (run_of who) asks.Run
  pub step : IsStepTo m (run_of who) asks.Run n (said_of n spoken)
  pub ended : IsEnded m n None
  pub heard : IsHeardBy m n (said_of n spoken)
  pub there : HasSpokenWords n spoken
  pub touched : TellsTouched m (run_of who) asks.Run (touched_by who spoken)
  pub row : HasSpeech m who spoken

-- a look came to this
abbrev pub SpokeTo : Contents → Contents → Who → Option Spoken → Type 0
SpokeTo m n who None = n ≡ m
SpokeTo m n who (Some spoken) = HasSpoken m n who spoken
