-- Correctness: the state that a thread gets of an object is the object's record, and to set that record again changes
-- nothing.
use Rattle.std.specs.Prelude.{◌≡◌, ℕ, true, false, List, [], ◌∷◌, take, Option, Some, None, Ok}
use Rattle.fk_model.specs.declared.limits.TheConstants.{RECORD_WORDS}
use Rattle.fk_model.specs.declared.stage.Stage.TheVariants.{GetState, SetState}
use Rattle.fk_model.specs.declared.statuses.status.TheConstants.{OK}
use Rattle.fk_model.specs.Places.{Path}
use Rattle.fk_model.specs.Objects.{Body, Thread, thread_of, and_then}
use Rattle.fk_model.specs.World.{World, apply}
use Rattle.fk_model.specs.World.Change.{Alter}
use Rattle.fk_model.specs.World.Edit.{Finish}
use Rattle.fk_model.specs.Reach.{Reach, reach_word, words_at}
use Rattle.fk_model.specs.Reach.Reach.{Home, Missing, Bad}
use Rattle.fk_model.specs.Outcomes.{Caller}
use Rattle.fk_model.specs.Outcomes.Said.{Answered}
use Rattle.fk_model.specs.Readers.{object_in, anything, space_argument}
use Rattle.fk_model.specs.LinkRows.{user_at}
use Rattle.fk_model.specs.Records.{record_of}
use Rattle.fk_model.specs.StateRows.{record_at}
use Rattle.fk_model.specs.Shapes.{IsShapedMode, IsShaped}
use Rattle.fk_model.specs.Moves.{porter_at}
use Rattle.laws_moves.specs.Whole.Runnable.{HasRegisters, IsRunnable}
use Rattle.laws_moves.specs.Prompt.Callers.{IsUserAt, IsPorterFor, users_step, porters_step, is_done}

-- a caller names this object, by a slot of a place
pub record IsNamed (w : World) (c : Caller) (s x : ℕ) (b : Body) : Type 0 where
  pub space : Path
  pub place : space_argument w c s ≡ Ok space
  pub object : object_in w c anything space x ≡ Ok b

-- the words of a record that a thread of a space finds at an address, where it may read there
abbrev pub words_found : World → ℕ → Reach → Option (List ℕ)
words_found w address (Home space page) = Some (record_at (words_at w space page) address)
words_found w address (Missing space page keeper) = None
words_found w address Bad = None

abbrev pub record_found : World → Path → ℕ → Option (List ℕ)
record_found w space address = words_found w address (reach_word w space address false)

-- ---- get_state

-- what a caller finds at its address afterwards is the record of the object that it names, as it was before
pub record ShowsRecord (w v : World) (c : Caller) (s x address : ℕ) : Type 0 where
  pub body : Body
  pub named : IsNamed w c s x body
  pub shown : record_found v c.space address ≡ Some (record_of body)

-- a get_state that is done leaves the record in the caller's memory
abbrev pub GetStateShows : Type 0
GetStateShows = (w : World) (space : Path) (slot s x address : ℕ) → IsRunnable w → IsUserAt w space slot (GetState s x address) →
    is_done (users_step w space slot).world (slot ∷ space) ≡ true →
    ShowsRecord w (users_step w space slot).world (user_at (slot ∷ space)) s x address

-- a porter is answered the record of the object that it names
pub record AnswersRecord (w : World) (c : Caller) (s x : ℕ) (answer : List ℕ) : Type 0 where
  pub body : Body
  pub named : IsNamed w c s x body
  pub answered : answer ≡ record_of body

-- a porter is answered the object's record
abbrev pub GetStateAnswers : Type 0
GetStateAnswers = (w : World) (space : Path) (slot s x address : ℕ) (words answer : List ℕ) →
    IsPorterFor w space slot (GetState s x address) →
    (porters_step w space slot (GetState s x address) words).said ≡ Answered OK answer →
    AnswersRecord w (porter_at (slot ∷ space) words) s x answer

-- ---- set_state

-- a calling thread has the stages of a call before it and the rest beside them, any other 16 registers
abbrev pub HasShapes : World → Type 0
HasShapes w = (x : Path) (t : Thread) → and_then thread_of (w.body x) ≡ Some t → IsShapedMode t.mode

-- a caller names an object, and at its address stands the record that the object shows
pub record MeetsItself (w : World) (c : Caller) (s x address : ℕ) : Type 0 where
  pub body : Body
  pub named : IsNamed w c s x body
  pub held : record_found w c.space address ≡ Some (record_of body)

-- a set_state that is done, of the record that a well shaped object shows, changes nothing but the end of its caller's call
abbrev pub SetStateOfItself : Type 0
SetStateOfItself = (w : World) (space : Path) (slot s x address : ℕ) → HasRegisters w →
    IsUserAt w space slot (SetState s x address) → (meets : MeetsItself w (user_at (slot ∷ space)) s x address) → IsShaped meets.body →
    is_done (users_step w space slot).world (slot ∷ space) ≡ true →
    (users_step w space slot).world ≡ apply (Alter (slot ∷ space) (Finish [])) w

-- a porter gives the record that the object shows
pub record GivesItself (w : World) (c : Caller) (s x : ℕ) : Type 0 where
  pub body : Body
  pub named : IsNamed w c s x body
  pub given : take RECORD_WORDS c.words ≡ record_of body

-- and where it is answered OK nothing is changed
abbrev pub PortersSetStateOfItself : Type 0
PortersSetStateOfItself = (w : World) (space : Path) (slot s x address : ℕ) (words : List ℕ) →
    IsPorterFor w space slot (SetState s x address) → (gives : GivesItself w (porter_at (slot ∷ space) words) s x) → IsShaped gives.body →
    (porters_step w space slot (SetState s x address) words).said ≡ Answered OK [] →
    (porters_step w space slot (SetState s x address) words).world ≡ w
