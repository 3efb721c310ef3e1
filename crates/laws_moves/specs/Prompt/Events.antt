-- Events: what the laws of state and holds come to for one move of a machine, as an event.
use Rattle.std.specs.Prelude.{◌≡◌, ℕ, ◌+◌, ◌≤◌, true, List, [], ◌∷◌, None}
use Rattle.fk_model.specs.declared.moves.Ask.TheVariants as asks
use Rattle.fk_model.specs.declared.stage.Stage.{Stage}
use Rattle.fk_model.specs.declared.statuses.status.TheConstants.{OK}
use Rattle.fk_model.specs.declared.stage.Stage.TheVariants.{Destroy, GetState, SetState, SpaceHold}
use Rattle.fk_model.specs.Places.{Path}
use Rattle.fk_model.specs.World.{World, apply}
use Rattle.fk_model.specs.World.Change.{Alter}
use Rattle.fk_model.specs.World.Edit.{Finish}
use Rattle.fk_model.specs.Searches.{depth}
use Rattle.fk_model.specs.Reach.{reach_word}
use Rattle.fk_model.specs.Outcomes.{Said, listed}
use Rattle.fk_model.specs.Outcomes.Said.{Answered}
use Rattle.fk_model.specs.Readers.{space_argument}
use Rattle.fk_model.specs.LinkRows.{user_at}
use Rattle.fk_model.specs.ObjectRows.{destroy}
use Rattle.fk_model.specs.Moves.{IsReady, outcome, step, porter_at}
use Rattle.fk_model.specs.Runs.{Event}
use Rattle.laws_moves.specs.Whole.Runnable.{IsRunnable, IsProper}
use Rattle.laws_moves.specs.Prompt.Callers.{IsUserAt, IsPorterFor, is_done}
use Rattle.laws_moves.specs.Prompt.Correct.{ShowsRecord, AnswersRecord, HasShapes, MeetsItself, GivesItself}
use Rattle.laws_moves.specs.Prompt.Prompt.{is_open, may_hold}
use Rattle.laws_moves.specs.Prompt.Brief.{AreBrief, Destroys}

-- a user moves, and a porter asks for a stage. Neither picks
abbrev pub users_event : Path → ℕ → Event
users_event space slot = record { mover = slot ∷ space; pick = None; ask = asks.Run }

abbrev pub porters_event : Path → ℕ → Stage → List ℕ → Event
porters_event space slot stage words = record { mover = slot ∷ space; pick = None; ask = asks.Call stage words }

-- ---- promptness

-- a free caller gets a state, at an address that no hold of another bars, or holds a space that no hold bars
pub data IsPrompt (w : World) : Event → Type 0 where
  Gets : (space : Path) (slot s x address : ℕ) → IsUserAt w space slot (GetState s x address) →
      is_open w (slot ∷ space) (reach_word w space address true) ≡ true → IsPrompt w (users_event space slot)
  PorterGets : (space : Path) (slot s x address : ℕ) (words : List ℕ) → IsPorterFor w space slot (GetState s x address) →
      IsPrompt w (porters_event space slot (GetState s x address) words)
  Holds : (space : Path) (slot s x : ℕ) → IsUserAt w space slot (SpaceHold s x) →
      may_hold w (user_at (slot ∷ space)) x (space_argument w (user_at (slot ∷ space)) s) ≡ true → IsPrompt w (users_event space slot)
  PorterHolds : (space : Path) (slot s x : ℕ) (words : List ℕ) → IsPorterFor w space slot (SpaceHold s x) →
      may_hold w (porter_at (slot ∷ space) words) x (space_argument w (porter_at (slot ∷ space) words) s) ≡ true →
      IsPrompt w (porters_event space slot (SpaceHold s x) words)

-- such a move is ready
abbrev pub PromptIsReady : Type 0
PromptIsReady = (w : World) (e : Event) → IsPrompt w e → IsReady w e.mover e.pick e.ask

-- ---- correctness and brevity

-- an event leads from one world to another, and tells this: what is got is the record, what is set again changes nothing, a
-- stage of destroy that goes removes one object, all that is done is brief, and pages keep all their words and threads their registers
pub record IsCorrect (w : World) (e : Event) (v : World) (said : Said) : Type 0 where
  pub got : (space : Path) (slot s x address : ℕ) → e ≡ users_event space slot → IsUserAt w space slot (GetState s x address) →
      is_done v (slot ∷ space) ≡ true → ShowsRecord w v (user_at (slot ∷ space)) s x address
  pub answered : (space : Path) (slot s x address : ℕ) (words answer : List ℕ) → e ≡ porters_event space slot (GetState s x address) words →
      IsPorterFor w space slot (GetState s x address) → said ≡ Answered OK answer → AnswersRecord w (porter_at (slot ∷ space) words) s x answer
  pub set : (space : Path) (slot s x address : ℕ) → e ≡ users_event space slot → IsUserAt w space slot (SetState s x address) →
      MeetsItself w (user_at (slot ∷ space)) s x address → is_done v (slot ∷ space) ≡ true → v ≡ apply (Alter (slot ∷ space) (Finish [])) w
  pub given : (space : Path) (slot s x address : ℕ) (words : List ℕ) → e ≡ porters_event space slot (SetState s x address) words →
      IsPorterFor w space slot (SetState s x address) → GivesItself w (porter_at (slot ∷ space) words) s x → said ≡ Answered OK [] → v ≡ w
  pub destroyed : (space : Path) (slot s x : ℕ) → e ≡ users_event space slot → IsUserAt w space slot (Destroy s x) →
      Destroys w v (destroy w (user_at (slot ∷ space)) s x)
  pub removed : (space : Path) (slot s x : ℕ) (words : List ℕ) → e ≡ porters_event space slot (Destroy s x) words →
      IsPorterFor w space slot (Destroy s x) → Destroys w v (destroy w (porter_at (slot ∷ space) words) s x)
  pub brief : AreBrief (listed (outcome w e.mover e.pick e.ask))
  pub runs : IsProper w e → w.next + 1 ≤ depth → IsRunnable v

-- so it is with every step from a runnable world with well shaped threads
abbrev pub StepsAreCorrect : Type 0
StepsAreCorrect = (w : World) (e : Event) → IsRunnable w → HasShapes w →
    IsCorrect w e (step w e.mover e.pick e.ask).world (step w e.mover e.pick e.ask).said
