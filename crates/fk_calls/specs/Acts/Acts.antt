-- Acts: what an act of a native server comes to.
use Rattle.std.specs.Prelude.{◌≡◌, ◌≤◌, ◌+◌, ℕ, Bool, true, false, not, List, [], ◌∷◌, take, length, Option, Some, None, IsSome, ⊤}
use Rattle.fk_model.specs.declared.moves.Ask.{Ask}
use Rattle.fk_model.specs.declared.moves.Ask.TheVariants as asks
use Rattle.fk_model.specs.declared.names.Who.{Who}
use Rattle.fk_model.specs.declared.statuses.status.TheConstants.{FULL}
use Rattle.fk_model.specs.declared.thread.Turn.TheVariants as turns
use Rattle.fk_model.specs.Holds.{is_frozen_for}
use Rattle.fk_model.specs.LinkRows.{is_parked, new_talk}
use Rattle.fk_model.specs.NativeRows.{is_serving_port}
use Rattle.fk_model.specs.Objects.{Talk, holds}
use Rattle.fk_model.specs.Objects.Peer.{Service}
use Rattle.fk_model.specs.Outcomes.{Said, Outcome}
use Rattle.fk_model.specs.Outcomes.Outcome.{Waits, Goes}
use Rattle.fk_model.specs.Outcomes.Said.{Taken, Given, Full, Passed}
use Rattle.fk_model.specs.Places.{Path}
use Rattle.fk_model.specs.Places.Ptr.{At}
use Rattle.fk_model.specs.Reach.{words_at}
use Rattle.fk_model.specs.Searches.{talk_at}
use Rattle.fk_model.specs.TransferRows.{overwritten}
use Rattle.fk_model.specs.Valid.{birth_at}
use Rattle.fk_model.specs.World.{World, Change}
use Rattle.fk_model.specs.World.Change.{Alter, PutPage}
use Rattle.fk_model.specs.World.Edit.{CountMoved, End, Finish, PassTurn, SetPeer, SetTalk, Shift}
use Rattle.fk_store.specs.Store.Contents.{Contents}
use Rattle.fk_store.specs.Store.Paths.{path, place}
use Rattle.fk_store.specs.Store.Threads.{is_free_at, todo_at}
use Rattle.fk_store.specs.Store.World.{world, IsLive}
use Rattle.fk_changes.specs.Threads.Shifted.{address_of, IsLow}
use Rattle.fk_changes.specs.Threads.Answers.{came_answers}
use Rattle.fk_calls.specs.declared.acts.act.Act.{Act}
use Rattle.fk_calls.specs.declared.acts.act.Act.TheVariants as acts
pub use Rattle.fk_model.specs.Moves.{is_act}

-- the words that a server gives
abbrev pub words_of : Ask → List ℕ
words_of (asks.Give words len) = take len words
words_of other = []

-- the changes that an act of a port's server makes, where it gives these words
abbrev pub changes_of : World → (ℕ → Path) → Who → List ℕ → Act → List Change
changes_of w p port words (acts.Takes client) =
    Alter (place p client) (SetTalk (Some (new_talk (At (place p port)) Service))) ∷ Alter (place p client) (Finish []) ∷ []
changes_of w p port words (acts.Resumes client turn moved) = Alter (place p client) (SetPeer Service) ∷ []
changes_of w p port words acts.GivesNothing = []
changes_of w p port words (acts.Gives client to into count) =
    PutPage (p to.0) to.1 (overwritten (words_at w (p to.0) to.1) into (take count words))
    ∷ Alter (place p client) (CountMoved count)
    ∷ Alter (place p client) (Shift count)
    ∷ []
changes_of w p port words (acts.Fills client) = Alter (place p client) (End FULL []) ∷ []
changes_of w p port words (acts.Passes client came) = Alter (place p client) (PassTurn turns.Client) ∷ Alter (place p client) (Finish (came_answers came)) ∷ []

-- what it tells
abbrev pub told_of : (ℕ → Path) → Who → Act → Said
told_of p port (acts.Takes client) = Taken (At (place p port)) (place p client) false turns.Client 0
told_of p port (acts.Resumes client turn moved) = Taken (At (place p port)) (place p client) true turn moved
told_of p port acts.GivesNothing = Given (At (place p port)) 0
told_of p port (acts.Gives client to into count) = Given (At (place p port)) count
told_of p port (acts.Fills client) = Full (At (place p port))
told_of p port (acts.Passes client came) = Passed (At (place p port))

-- the outcome that it stands for
abbrev pub outcome_by : World → (ℕ → Path) → Who → List ℕ → Option Act → Outcome
outcome_by w p port words None = Waits
outcome_by w p port words (Some act) = Goes (changes_of w p port words act) (told_of p port act)

-- ---- what is needed to make it

-- so many of the words go to a page that is there, and their receiver counts them
pub record IsGift (w : World) (p : ℕ → Path) (words : List ℕ) (client : Who) (to : ℕ × ℕ) (into count : ℕ) : Type 0 where
  pub few : count ≤ length words
  pub fits : into + count ≤ 64
  pub space : birth_at w (p to.0) ≡ Some to.0
  pub page : IsSome (w.page (p to.0) to.1)
  pub low : IsLow w (place p client) count

-- a free thread; one that begins a talk has none, one that goes on with its talk waits to be taken up
abbrev pub IsFor : World → (ℕ → Path) → List ℕ → Act → Type 0
IsFor w p words (acts.Takes client) = (is_free_at w (place p client) ≡ true) × (talk_at w (place p client) ≡ None)
IsFor w p words (acts.Resumes client turn moved) =
    (is_free_at w (place p client) ≡ true) × (holds (λ (talk : Talk). is_parked (Some talk.peer)) (talk_at w (place p client)) ≡ true)
IsFor w p words acts.GivesNothing = ⊤
IsFor w p words (acts.Gives client to into count) = (is_free_at w (place p client) ≡ true) × IsGift w p words client to into count
IsFor w p words (acts.Fills client) = is_free_at w (place p client) ≡ true
IsFor w p words (acts.Passes client came) = is_free_at w (place p client) ≡ true

-- the act of a port's server that is free
pub record IsAct (m : Contents) (port : Who) (words : List ℕ) (act : Act) : Type 0 where
  pub serving : is_serving_port (world m) (place (path m) port) ≡ true
  pub live : IsLive m port
  pub for_whom : IsFor (world m) (path m) words act

-- ---- the client that a server may give words, or the turn

-- none, or the thread with the address and the room of its Receive
abbrev pub if_client : (ℕ → Path) → (Path → ℕ × ℕ → Outcome) → Option (Who × (ℕ × ℕ)) → Outcome
if_client p go None = Waits
if_client p go (Some found) = go (place p found.0) found.1

-- it is free, and has no higher address in its stage
pub record IsReceiver (w : World) (x : Path) (into : ℕ) : Type 0 where
  pub free : is_free_at w x ≡ true
  pub low : address_of (todo_at w x) ≤ into

-- ---- when it may be made

-- the freezing rule allows it: the page alone into which words go may be frozen, as the port and the client are free
abbrev pub is_act_allowed : World → Path → (ℕ → Path) → Act → Bool
is_act_allowed w me p (acts.Gives client to into count) = not (is_frozen_for w me (p to.0))
is_act_allowed w me p other = true
