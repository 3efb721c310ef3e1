-- Tried: what comes of a move that is made where it is ready.
use Rattle.std.specs.Prelude.{◌≡◌, Bool, true, false, Option, Some, None, Result, Ok, Err, IfSome, IfNone, option_map}
use Rattle.fk_model.specs.declared.moves.Ask.{Ask}
use Rattle.fk_model.specs.declared.moves.Move.{Move}
use Rattle.fk_model.specs.declared.names.Who.{Who}
use Rattle.fk_model.specs.Moves.{Step, step}
use Rattle.fk_plans.specs.Plans.Hearers.{to_servers, IsHeard, IsPadded}
use Rattle.fk_store.specs.Store.Moves.{picked_by, said_by}
use Rattle.fk_store.specs.Store.Named.{Each}
use Rattle.fk_store.specs.Store.Paths.{path, place, HasOwnPath}
use Rattle.fk_store.specs.Store.World.{world}
use Rattle.fk_calls.specs.Acts.Clients.{IsEnding}
use Rattle.fk_changes.specs.declared.readers.caller.Caller.{Caller}
use Rattle.fk_store.specs.Store.Contents.{Contents}
use Rattle.fk_plans.specs.declared.wakes.touching.Touched.{Touched}
use Rattle.fk_calls.specs.declared.calls.moves.Told.{Told}
use Rattle.fk_calls.specs.Calls.Judgements.{IsEnded, IsHeardBy, IsReadyMove, IsStepTo, TellsTouched}

-- where it is made it was ready, and is the machine's step to what the store holds then and to what is told
abbrev pub IsMade : Contents → Move → Ask → Contents → Option Told → Type 0
IsMade m move ask n tried = IfSome tried (λ told. IsReadyMove m move ask × IsStepTo m move ask n told.said)

-- the native server of the port that is told of has lost its client, and no other has
abbrev pub HasEnded : Contents → Contents → Option Told → Type 0
HasEnded m n tried = IfSome tried (λ told. IsEnded m n told.ended)

-- who hears what is told by its path hears it by its name
abbrev pub IsTold : Contents → Contents → Option Told → Type 0
IsTold m n tried = IfSome tried (λ told. IsHeardBy m n told.said)

-- what is told has zeros past its length
abbrev pub IsToldPadded : Option Told → Type 0
IsToldPadded tried = IfSome tried (λ told. IsPadded told.said)

-- where it is made, what it touched is told
abbrev pub TellsOf : Contents → Move → Ask → Touched → Option Told → Type 0
TellsOf m move ask touched tried = IfSome tried (λ told. TellsTouched m move ask touched)

-- where it isn't made it isn't ready, and all is as it was
abbrev pub IsUnready : Contents → Move → Ask → Contents → Option Told → Type 0
IsUnready m move ask n tried = IfNone tried ((IsReadyMove m move ask → ⊥) × (n ≡ m))

-- it is ready, but lacks memory, and all is as it was
abbrev pub IsLacking : Contents → Move → Ask → Contents → Type 0
IsLacking m move ask n = IsReadyMove m move ask × (n ≡ m)

-- the same, where it is answered whether it was made, and what it tells is laid into a room
abbrev pub tried_if : Bool → Told → Option Told
tried_if true told = Some told
tried_if false told = None

-- what came of a move that may not have been made
abbrev pub tried_of : {E : Type 0} → Result Bool E → Told → Result (Option Told) E
tried_of (Ok made) told = Ok (tried_if made told)
tried_of (Err lacking) told = Err lacking

-- a porter that makes a stage
abbrev pub porter : Who → Caller
porter who = record { who = who; is_porter = true }

-- the machine's step by a move
abbrev pub step_by : Contents → Move → Ask → Step
step_by m move ask = step (world m) (place (path m) move.who) (picked_by (path m) move.pick) ask

-- what a move would tell native servers, as they are named before it, and the port whose server would lose its client by it
pub record Foretells (m : Contents) (move : Move) (ask : Ask) (told : Told) : Type 0 where
  pub said : to_servers (step_by m move ask).said ≡ to_servers (said_by (path m) told.said)
  pub heard : IsHeard (path m) (said_by (path m) told.said) told.said
  pub ending : IsEnding (world m) (step_by m move ask).world (option_map (place (path m)) told.ended)
  pub apart : Each (HasOwnPath (path m)) told.ended
