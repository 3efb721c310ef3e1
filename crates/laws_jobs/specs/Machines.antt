-- Machines over answers: a job as what it asks next, and what it becomes by what it hears. What it asks after the answers so
-- far is a function of these and of its first state.
use Rattle.std.specs.Prelude.{◌≡◌, ℕ, ◌≤◌, zero, suc, false, IsSome, List, [], ◌∷◌, length, replicate, None}
use Rattle.fk_model.specs.declared.limits.TheConstants.{PAGE_WORDS, LAST_PORTER_SLOT}
use Rattle.fk_model.specs.declared.moves.Ask.TheVariants as asks
use Rattle.fk_model.specs.declared.stage.Stage.{Stage}
use Rattle.fk_model.specs.Places.{Path}
use Rattle.fk_model.specs.World.{World}
use Rattle.fk_model.specs.Searches.{depth}
use Rattle.fk_model.specs.Valid.{IsValid}
use Rattle.fk_model.specs.Outcomes.{Said, Caller}
use Rattle.fk_model.specs.Outcomes.Said.{Answered}
use Rattle.fk_model.specs.Moves.{chooses, porter_at, IsReady, step}
use Rattle.fk_model.specs.Runs.{Event, after}
use Rattle.laws_moves.specs.Frozen.Holding.{IsUsersMove}
use Rattle.laws_moves.specs.Whole.Runnable.{IsProper}
use Rattle.laws_moves.specs.Savable.Savable.{Owes, IsSound}

-- a porter's call with the words that it gives, or the end
pub data Head (A : Type 0) : Type 0 where
  Stops : (end : A) → Head A
  Asks : (stage : Stage) (words : List ℕ) → Head A

pub record Machine (S A : Type 0) : Type 0 where
  pub head : S → Head A
  -- by the status and the words of an answer
  pub next : S → ℕ → List ℕ → S

-- an answer, as a porter hears it
pub record Reply : Type 0 where
  pub status : ℕ
  pub words : List ℕ

-- what a move tells its porter. Each call of a porter tells an answer
abbrev pub reply_of : Said → Reply
reply_of (Answered status words) = record { status = status; words = words }
reply_of other = record { status = 0; words = [] }

-- what it becomes by what a move tells
abbrev pub heard : {S A : Type 0} → Machine S A → S → Said → S
heard m s said = m.next s (reply_of said).status (reply_of said).words

-- who makes its calls
abbrev pub porter : Path → List ℕ → Caller
porter nester words = porter_at (LAST_PORTER_SLOT ∷ nester) words

-- what a porter gives with a call that reads nothing of it
abbrev pub no_words : List ℕ
no_words = replicate PAGE_WORDS 0

-- the porter's own event
abbrev pub call_of : Path → Stage → List ℕ → Event
call_of nester stage words = record { mover = LAST_PORTER_SLOT ∷ nester; pick = None; ask = asks.Call stage words }

abbrev pub said_of : World → Event → Said
said_of w e = (step w e.mover e.pick e.ask).said

abbrev pub IsReadyAt : World → Event → Type 0
IsReadyAt w e = IsReady w e.mover e.pick e.ask

-- a call that is made in a sound world, and its answer
pub record IsAnswered (nester : Path) (w : World) (stage : Stage) (words : List ℕ) (reply : Reply) : Type 0 where
  pub valid : IsValid w
  pub few : w.next ≤ depth
  pub ready : IsReadyAt w (call_of nester stage words)
  pub said : reply_of (said_of w (call_of nester stage words)) ≡ reply

-- it has a call to make
abbrev pub IsAtCall : {S A : Type 0} → Machine S A → S → Type 0
IsAtCall m s = (stage : Stage) × (words : List ℕ) × (m.head s ≡ Asks stage words)

-- a list of moves in which the porter makes the calls that its machine asks for, and users and native servers move between
-- them in any way: from a world and a state to a world and a state. Each of its worlds is sound, the last one too; and the list
-- ends where the machine does
pub data Interleaved {S A : Type 0} (m : Machine S A) (nester : Path) : World → S → List Event → World → S → Type 0 where
  Here : (w : World) (s : S) → IsSound w → Interleaved m nester w s [] w s
  Another : (w : World) (s : S) (e : Event) (es : List Event) (v : World) (t : S) → IsSound w → IsAtCall m s → IsUsersMove nester w e →
      Interleaved m nester (after w e) s es v t → Interleaved m nester w s (e ∷ es) v t
  Own : (w : World) (s : S) (stage : Stage) (words : List ℕ) (es : List Event) (v : World) (t : S) → IsSound w → m.head s ≡ Asks stage words →
      IsReadyAt w (call_of nester stage words) →
      Interleaved m nester (after w (call_of nester stage words)) (heard m s (said_of w (call_of nester stage words))) es v t →
      Interleaved m nester w s (call_of nester stage words ∷ es) v t

-- how many of the moves are the porter's
abbrev pub own_moves : {S A : Type 0} {m : Machine S A} {nester : Path} {w : World} {s : S} {es : List Event} {v : World} {t : S} →
    Interleaved m nester w s es v t → ℕ
own_moves (Here w s sound) = zero
own_moves (Another w s e es v t sound works move rest) = own_moves rest
own_moves (Own w s stage words es v t sound asked ready rest) = suc (own_moves rest)

-- the same, begun by a call of the machine's
pub record AtWork {S A : Type 0} (m : Machine S A) (nester : Path) (w : World) (s : S) (v : World) (t : S) : Type 0 where
  pub stage : Stage
  pub words : List ℕ
  pub asked : m.head s ≡ Asks stage words
  pub ready : IsReadyAt w (call_of nester stage words)
  pub events : List Event
  pub run : Interleaved m nester (after w (call_of nester stage words)) (heard m s (said_of w (call_of nester stage words))) events v t

-- its first call counts too
abbrev pub calls_made : {S A : Type 0} {m : Machine S A} {nester : Path} {w : World} {s : S} {v : World} {t : S} → AtWork m nester w s v t → ℕ
calls_made work = suc (own_moves work.run)

-- nothing of a subtree that is seen alone lies deeper: its depth bounds the calls of a job
abbrev pub LiesWithin : World → ℕ → Type 0
LiesWithin c d = (y : Path) → IsSome (c.body y) → length y ≤ d

-- what a call owes to the world in which it is made, so that this can be saved afterwards as before. It picks nobody
pub record IsOwedCall (w : World) (nester : Path) (stage : Stage) (words : List ℕ) : Type 0 where
  pub proper : IsProper w (call_of nester stage words)
  pub owes : Owes w (call_of nester stage words)
  pub unpicking : chooses stage ≡ false

-- ---- an interleaving goes on at its end, by a move of others or by its machine's next call, where what comes of it is sound

-- a job at work goes on with each move of another, where the world after it is sound
abbrev pub GoesOnByOthers : Type 0 → Type 0 → Type 0
GoesOnByOthers S A = (m : Machine S A) (nester : Path) (w : World) (s : S) (v : World) (t : S) (e : Event) → AtWork m nester w s v t → IsAtCall m t →
    IsUsersMove nester v e → IsSound (after v e) → AtWork m nester w s (after v e) t

-- a job at work goes on with its own next call, where the world after it is sound
abbrev pub GoesOnByOwn : Type 0 → Type 0 → Type 0
GoesOnByOwn S A = (m : Machine S A) (nester : Path) (w : World) (s : S) (v : World) (t : S) (stage : Stage) (words : List ℕ) → AtWork m nester w s v t →
    m.head t ≡ Asks stage words → IsReadyAt v (call_of nester stage words) → IsSound (after v (call_of nester stage words)) →
    AtWork m nester w s (after v (call_of nester stage words)) (heard m t (said_of v (call_of nester stage words)))

-- and where it has come to is sound
abbrev pub NowIsSound : Type 0 → Type 0 → Type 0
NowIsSound S A = (m : Machine S A) (nester : Path) (w : World) (s : S) (v : World) (t : S) → AtWork m nester w s v t → IsSound v
