-- Judgements: the move that a judgement stands for.
use Rattle.std.specs.Prelude.{◌≡◌, ◌||◌, ℕ, Bool, true, false, List, [], length, Option, option_map}
use Rattle.fk_model.specs.declared.moves.Ask.{Ask}
use Rattle.fk_model.specs.declared.moves.Ask.TheVariants as asks
use Rattle.fk_model.specs.declared.moves.Move.{Move}
use Rattle.fk_model.specs.declared.moves.Said.{Said}
use Rattle.fk_model.specs.declared.names.Who.{Who}
use Rattle.fk_model.specs.Moves.{outcome, step, IsReady}
use Rattle.fk_model.specs.Outcomes.{Outcome, listed}
use Rattle.fk_model.specs.Places.{Path, same_path}
use Rattle.fk_model.specs.Searches.{client_at}
use Rattle.fk_model.specs.Valid.{is_fit}
use Rattle.fk_model.specs.World.{World}
use Rattle.fk_store.specs.Store.Contents.{Contents}
use Rattle.fk_store.specs.Store.Moves.{picked_by, said_by}
use Rattle.fk_store.specs.Store.Named.{Each}
use Rattle.fk_store.specs.Store.Paths.{path, place, HasOwnPath}
use Rattle.fk_store.specs.Store.Threads.{is_free_at}
use Rattle.fk_store.specs.Store.World.{world}
use Rattle.fk_plans.specs.declared.plans.plan.Effect.{Effect}
use Rattle.fk_plans.specs.declared.plans.plan.Moving.{Moving}
use Rattle.fk_plans.specs.declared.plans.plan.Verdict.TheVariants as verdicts
use Rattle.fk_plans.specs.Plans.Hearers.{IsHeard}
use Rattle.fk_plans.specs.Plans.Movings.{verdict_of}
use Rattle.fk_plans.specs.Plans.Verdicts.{IsVerdict, IsSureVerdict, move_by}
use Rattle.fk_calls.specs.Acts.Clients.{IsEnding}
use Rattle.fk_plans.specs.declared.wakes.touching.Touched.{Touched}
use Rattle.fk_plans.specs.Wakes.Touches.{is_making, is_touched, leave, MovesFirst}
use Rattle.laws_moves.specs.Machine.Frame.{name_body}
use Rattle.fk_calls.specs.declared.calls.judging.Judgement.{Judgement}
use Rattle.fk_calls.specs.Calls.Rows.{may_want_memory}

-- the words that a porter gives; a user gives none
abbrev pub words_of : Ask → List ℕ
words_of (asks.Call stage words) = words
words_of other = []

-- what a move comes to
abbrev pub outcome_of : Contents → Move → Ask → Outcome
outcome_of m move ask = outcome (world m) (place (path m) move.who) (picked_by (path m) move.pick) ask

-- the move of a free user or porter comes to what this judgement says, which can be carried out, and takes memory only
-- where the move may want it. A porter gives 64 words
pub record IsJudged (m : Contents) (move : Move) (ask : Ask) (j : Judgement) : Type 0 where
  pub mover : j.caller.who ≡ move.who
  pub free : j.caller.is_porter ≡ false → is_free_at (world m) (place (path m) move.who) ≡ true
  pub outcome : outcome_of m move ask ≡ move_by m j.caller (words_of ask) j.chooses move.pick j.verdict
  pub fits : IsVerdict m j.caller j.verdict
  pub sure : may_want_memory (world m) (place (path m) move.who) ask ≡ false → IsSureVerdict j.verdict
  pub given : j.caller.is_porter ≡ true → length (words_of ask) ≡ 64

-- the same of the instruction of a free user that has this effect
abbrev pub IsRun : Contents → Move → Ask → Effect → Type 0
IsRun m move ask e = IsJudged m move ask (record { caller = record { who = move.who; is_porter = false }; chooses = false; verdict = verdicts.Runs e })

-- the same of a stage of a free user that moves these words
abbrev pub IsMoving : Contents → Move → Ask → Moving → Type 0
IsMoving m move ask words =
    IsJudged m move ask (record { caller = record { who = move.who; is_porter = false }; chooses = false; verdict = verdict_of words })

-- ---- what a caller reads

-- a move is ready
abbrev pub IsReadyMove : Contents → Move → Ask → Type 0
IsReadyMove m move ask = IsReady (world m) (place (path m) move.who) (picked_by (path m) move.pick) ask

-- a move is fit
abbrev pub is_fit_move : Contents → Move → Ask → Bool
is_fit_move m move ask = is_fit (world m) (place (path m) move.who) ask

-- the machine's step by a move leads to what a store holds, and tells this
abbrev pub IsStepTo : Contents → Move → Ask → Contents → Said → Type 0
IsStepTo m move ask n said =
    step (world m) (place (path m) move.who) (picked_by (path m) move.pick) ask ≡ record { world = world n; said = said_by (path n) said }

-- from what one store holds to what another does this port's native server has lost its client, and no other has; the port
-- has a path of its own
pub record IsEnded (m n : Contents) (port : Option Who) : Type 0 where
  pub ending : IsEnding (world m) (world n) (option_map (place (path m)) port)
  pub apart : Each (HasOwnPath (path m)) port

-- who hears what a move tells by its path before, hears it by its name
abbrev pub IsHeardBy : Contents → Contents → Said → Type 0
IsHeardBy m n said = IsHeard (path m) (said_by (path n) said) said

-- a move may want memory, for an object or a page
abbrev pub may_lack : Contents → Move → Ask → Bool
may_lack m move ask = may_want_memory (world m) (place (path m) move.who) ask

-- the client of a native server's act: the one that it picks, or has
abbrev pub client_by : World → Path → Option Path → Ask → Option Path
client_by w port pick asks.Accept = pick
client_by w port pick other = client_at w port

-- which objects a move changes besides its mover is told, and what it makes or takes from its place; it makes none where it wants no memory
pub record TellsTouched (m : Contents) (move : Move) (ask : Ask) (touched : Touched) : Type 0 where
  pub names : (x : Path) → name_body (world m) (listed (outcome_of m move ask)) x ≡ true →
      (same_path x (place (path m) move.who) || is_touched (path m) touched x) ≡ true
  pub leaves : leave (path m) touched (listed (outcome_of m move ask)) ≡ true
  pub makes : may_lack m move ask ≡ false → is_making touched ≡ false
  pub moves : MovesFirst (path m) touched (outcome_of m move ask)
