-- Whatever a move lists is brief: by the lists of `rows`.
use Rattle.std.proofs.Common.{ℕ, ◌≤◌, List, [], ◌∷◌, ◌++◌, map, take, length, min, Option, None}
use Rattle.std.proofs.Math.Nat.{min-le_left}
use Rattle.fk_model.specs.declared.limits.TheConstants.{BLOCK_WORDS}
use Rattle.fk_model.specs.declared.moves.Ask.{Ask}
use Rattle.fk_model.specs.declared.stage.Stage.{Stage}
use Rattle.fk_model.specs.Places.{Path}
use Rattle.fk_model.specs.Objects.{Body}
use Rattle.fk_model.specs.Objects.Body.{Mutex, Mapping, Region, Port, Thread_of}
use Rattle.fk_model.specs.World.{World, Change, Edit}
use Rattle.fk_model.specs.World.Change.{Alter, DropPage}
use Rattle.fk_model.specs.World.Edit.{SetTalk}
use Rattle.fk_model.specs.Outcomes.{Outcome, Caller, listed}
use Rattle.fk_model.specs.Records.{set_edits}
use Rattle.fk_model.specs.TransferRows.{to_page_end, moved_words}
use Rattle.laws_moves.specs.Rows.Stages.{Sets, Work, Step}
use Rattle.laws_moves.specs.Rows.Stages.Sets.{Locks}
use Rattle.laws_moves.specs.Rows.Stages.Work.{Looks, Edits, Makes, Kills, Sets_record, Copies, Sleeps, Wakes_all}
use Rattle.laws_moves.specs.Rows.Stages.Work.{Takes_client, Hangs_up, Sends, Sends_service, Passes, Hands_over, Hands_over}
use Rattle.laws_moves.specs.Rows.Stages.Step.{Is_refused, Is_waiting, Raises, Answers, Stays, Finishes, Ends}
use Rattle.laws_moves.specs.Rows.Moves.{Instructs, Serves, Lists}
use Rattle.laws_moves.specs.Rows.Moves.Instructs.{Stores}
use Rattle.laws_moves.specs.Rows.Moves.Serves.{Waits_for_client, Accepts, Takes_up, Gives_nothing, Finds_no_room, Gives_words, Passes_client}
use Rattle.laws_moves.specs.Rows.Moves.Lists.{Moves_not, Runs, Calls, Is_told_no, Asks, Is_answered_no, Acts}
use Rattle.laws_moves.proofs.InRows.Walk.{new_all, drops-all, ends-all, ends-then, sleepers-all}
use Rattle.laws_moves.proofs.InRows.Moves.{moves-listed}
use Rattle.laws_moves.specs.Prompt.Brief.{IsSmallEdit, AreSmall, AreBrief, MovesAreBrief}

-- ---- lists

small-then : (cs ds : List Change) → AreSmall cs → AreSmall ds → AreSmall (cs ++ ds)
small-then [] ds small after = after
small-then (c ∷ cs) ds small after = (small.0, small-then cs ds small.1 after)

brief-small : (cs : List Change) → AreSmall cs → AreBrief cs
brief-small [] small = tt
brief-small (Alter x edit ∷ cs) small = small
brief-small (DropPage space page ∷ cs) small = small.1
brief-small (c ∷ cs) small = absurd small.0

brief-then : (cs ds : List Change) → AreBrief cs → AreSmall ds → AreBrief (cs ++ ds)
brief-then [] ds brief after = brief-small ds after
brief-then (Alter x edit ∷ cs) ds brief after = (brief.0, small-then cs ds brief.1 after)
brief-then (c ∷ cs) ds brief after = small-then cs ds brief after

edits-small : (x : Path) (b : Body) (words : List ℕ) → AreSmall (map (Alter x) (set_edits b words))
edits-small x (Mutex locked) words = (tt, tt)
edits-small x (Mapping m) words = (tt, tt)
edits-small x (Region r) words = (tt, tt)
edits-small x (Port set served) words = (tt, tt)
edits-small x (Thread_of t) words = (tt, (tt, tt))
edits-small x b words = tt

-- a block has at most 64 words
few : (address count into room : ℕ) → moved_words address count into room ≤ BLOCK_WORDS
few address count into room = min-le_left BLOCK_WORDS (min count (min (to_page_end address) (min room (to_page_end into))))

-- ---- by the lists

module _ {w : World} {c : Caller} {pick : Option Path} where
  sets : {stage : Stage} {x : Path} {edit : Edit} {answers : List ℕ} → Sets w c pick stage x edit answers → IsSmallEdit edit
  sets (Locks stage m was locked read) = tt
  sets other = tt

  work : {stage : Stage} {cs : List Change} {answers : List ℕ} → Work w c pick stage cs answers → AreBrief cs
  work (Looks stage answers reads) = tt
  work (Edits stage x edit answers edits) = (sets edits, tt)
  work (Makes s x j kind space made place slot free new empty) = new_all (λ made. AreBrief (made ∷ [])) (x ∷ space) kind made new tt tt tt tt tt tt tt tt tt
  work (Kills s x space b place read free apart leaf) = ends-all AreSmall tt (λ x cs rest. (tt, rest)) _
  work (Sets_record s x address space b words place read free off good source still takes) = brief-small _ (edits-small (x ∷ space) b words)
  work (Copies stage s page address space t own drops words place there home) = drops-all AreSmall space page tt (tt, tt) drops
  work (Wakes_all cond) = brief-small _ (sleepers-all AreSmall w c.space cond tt (λ x m cs asleep rest. (tt, rest)))
  work (Hangs_up stage side l at) = brief-small _ (ends-then AreSmall (Alter l.client (SetTalk None) ∷ []) (tt, tt) (λ x cs rest. (tt, rest)) _)
  work (Sends stage side l address count receive thread e s own t other here at led free is home theirs) =
      let k = few address count receive.0 receive.1 in (k, (k, (k, tt)))
  work (Sends_service stage side l address count here at) = let k = few address count 0 BLOCK_WORDS in (k, (k, tt))
  work (Sleeps cond m) = (tt, (tt, tt))
  work (Takes_client set slot x idle at) = (tt, (tt, tt))
  work (Passes stage side l thread e to carried here at led free awaits) = (tt, (tt, tt))
  work (Hands_over stage side l thread e k reference p here at led free awaits there read may) = (tt, (tt, (tt, tt)))
  work other = tt

  step : {stage : Stage} {o : Outcome} → Step w c pick stage o → AreBrief (listed o)
  step (Is_refused status) = tt
  step Is_waiting = tt
  step (Raises s page address write port missing) = (tt, tt)
  step (Answers cs answers porter its) = work its
  step (Stays cs said its) = work its
  step (Finishes cs answers me said user own its) = brief-then cs _ (work its) (tt, tt)
  step (Ends cs answers user its) = brief-then cs _ (work its) (tt, tt)

instructs : (w : World) (space : Path) (slot : ℕ) (g : List ℕ) (counter : ℕ) (o : Outcome) → Instructs w space slot g counter o → AreBrief (listed o)
instructs w space slot g counter _ (Stores address value s page home) = (tt, tt)
instructs w space slot g counter _ other = (tt, tt)

serves : (w : World) (port : Path) (pick : Option Path) (ask : Ask) (o : Outcome) → Serves w port pick ask o → AreBrief (listed o)
serves w port pick _ _ (Waits_for_client ask) = tt
serves w port pick _ _ (Accepts x t service there free at) = (tt, (tt, tt))
serves w port pick _ _ (Takes_up x t talk service there free at) = (tt, tt)
serves w port pick _ _ (Gives_nothing words len) = tt
serves w port pick _ _ (Finds_no_room words len x t receive there is full) = (tt, tt)
serves w port pick _ _ (Gives_words words len x t receive s page there is home) =
    let k = few 0 (length (take len words)) receive.0 receive.1 in (k, (k, tt))
serves w port pick _ _ (Passes_client x to at awaits) = (tt, (tt, tt))

lists : (w : World) (x : Path) (pick : Option Path) (ask : Ask) (o : Outcome) → Lists w x pick ask o → AreBrief (listed o)
lists w x pick _ _ (Moves_not ask) = tt
lists w x pick _ _ (Runs t g o there free at by) = instructs w _ _ g t.counter o by
lists w x pick _ _ (Calls t stage todo rest cs said there free at user by) = step by
lists w x pick _ _ (Is_told_no t stage todo rest status there free at) = (tt, tt)
lists w x pick _ _ (Asks t stage words cs said there unheld porter by) = step by
lists w x pick _ _ (Is_answered_no t stage words status there) = tt
lists w x pick _ _ (Acts ask o by) = serves w x pick ask o by

pub moves_are_brief : MovesAreBrief
moves_are_brief w x pick ask = lists w x pick ask _ (moves-listed w x pick ask)
