-- A move raises one fault at most: by the lists of what a move changes.
use Rattle.std.proofs.Common.{◌≡◌, ℕ, ◌+◌, ◌≤◌, Bool, true, false, if◌then◌else◌, List, [], ◌∷◌, ◌++◌, map, Option, Some, None, refl, arith}
use Rattle.fk_model.specs.declared.moves.Ask.{Ask}
use Rattle.fk_model.specs.declared.stage.Stage.{Stage}
use Rattle.fk_model.specs.Places.{Path, leads_to}
use Rattle.fk_model.specs.Objects.{Fault, Body}
use Rattle.fk_model.specs.Objects.Body.{Mutex, Mapping, Region, Port, Thread_of}
use Rattle.fk_model.specs.World.{World, Change, Edit}
use Rattle.fk_model.specs.World.Change.{Alter}
use Rattle.fk_model.specs.World.Edit.{SetTalk, SetFault}
use Rattle.fk_model.specs.Outcomes.{Outcome, Caller, path_of, listed}
use Rattle.fk_model.specs.ObjectRows.{ends_with}
use Rattle.fk_model.specs.Records.{set_edits}
use Rattle.fk_model.specs.Searches.{leaf}
use Rattle.laws_moves.specs.Rows.Stages.{Sets, Work, Step}
use Rattle.laws_moves.specs.Rows.Stages.Work.{Looks, Edits, Makes, Makes_held, Kills, Renames, Sets_record, Copies, Sleeps, Wakes_all}
use Rattle.laws_moves.specs.Rows.Stages.Work.{Takes_client, Hangs_up, Sends, Sends_service, Passes, Hands_over}
use Rattle.laws_moves.specs.Rows.Stages.Step.{Is_refused, Is_waiting, Raises, Answers, Stays, Finishes, Ends}
use Rattle.laws_moves.specs.Rows.Moves.{Instructs, Serves, Lists}
use Rattle.laws_moves.specs.Rows.Moves.Instructs.{Goes_on, Stores, Faults}
use Rattle.laws_moves.specs.Rows.Moves.Serves.{Waits_for_client, Accepts, Takes_up, Gives_nothing, Finds_no_room, Gives_words, Passes_client}
use Rattle.laws_moves.specs.Rows.Moves.Lists.{Moves_not, Runs, Calls, Is_told_no, Asks, Is_answered_no, Acts}
use Rattle.laws_moves.proofs.InRows.Walk.{new_all, drops-all, ends-all, ends-then, sleepers-all}
use Rattle.laws_moves.proofs.InRows.Moves.{moves-listed}
use Rattle.laws_filled_bounds.specs.Driven.{MovesRaiseOnce}
use Rattle.laws_filled_bounds.specs.Taken.{raised_by, raised_in}

module _ (port : Path) where
  abbrev RaisesOnce : List Change → Type 0
  RaisesOnce cs = raised_in port cs ≤ 1

  none : 0 ≤ 1
  none = omega arith

  one-fault : (x : Path) (fault : Fault) → RaisesOnce (Alter x (SetFault (Some fault)) ∷ [])
  one-fault x fault = by (leads_to port fault.port)
    where
      by : (b : Bool) → (if b then 1 else 0) + 0 ≤ 1
      by true = omega arith
      by false = omega arith

  one-edit : (x : Path) (edit : Edit) → RaisesOnce (Alter x edit ∷ [])
  one-edit x (SetFault (Some fault)) = one-fault x fault
  one-edit x other = none

  raised-then : (cs : List Change) (x : Path) (edit : Edit) → raised_by port (Alter x edit) ≡ 0 → RaisesOnce cs → RaisesOnce (cs ++ Alter x edit ∷ [])
  raised-then cs x edit off once = omega (arith, same cs, once)
    where
      same : (ds : List Change) → raised_in port (ds ++ Alter x edit ∷ []) ≡ raised_in port ds
      same [] = omega (arith, off)
      same (c ∷ ds) = omega (arith, same ds)

  edits-once : (x : Path) (b : Body) (words : List ℕ) → RaisesOnce (map (Alter x) (set_edits b words))
  edits-once x (Mutex locked) words = none
  edits-once x (Mapping m) words = none
  edits-once x (Region r) words = none
  edits-once x (Port set served) words = none
  edits-once x (Thread_of t) words = none
  edits-once x b words = none

  module _ (w : World) (c : Caller) (pick : Option Path) where
    work : {stage : Stage} {cs : List Change} {answers : List ℕ} → Work w c pick stage cs answers → RaisesOnce cs
    work (Looks stage answers reads) = none
    work (Edits stage x edit answers edits) = one-edit x edit
    work (Makes s x j kind space made place slot free new there) =
        new_all (λ made. RaisesOnce (made ∷ [])) (x ∷ space) kind made new none none none none none none none none none
    work (Makes_held x j slot there) = none
    work (Kills s x space b place read free apart leafs) =
        let y = leaf w (x ∷ space) in omega (arith, ends-all RaisesOnce none (λ z cs rest. omega (arith, rest)) (ends_with w y (w.body y)))
    work (Renames s x y space b place read free low apart there residents) = none
    work (Sets_record s x address space b words place read free off good from still takes) = edits-once (x ∷ space) b words
    work (Copies stage s page address space t own drops words place there home) =
        omega (arith, drops-all RaisesOnce space page none none drops)
    work (Wakes_all cond) = sleepers-all RaisesOnce w c.space cond none (λ k m cs asleep rest. omega (arith, rest))
    work (Takes_client set slot x idle at) = none
    work (Hangs_up stage side l at) = ends-then RaisesOnce (Alter l.client (SetTalk None) ∷ []) none (λ y cs rest. omega (arith, rest)) _
    work (Sends stage side l address count receive thread e s own t other here at led free is home theirs) = none
    work (Sends_service stage side l address count here at) = none
    work (Sleeps cond m) = none
    work (Passes stage side l thread e to carried here at led free awaits) = none
    work (Hands_over stage side l thread e k reference p here at led free awaits there read may) = none
    work other = none

    step : {stage : Stage} {o : Outcome} → Step w c pick stage o → RaisesOnce (listed o)
    step (Is_refused status) = none
    step Is_waiting = none
    step (Raises s page address write to missing) = one-fault (path_of c) (record { page = page; write = write; port = to; taker = None })
    step (Answers cs answers porter its) = work its
    step (Stays cs said its) = work its
    step (Finishes cs answers me said user own its) = raised-then cs _ _ refl (work its)
    step (Ends cs answers user its) = raised-then cs _ _ refl (work its)

  instructs : (w : World) (space : Path) (slot : ℕ) (g : List ℕ) (counter : ℕ) (o : Outcome) → Instructs w space slot g counter o → RaisesOnce (listed o)
  instructs w space slot g counter _ (Goes_on mode after to) = none
  instructs w space slot g counter _ (Stores address value s page home) = none
  instructs w space slot g counter _ (Faults s page address write to missing) =
      one-fault (slot ∷ space) (record { page = page; write = write; port = to; taker = None })

  serves : (w : World) (x : Path) (pick : Option Path) (ask : Ask) (o : Outcome) → Serves w x pick ask o → RaisesOnce (listed o)
  serves w x pick _ _ (Waits_for_client ask) = none
  serves w x pick _ _ (Accepts y t service there free at) = none
  serves w x pick _ _ (Takes_up y t talk service there free at) = none
  serves w x pick _ _ (Gives_nothing words len) = none
  serves w x pick _ _ (Finds_no_room words len y t receive there is full) = none
  serves w x pick _ _ (Gives_words words len y t receive s page there is home) = none
  serves w x pick _ _ (Passes_client y to at awaits) = none

  lists : (w : World) (x : Path) (pick : Option Path) (ask : Ask) (o : Outcome) → Lists w x pick ask o → RaisesOnce (listed o)
  lists w x pick _ _ (Moves_not ask) = none
  lists w x pick _ _ (Runs t g o there free at by) = instructs w _ _ g t.counter o by
  lists w x pick _ _ (Calls t stage todo rest cs said there free at user by) = step w _ pick by
  lists w x pick _ _ (Is_told_no t stage todo rest status there free at) = none
  lists w x pick _ _ (Asks t stage words cs said there unheld porter by) = step w _ pick by
  lists w x pick _ _ (Is_answered_no t stage words status there) = none
  lists w x pick _ _ (Acts ask o by) = serves w x pick ask o by

pub moves_raise_once_lem : MovesRaiseOnce
moves_raise_once_lem port w x pick ask = lists port w x pick ask _ (moves-listed w x pick ask)
