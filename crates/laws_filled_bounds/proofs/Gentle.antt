-- Every row takes only faults that are open, makes threads without a fault, and renames to empty slots: by the lists of what a move changes.
use Rattle.std.proofs.Common.{◌≡◌, ℕ, Bool, true, false, if◌then◌else◌, is_some, List, [], ◌∷◌, ◌++◌, map, Option, Some, None, option_map, refl}
use Rattle.fk_model.specs.declared.moves.Ask.{Ask}
use Rattle.fk_model.specs.declared.stage.Stage.{Stage}
use Rattle.fk_model.specs.Places.{Path, parent}
use Rattle.fk_model.specs.Objects.{Talk, Fault, Thread, Body, and_then, or_else, holds}
use Rattle.fk_model.specs.Objects.Body.{Mutex, Mapping, Region, Port, Thread_of}
use Rattle.fk_model.specs.World.{World, Change, Edit, apply}
use Rattle.fk_model.specs.World.Change.{Alter, PutPage}
use Rattle.fk_model.specs.World.Edit.{SetTalk}
use Rattle.fk_model.specs.Searches.{thread_at, fault_at}
use Rattle.fk_model.specs.Holds.{is_free, is_unheld}
use Rattle.fk_model.specs.Outcomes.{Outcome, Caller, listed}
use Rattle.fk_model.specs.Records.{set_edits}
use Rattle.fk_model.specs.LinkRows.{Candidate, is_open, is_parked, slot_in_set, connecting_to, connecting, resuming, candidate_by, candidate}
use Rattle.fk_model.specs.LinkRows.Candidate.{Faulting, Connecting, Resuming}
use Rattle.laws_moves.specs.Rows.Stages.{Sets, Work, Step}
use Rattle.laws_moves.specs.Rows.Stages.Sets.{Locks, Takes_fault}
use Rattle.laws_moves.specs.Rows.Stages.Work.{Looks, Edits, Makes, Makes_held, Kills, Renames, Sets_record, Copies, Sleeps, Wakes_all}
use Rattle.laws_moves.specs.Rows.Stages.Work.{Takes_client, Hangs_up, Sends, Sends_service, Passes, Hands_over}
use Rattle.laws_moves.specs.Rows.Stages.Step.{Is_refused, Is_waiting, Raises, Answers, Stays, Finishes, Ends}
use Rattle.laws_moves.specs.Rows.Moves.{Instructs, Serves, Lists}
use Rattle.laws_moves.specs.Rows.Moves.Instructs.{Stores}
use Rattle.laws_moves.specs.Rows.Moves.Serves.{Waits_for_client, Accepts, Takes_up, Gives_nothing, Finds_no_room, Gives_words, Passes_client}
use Rattle.laws_moves.specs.Rows.Moves.Lists.{Moves_not, Runs, Calls, Is_told_no, Asks, Is_answered_no, Acts}
use Rattle.laws_moves.proofs.InRows.Walk.{new_all, drops-all, ends-all, ends-then, sleepers-all}
use Rattle.laws_moves.proofs.InRows.Moves.{moves-listed}
use Rattle.laws_filled_bounds.specs.Gentle.{IsGentle, IsGentleEdit, AreGentle, RowsAreGentle}

gentle-then : (w : World) (cs ds : List Change) → AreGentle w cs → ((v : World) → AreGentle v ds) → AreGentle w (cs ++ ds)
gentle-then w [] ds gentle after = after w
gentle-then w (c ∷ cs) ds gentle after = (gentle.0, gentle-then (apply c w) cs ds gentle.1 after)

-- in whatever world
abbrev AreAlwaysGentle : List Change → Type 0
AreAlwaysGentle cs = (v : World) → AreGentle v cs

edits-gentle : (w : World) (x : Path) (b : Body) (words : List ℕ) → AreGentle w (map (Alter x) (set_edits b words))
edits-gentle w x (Mutex locked) words = (tt, tt)
edits-gentle w x (Mapping m) words = (tt, tt)
edits-gentle w x (Region r) words = (tt, tt)
edits-gentle w x (Port set served) words = (tt, tt)
edits-gentle w x (Thread_of t) words = (tt, (tt, tt))
edits-gentle w x b words = tt

empty : (o : Option Body) → is_some o ≡ false → o ≡ None
empty None e = refl
empty (Some b) e = cc

-- ---- who comes by a fault has an open one

module _ (w : World) where
  abbrev is_fault : Option Candidate → Bool
  is_fault (Some (Faulting slot fault)) = true
  is_fault other = false

  -- who comes by a fault has an open one
  comes-open : (space : Path) (set : ℕ) (x : Path) (t : Thread) → is_fault (candidate_by w space set x t) ≡ true →
      holds (λ (fault : Fault). is_open fault.taker) t.fault ≡ true
  comes-open space set x t e = by t.fault e
    where
      rest : (b : Bool) (o p : Option Candidate) → is_fault o ≡ false → is_fault p ≡ false → is_fault (if b then or_else o p else None) ≡ false
      rest true None p e f = f
      rest true (Some c) p e f = e
      rest false o p e f = refl

      others : Bool → Option Candidate
      others b = if b then or_else (connecting w space set x t) (resuming w space set t) else None

      connects : is_fault (connecting w space set x t) ≡ false
      connects = of_slot (and_then (slot_in_set w space set) (connecting_to w x t))
        where
          of_slot : (o : Option ℕ) → is_fault (option_map Connecting o) ≡ false
          of_slot None = refl
          of_slot (Some k) = refl

      resumes : is_fault (resuming w space set t) ≡ false
      resumes = of_talk t.talk
        where
          of_slot : (talk : Talk) (b : Bool) (o : Option ℕ) → is_fault (if b then option_map (λ slot. Resuming slot talk) o else None) ≡ false
          of_slot talk true None = refl
          of_slot talk true (Some k) = refl
          of_slot talk false o = refl

          of_talk : (o : Option Talk) →
              is_fault (and_then (λ (talk : Talk). if is_parked (Some talk.peer) then option_map (λ slot. Resuming slot talk)
              (slot_in_set w space set talk.port) else None) o) ≡ false
          of_talk None = refl
          of_talk (Some talk) = of_slot talk (is_parked (Some talk.peer)) (slot_in_set w space set talk.port)

      first : (fault : Fault) (b : Bool) (o : Option ℕ) (free : Bool) →
          is_fault (or_else (if b then option_map (λ slot. Faulting slot fault) o else None) (others free)) ≡ true → b ≡ true
      first fault true o free h = refl
      first fault false o free h = let none = rest free (connecting w space set x t) (resuming w space set t) connects resumes in cc

      by : (o : Option Fault) →
          is_fault (or_else (and_then
          (λ (fault : Fault). if is_open fault.taker then option_map (λ slot. Faulting slot fault) (slot_in_set w space set fault.port) else None) o)
          (others (is_free w (parent x) t))) ≡ true → holds (λ (fault : Fault). is_open fault.taker) o ≡ true
      by None h = let none = rest (is_free w (parent x) t) (connecting w space set x t) (resuming w space set t) connects resumes in cc
      by (Some fault) h = first fault (is_open fault.taker) (slot_in_set w space set fault.port) (is_free w (parent x) t) h

  candidate-open : (space : Path) (set : ℕ) (x : Path) → is_fault (candidate w space set x) ≡ true →
      holds (λ (fault : Fault). is_open fault.taker) (fault_at w x) ≡ true
  unfolding candidate
  candidate-open space set x e = by (is_unheld w (parent x)) (thread_at w x) e
    where
      by : (b : Bool) (o : Option Thread) → is_fault (if b then and_then (candidate_by w space set x) o else None) ≡ true →
          holds (λ (fault : Fault). is_open fault.taker) (and_then (λ (t : Thread). t.fault) o) ≡ true
      by true (Some t) h = comes-open space set x t h
      by true None h = cc
      by false None h = cc
      by false (Some t) h = cc

-- ---- by the lists

module _ (w : World) (c : Caller) (pick : Option Path) where
  sets : {stage : Stage} {x : Path} {edit : Edit} {answers : List ℕ} → Sets w c pick stage x edit answers → IsGentleEdit w x edit
  sets (Locks stage m was locked read) = tt
  sets (Takes_fault set slot x fault idle at) = candidate-open w c.space set x (rw at refl)
  sets other = tt

  work : {stage : Stage} {cs : List Change} {answers : List ℕ} → Work w c pick stage cs answers → AreGentle w cs
  work (Looks stage answers reads) = tt
  work (Edits stage x edit answers edits) = (sets edits, tt)
  work (Makes s x j kind space made place slot free new there) =
      new_all (λ made. AreGentle w (made ∷ [])) (x ∷ space) kind made new
      (refl, tt) (refl, tt) (refl, tt) (refl, tt) (refl, tt) (refl, tt) (tt, tt) (refl, tt) (refl, tt)
  work (Makes_held x j slot there) = (tt, tt)
  work (Kills s x space b place read free apart leaf) = (tt, ends-all AreAlwaysGentle (λ v. tt) (λ y cs rest v. (tt, rest (apply (Alter y _) v))) _ _)
  work (Renames s x y space b place read free low apart there residents) = (empty (w.body (y ∷ space)) there, tt)
  work (Sets_record s x address space b words place read free none good from still takes) = edits-gentle w (x ∷ space) b words
  work (Copies stage s page address space t own drops words place there home) =
      (tt, drops-all (AreGentle (apply (PutPage t own words) w)) space page tt (tt, tt) drops)
  work (Wakes_all cond) = sleepers-all AreAlwaysGentle w c.space cond (λ v. tt) (λ k m cs asleep rest v. (tt, rest (apply (Alter (k ∷ c.space) _) v))) w
  work (Takes_client set slot x idle at) = (tt, (tt, tt))
  work (Hangs_up stage side l at) =
      ends-then AreAlwaysGentle (Alter l.client (SetTalk None) ∷ []) (λ v. (tt, tt)) (λ y cs rest v. (tt, rest (apply (Alter y _) v))) _ w
  work (Sends stage side l address count receive thread e s own t other here at led free is home theirs) = (tt, (tt, (tt, (tt, tt))))
  work (Sends_service stage side l address count here at) = (tt, (tt, tt))
  work (Sleeps cond m) = (tt, (tt, tt))
  work (Passes stage side l thread e to carried here at led free awaits) = (tt, (tt, tt))
  work (Hands_over stage side l thread e k reference p here at led free awaits there read may) = (tt, (tt, (tt, tt)))
  work other = (tt, tt)

  step : {stage : Stage} {o : Outcome} → Step w c pick stage o → AreGentle w (listed o)
  step (Is_refused status) = tt
  step Is_waiting = tt
  step (Raises s page address write port missing) = (tt, tt)
  step (Answers cs answers porter its) = work its
  step (Stays cs said its) = work its
  step (Finishes cs answers me said user own its) = gentle-then w cs _ (work its) (λ v. (tt, tt))
  step (Ends cs answers user its) = gentle-then w cs _ (work its) (λ v. (tt, tt))

instructs : (w : World) (space : Path) (slot : ℕ) (g : List ℕ) (counter : ℕ) (o : Outcome) → Instructs w space slot g counter o → AreGentle w (listed o)
instructs w space slot g counter _ (Stores address value s page home) = (tt, (tt, tt))
instructs w space slot g counter _ other = (tt, tt)

serves : (w : World) (port : Path) (pick : Option Path) (ask : Ask) (o : Outcome) → Serves w port pick ask o → AreGentle w (listed o)
serves w port pick _ _ (Waits_for_client ask) = tt
serves w port pick _ _ (Accepts x t service there free at) = (tt, (tt, tt))
serves w port pick _ _ (Takes_up x t talk service there free at) = (tt, tt)
serves w port pick _ _ (Gives_nothing words len) = tt
serves w port pick _ _ (Finds_no_room words len x t receive there is full) = (tt, tt)
serves w port pick _ _ (Gives_words words len x t receive s page there is home) = (tt, (tt, (tt, tt)))
serves w port pick _ _ (Passes_client x to at awaits) = (tt, (tt, tt))

lists : (w : World) (x : Path) (pick : Option Path) (ask : Ask) (o : Outcome) → Lists w x pick ask o → AreGentle w (listed o)
lists w x pick _ _ (Moves_not ask) = tt
lists w x pick _ _ (Runs t g o there free at by) = instructs w _ _ g t.counter o by
lists w x pick _ _ (Calls t stage todo rest cs said there free at user by) = step w _ pick by
lists w x pick _ _ (Is_told_no t stage todo rest status there free at) = (tt, tt)
lists w x pick _ _ (Asks t stage words cs said there unheld porter by) = step w _ pick by
lists w x pick _ _ (Is_answered_no t stage words status there) = tt
lists w x pick _ _ (Acts ask o by) = serves w x pick ask o by

pub rows_are_gentle_lem : RowsAreGentle
rows_are_gentle_lem w x pick ask = lists w x pick ask _ (moves-listed w x pick ask)
