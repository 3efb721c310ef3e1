-- No move lists a change that sets a pointer that stands in cuts alone: by the lists of `laws_moves::rows`.
use Rattle.std.proofs.Common.{◌≡◌, ℕ, Bool, true, false, if◌then◌else◌, ◌==◌, List, [], ◌∷◌, map, Option, Some, None, refl, ap, ◌∙◌}
use Rattle.std.proofs.lemmas.Bool.{not-false}
use Rattle.fk_model.specs.declared.moves.Ask.{Ask}
use Rattle.fk_model.specs.declared.names.Kind.TheVariants as kinds
use Rattle.fk_model.specs.declared.stage.Stage.{Stage}
use Rattle.fk_model.specs.Places.{Path, Ptr}
use Rattle.fk_model.specs.Places.Ptr.{At}
use Rattle.fk_model.specs.Objects.{Body, holds, is_served}
use Rattle.fk_model.specs.Objects.Peer.{Parked}
use Rattle.fk_model.specs.Objects.Body.{Mutex, Mapping, Region, Port, Thread_of}
use Rattle.fk_model.specs.World.{World, Change, Edit}
use Rattle.fk_model.specs.World.Change.{Alter}
use Rattle.fk_model.specs.World.Edit.{SetTalk}
use Rattle.fk_model.specs.Searches.{option_list, peer_pointer}
use Rattle.fk_model.specs.Reach.{reach_word}
use Rattle.fk_model.specs.Reach.Reach.{Missing}
use Rattle.fk_model.specs.Outcomes.{Outcome, Caller}
use Rattle.fk_model.specs.Records.{set_edits, record_registers, word}
use Rattle.fk_model.specs.Moves.{outcome}
use Rattle.fk_model.specs.Sound.{IsUncut}
use Rattle.laws_moves.proofs.InMachine.safety.Reads.{object-there}
use Rattle.laws_moves.specs.Rows.Stages.{Sets, Work, Step}
use Rattle.laws_moves.specs.Rows.Stages.Sets.{Points, Clears, Gets_pointer, Sets_pointer, Holds, Releases, Restores_hold, Takes_fault, Resumes, Frees}
use Rattle.laws_moves.specs.Rows.Stages.Sets.{Restores_talk, Parks_talk, Restores_fault, Parks_fault}
use Rattle.laws_moves.specs.Rows.Stages.Work.{Looks, Edits, Makes, Makes_held, Kills, Renames, Sets_record, Copies, Sleeps, Wakes_all}
use Rattle.laws_moves.specs.Rows.Stages.Work.{Takes_client, Hangs_up, Sends, Sends_service, Passes, Hands_over, Hands_over}
use Rattle.laws_moves.specs.Rows.Stages.Step.{Is_refused, Is_waiting, Raises, Answers, Stays, Finishes, Ends}
use Rattle.laws_moves.specs.Rows.Moves.{Instructs, Serves, Lists}
use Rattle.laws_moves.specs.Rows.Moves.Instructs.{Goes_on, Stores, Faults}
use Rattle.laws_moves.specs.Rows.Moves.Serves.{Waits_for_client, Accepts, Takes_up, Gives_nothing, Finds_no_room, Gives_words, Passes_client}
use Rattle.laws_moves.specs.Rows.Moves.Lists.{Moves_not, Runs, Calls, Is_told_no, Asks, Is_answered_no, Acts}
use Rattle.laws_moves.proofs.InRows.Walk.{new_all, drops-all, ends-all, ends-then, sleepers-all}
use Rattle.laws_moves.proofs.InRows.Moves.{moves-listed}
use Rattle.laws_moves.proofs.InFrozen.Users.{record_mode, goes_to}
use Rattle.laws_subtrees.proofs.InUncut.Outcomes.{AreOurs, IsOursEdit, SetOurs, IsOursRow, ours-row, OursIn, OursOutcome, row-then}
use Rattle.laws_subtrees.proofs.InUncut.Found.{both-ours, pair-ours, one-ours, reference-ours, referred-ours, taker-ours, pointer-ours, field-ours, IsOursReach}
use Rattle.laws_subtrees.proofs.InUncut.Found.{word-ours}

edits-ours : (x : Path) (b : Body) (words : List ℕ) → SetOurs (map (Alter x) (set_edits b words))
edits-ours x (Mutex locked) words = (tt, tt)
edits-ours x (Mapping m) words = (tt, tt)
edits-ours x (Region r) words = (tt, tt)
edits-ours x (Port set served) words = (tt, tt)
edits-ours x (Thread_of t) words = (record_mode (word words 18) (record_registers words) (word words 19), (tt, tt))
edits-ours x b words = tt

parks : (t : Bool) → AreOurs (option_list peer_pointer (if t then Some Parked else None))
parks true = refl
parks false = refl

module _ (w : World) (uncut : IsUncut w) where
  keeps : (s : Path) (address : ℕ) (write : Bool) (t : Path) (page : ℕ) (port : Ptr) → reach_word w s address write ≡ Missing t page (Some port) →
      AreOurs (port ∷ [])
  keeps s address write t page port e = let ours : IsOursReach w uncut (reach_word w s address write) = word-ours w uncut s address write in rw e at ours

  -- ---- stages

  module _ (c : Caller) (pick : Option Path) where
    sets : {stage : Stage} {x : Path} {edit : Edit} {answers : List ℕ} → Sets w c pick stage x edit answers → IsOursEdit edit
    sets (Points s x s2 x2 space space2 old to place place2 read read2 free) = pointer-ours w uncut c space2 x2 to read2
    sets (Clears s x space old place read free) = refl
    sets (Gets_pointer s x field k space b old found place read read2 has inner) = field-ours w uncut c space x field b found read has
    sets (Sets_pointer s x field k space b to place read read2 free inner among) = reference-ours w uncut c c.space k to read2
    sets (Holds s x space was place read free apart alone) = refl
    sets (Releases s x space was place read holds) = refl
    sets (Restores_hold s x thread space was holder place read read2 free) = one-ours holder (referred-ours w uncut c kinds.Thread thread holder read2)
    sets (Takes_fault set slot x fault idle at) = refl
    sets (Resumes set slot x talk idle at) = refl
    sets (Frees x at unheld) = refl
    sets (Restores_talk s x port server space t at thread place read read2 read3 free) =
        pair-ours at thread (referred-ours w uncut c kinds.Port port at read2) (referred-ours w uncut c kinds.Thread server thread read3)
    sets (Parks_talk s x port space t was place read read2 free) = refl
    sets (Restores_fault s x port taker space t at who place read read2 named free) =
        both-ours (at ∷ []) (option_list peer_pointer who) (one-ours at (referred-ours w uncut c kinds.Port port at read2))
        (taker-ours w uncut c taker who named)
    sets (Parks_fault s x port taken space t was place read read2 free) =
        both-ours (At (port ∷ c.space) ∷ []) (option_list peer_pointer (if taken == 1 then Some Parked else None)) refl (parks (taken == 1))
    sets other = tt

    work : {stage : Stage} {cs : List Change} {answers : List ℕ} → Work w c pick stage cs answers → IsOursRow w cs
    work (Looks stage answers reads) = tt
    work (Edits stage x edit answers edits) = (sets edits, tt)
    work (Makes s x j kind space made place slot free new empty) =
        new_all (λ made. IsOursRow w (made ∷ [])) (x ∷ space) kind made new
        ((refl, refl, refl), tt) ((refl, refl, refl), tt) ((refl, refl, refl), tt) ((refl, refl, refl), tt) ((refl, refl, refl), tt) ((refl, refl, refl), tt)
        (refl, tt) ((refl, refl, refl), tt) ((refl, refl, refl), tt)
    work (Makes_held x j slot empty) = (refl, tt)
    work (Kills s x space b place read free apart leaf) = (tt, ends-all SetOurs tt (λ x cs rest. (tt, rest)) _)
    work (Renames s x y space b place read free low apart empty residents) =
        (not-false _ low, ap (λ (o : Option Body). holds is_served o) (object-there w c x space b read) ∙ apart, tt)
    work (Sets_record s x address space b words place read free off good from still takes) = ours-row w _ (edits-ours (x ∷ space) b words)
    work (Copies stage s page address space t own drops words place there home) = (tt, drops-all SetOurs space page tt (tt, tt) drops)
    work (Wakes_all cond) = ours-row w _ (sleepers-all SetOurs w c.space cond tt (λ x m cs asleep rest. (tt, rest)))
    work (Takes_client set slot x idle at) = (refl, (tt, tt))
    work (Hangs_up stage side l at) = ours-row w _ (ends-then SetOurs (Alter l.client (SetTalk None) ∷ []) (refl, tt) (λ x cs rest. (tt, rest)) _)
    work (Sends stage side l address count receive thread e s own t other here at led free is home theirs) = (tt, (tt, (tt, (tt, tt))))
    work (Sleeps cond m) = (tt, (tt, tt))
    work (Sends_service stage side l address count here at) = (tt, (tt, tt))
    work (Passes stage side l thread e to carried here at led free awaits) = (tt, (tt, tt))
    work (Hands_over stage side l thread e k reference p here at led free awaits there read may) =
        (reference-ours w uncut c c.space reference p read, (tt, (tt, tt)))
    work other = (tt, tt)

    step : {stage : Stage} {o : Outcome} → Step w c pick stage o → OursIn w o
    step (Is_refused status) = tt
    step Is_waiting = tt
    step (Raises s page address write port missing) = (keeps c.space address write s page port missing, tt)
    step (Answers cs answers porter its) = work its
    step (Stays cs said its) = work its
    step (Finishes cs answers me said user own its) = row-then w cs _ (work its) (tt, tt)
    step (Ends cs answers user its) = row-then w cs _ (work its) (tt, tt)

  -- ---- instructions and acts

  instructs : {space : Path} {slot : ℕ} {g : List ℕ} {counter : ℕ} {o : Outcome} → Instructs w space slot g counter o → OursIn w o
  instructs (Goes_on mode after to) = (goes_to to, tt)
  instructs (Stores address value s page home) = (tt, (refl, tt))
  instructs {space} (Faults s page address write port missing) = (keeps space address write s page port missing, tt)

  serves : {port : Path} {pick : Option Path} {ask : Ask} {o : Outcome} → Serves w port pick ask o → OursIn w o
  serves (Waits_for_client ask) = tt
  serves (Accepts x t service there free at) = (refl, (tt, tt))
  serves (Takes_up x t talk service there free at) = (refl, tt)
  serves (Gives_nothing words len) = tt
  serves (Finds_no_room words len x t receive there is full) = (tt, tt)
  serves (Gives_words words len x t receive s page there is home) = (tt, (tt, (tt, tt)))
  serves (Passes_client x to at awaits) = (tt, (tt, tt))

  lists : {x : Path} {pick : Option Path} {ask : Ask} {o : Outcome} → Lists w x pick ask o → OursIn w o
  lists (Moves_not ask) = tt
  lists (Runs t g o there free at by) = instructs by
  lists (Calls t stage todo rest cs said there free at user by) = step _ _ by
  lists (Is_told_no t stage todo rest status there free at) = (tt, tt)
  lists (Asks t stage words cs said there unheld porter by) = step _ _ by
  lists (Is_answered_no t stage words status there) = tt
  lists (Acts ask o by) = serves by

pub outcome-ours : (w : World) (x : Path) (pick : Option Path) (ask : Ask) → IsUncut w → OursOutcome w (outcome w x pick ask)
outcome-ours w x pick ask uncut = record { ours = lists w uncut (moves-listed w x pick ask) }
